use Rattle.std.proofs.Common.{◌≡◌, ◌≤◌, length, slice_set, ap, sym, ◌∙◌, arith}
use Rattle.af_marker.specs.Marks.{with_checksum, with_dscp}
use Rattle.af_marker.proofs.MarkLaws.{marked_right, marked_wrong, whole, with_dscp_front}
use Rattle.af_marker.proofs.marking.set_dscp.Goals.{then-verified, else-verified}
use Rattle.af_marker.proofs.marking.set_dscp.Goals as goal

pub returns : goal.returns
returns c =
    let bytes = c.args.bytes.now in
    let is_whole = whole bytes c.requires.whole in
    let long : 12 ≤ length bytes = omega (arith, is_whole.least, is_whole.most) in
    let put : slice_set c.if-verified.bytes 1 c.in_byte.result ≡ with_dscp c.args.dscp c.if-verified.bytes =
    ap (slice_set c.if-verified.bytes 1) c.in_byte.ensures in
    elim c.if-verified.branch [
      | then-verified w ↦
          let x = w.checksum_with-checksum.result in
          put ∙ ap (with_dscp c.args.dscp) (w.bytes-is ∙ w.put_checksum.ensures) ∙ with_dscp_front x c.args.dscp bytes long
          ∙ ap (λ n. with_checksum n (with_dscp c.args.dscp bytes)) w.checksum_with-checksum.ensures
          ∙ sym (marked_right c.args.dscp bytes (sym c.requires.verified ∙ w.if-verified.true))
      | else-verified w ↦
          put ∙ ap (with_dscp c.args.dscp) w.bytes-is ∙ sym (marked_wrong c.args.dscp bytes (sym c.requires.verified ∙ w.if-verified.false))
    ]
