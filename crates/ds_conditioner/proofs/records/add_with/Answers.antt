use Rattle.std.proofs.Common.{◌≡◌, ◌++◌, ◌+◌, List, ℕ, length, drop, ap, arith, sym, append_assoc, ◌∙◌}
use Rattle.pcapng_capture.specs.Marks.{marked_text}
use Rattle.frame_marker.specs.Frames.{marked_frame}
use Rattle.ds_conditioner.proofs.OwnLaws.{before, behind, parts_of, there, within}
use Rattle.ds_conditioner.proofs.records.add_with.Goals as goal

pub mark_between-requires-clause-within : goal.mark_between-requires-clause-within
mark_between-requires-clause-within c =
    let f = c.args.frame.now.frame in
    let out = c.args.out.now.items in
    let parts = parts_of f c.head.ensures.long in
    let start = c.len-before.result + length c.head.result.now in
    let end = start + length c.bytes.result.now in
    let same : c.copy_to.new.out.items ≡ out ++ (parts.0 ++ (f.bytes ++ parts.1)) = c.in_ok-copy_to.ensures ∙ ap (λ (it : List ℕ). out ++ it) (parts.2.text f.bytes) in
    let first : start ≡ length out + length parts.0 = omega (arith, c.len-before.ensures, ap length c.head.ensures.value, parts.2.long) in
    let last : end ≡ start + length f.bytes = omega (arith, ap length c.bytes.ensures) in
    within out parts.0 f.bytes parts.1 c.copy_to.new.out.items start end same first last

pub mark_between-requires-clause-bytes : goal.mark_between-requires-clause-bytes
mark_between-requires-clause-bytes c =
    let f = c.args.frame.now.frame in
    let out = c.args.out.now.items in
    let parts = parts_of f c.head.ensures.long in
    let start = c.len-before.result + length c.head.result.now in
    let end = start + length c.bytes.result.now in
    let same : c.copy_to.new.out.items ≡ out ++ (parts.0 ++ (f.bytes ++ parts.1)) = c.in_ok-copy_to.ensures ∙ ap (λ (it : List ℕ). out ++ it) (parts.2.text f.bytes) in
    let first : start ≡ length out + length parts.0 = omega (arith, c.len-before.ensures, ap length c.head.ensures.value, parts.2.long) in
    let last : end ≡ start + length f.bytes = omega (arith, ap length c.bytes.ensures) in
    there out parts.0 f.bytes parts.1 c.copy_to.new.out.items start end same first last

pub returns : goal.returns
returns c = λ link seen.
    let f = c.args.frame.now.frame in
    let out = c.args.out.now.items in
    let parts = parts_of f c.head.ensures.long in
    let start = c.len-before.result + length c.head.result.now in
    let end = start + length c.bytes.result.now in
    let same : c.copy_to.new.out.items ≡ out ++ (parts.0 ++ (f.bytes ++ parts.1)) = c.in_ok-copy_to.ensures ∙ ap (λ (it : List ℕ). out ++ it) (parts.2.text f.bytes) in
    let first : start ≡ length out + length parts.0 = omega (arith, c.len-before.ensures, ap length c.head.ensures.value, parts.2.long) in
    let last : end ≡ start + length f.bytes = omega (arith, ap length c.bytes.ensures) in
    let made = marked_frame link c.args.dscp f.bytes in
    let front = before out parts.0 f.bytes parts.1 c.copy_to.new.out.items start end same first last in
    let back = behind out parts.0 f.bytes parts.1 c.copy_to.new.out.items start end same first last in
    let marked : c.mark_between.new.text.items ≡ out ++ marked_text f made =
    c.mark_between.ensures link seen ∙ ap (λ (it : List ℕ). it ++ (made ++ drop end c.copy_to.new.out.items)) front
    ∙ ap (λ (it : List ℕ). (out ++ parts.0) ++ (made ++ it)) back ∙ append_assoc out parts.0 (made ++ parts.1)
    ∙ ap (λ (it : List ℕ). out ++ it) (sym (parts.2.text made)) in
    marked
