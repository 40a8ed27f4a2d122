use Rattle.std.proofs.Common.{◌+◌, ◌-◌, ◌*◌, ◌%◌, ◌<◌, length, length-drop, drop, slice_index, ap, ◌∙◌, arith}
use Rattle.std.proofs.Math.Facts.{Fits-lt-pow}
use Rattle.std.proofs.lemmas.List.{take_all}
use Rattle.byteorder.specs.Endian.{big_number}
use Rattle.af_marker.proofs.ByteLaws.{Bytes-of_items}
use Rattle.af_marker.proofs.UpdateLaws.{updated_is}
use Rattle.af_marker.proofs.marking.checksum_with.Goals as goal

pub returns : goal.returns
returns c =
    let bytes = c.args.bytes.now in
    let fits : 4 * c.args.dscp + slice_index bytes 1 % 4 < 256 = omega arith in
    let same = updated_is c.args.dscp bytes (Bytes-of_items bytes (λ k. Fits-lt-pow (c.type_inv.bytes k))) fits c.requires.whole c.requires.verified in
    let behind = take_all (length bytes - 10) (drop 10 bytes) (omega (arith, length-drop 10 bytes)) in
    let read = c.read_u16-checksum.ensures ∙ ap (big_number 2) behind in
    c.updated_checksum.ensures ∙ rw (read, c.from.ensures, c.from-2.ensures, c.in_byte-after.ensures) same
