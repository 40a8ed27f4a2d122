use Rattle.std.proofs.Common.{◌-◌, length, length-drop, drop, ap, ◌∙◌, arith}
use Rattle.std.proofs.lemmas.List.{take_all}
use Rattle.std.specs.Prelude.{nat_le}
use Rattle.byteorder.specs.Endian.{big_number}
use Rattle.af_marker.proofs.ipv6_reading.is_later_fragment.Goals as goal

pub returns-then-number-eq-FRAGMENT : goal.returns-then-number-eq-FRAGMENT
returns-then-number-eq-FRAGMENT c =
    let bytes = c.args.bytes.now in
    let all = take_all (length bytes - 2) (drop 2 bytes) (omega (arith, length-drop 2 bytes)) in
    rw c.if-number-eq-FRAGMENT.true (ap (nat_le 8) (c.read_u16.ensures ∙ ap (big_number 2) all))
