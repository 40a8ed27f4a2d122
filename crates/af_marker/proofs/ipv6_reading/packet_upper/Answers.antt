use Rattle.std.proofs.Common.{ℕ, List, ap, ◌∙◌, arith}
use Rattle.af_marker.proofs.Ipv6Laws.{upper_within}
use Rattle.af_marker.proofs.ipv6_reading.packet_upper.Goals as goal

pub returns-clause-number : goal.returns-clause-number
returns-clause-number c =
    ap (λ (u : ℕ × List ℕ). u.0)
    (c.upper_of.ensures ∙ upper_within 8 c.args.bytes.now c.min.result c.args.payload (omega (arith, c.min.ensures, c.from.ensures)) c.requires.payload)

pub returns-clause-bytes : goal.returns-clause-bytes
returns-clause-bytes c =
    ap (λ (u : ℕ × List ℕ). u.1)
    (c.upper_of.ensures ∙ upper_within 8 c.args.bytes.now c.min.result c.args.payload (omega (arith, c.min.ensures, c.from.ensures)) c.requires.payload)
