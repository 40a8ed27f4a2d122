use Rattle.std.proofs.Common.{◌<◌, sym, ◌∙◌, subst}
use Rattle.af_marker.specs.declared.ipv6.Ipv6Header.{Ipv6Header}
use Rattle.af_marker.proofs.Ipv6Laws.{whole, longer}
use Rattle.af_marker.proofs.ipv6_reading.ipv6_header.Goals as goal

pub returns-in-None-clause-whole : goal.returns-in-None-clause-whole
returns-in-None-clause-whole c =
    let passes = sym c.fault_of_ipv6.ensures ∙ c.in-None.is in
    (whole c.args.bytes.now passes, subst (λ (h : Ipv6Header). 40 < h.total) (sym c.fields_of_ipv6.ensures) (longer c.args.bytes.now passes))
