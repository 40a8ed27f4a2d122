use Rattle.std.proofs.Common.{◌≡◌, nat_eq, bit_and, refl, ap, ◌∙◌}
use Rattle.std.proofs.Math.Facts.{Fits-lt-pow}
use Rattle.flow_classifier.specs.Matching.{agree}
use Rattle.flow_classifier.specs.Parts.{PrefixValue, network_of}
use Rattle.flow_classifier.proofs.MaskLaws.{masked, same_network}
use Rattle.flow_classifier.proofs.rule.Ipv4Prefix.contains.Goals as goal

pub returns : goal.returns
returns c =
    let p = c.self.inside in
    let asked = masked c.args.address p.mask p.length (Fits-lt-pow c.ranges.address) c.self.invariant.1 in
    let under : nat_eq (bit_and c.args.address p.mask) p.network ≡ nat_eq (network_of c.args.address p.length) (network_of p.address p.length) =
    rw (asked, c.self.invariant.2) refl in
    under ∙ same_network c.args.address p.address p.length ∙ ap (λ (v : PrefixValue). agree 32 v c.args.address) c.self.view_is
