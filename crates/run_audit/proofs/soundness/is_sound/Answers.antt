use Rattle.std.proofs.Common.{ap, subst, sym, ◌∙◌, option_copied}
use Rattle.std.proofs.lemmas.Bool.{false≢true}
use Rattle.std.proofs.lemmas.Option.{none-some, same_Some}
use Rattle.ds_domain_base.specs.Domains.{Domain}
use Rattle.ds_domain_base.specs.Sent.{came}
use Rattle.ds_domain_base.specs.declared.contract.Contract.{Contract}
use Rattle.run_audit.specs.Bases.{basis_of}
use Rattle.meter_fabric_base.specs.Sites.{hops_of}
use Rattle.meter_fabric_base.specs.Trails.{IsTrail, packet_of}
use Rattle.run_audit.proofs.soundness.is_sound.Goals as goal

pub returns-in_default : goal.returns-in_default
returns-in_default c = (
  λ passed. absurd (false≢true passed),
  λ sound. let (own, is_own, way) = sound.0 in absurd (none-some own (ap option_copied (sym c.in_default.is) ∙ c.contract_of.ensures.value ∙ is_own)),
)

pub returns-then-is_trail : goal.returns-then-is_trail
returns-then-is_trail c =
    let trail = c.args.trail.now in
    let contract = c.in-Some.contract.now in
    let own = subst (λ (d : Domain). IsTrail (packet_of trail) trail.begun (came contract trail.dscp) (hops_of d trail.flow contract) trail.receipts.items)
    c.domain.ensures.value (c.is_trail.ensures.0 c.if-is_trail.true) in (
      λ noted. ((contract, sym c.in-Some.ensures.value, own), c.are_noted.ensures.0 noted),
      λ sound. c.are_noted.ensures.1 sound.1,
    )

pub returns-else-is_trail : goal.returns-else-is_trail
returns-else-is_trail c =
    let trail = c.args.trail.now in
    let contract = c.in-Some.contract.now in (
      λ passed. absurd (false≢true (sym c.if-is_trail.false ∙ passed)),
      λ sound.
          let (own, is_own, way) = sound.0 in
          let same = same_Some own contract (sym is_own ∙ sym c.in-Some.ensures.value) in
          let here = subst (λ (x : Contract). IsTrail (packet_of trail) trail.begun (came x trail.dscp) (hops_of (basis_of c.args.basis.now).domain trail.flow x) trail.receipts.items) same way in
          c.is_trail.ensures.1 (subst (λ (d : Domain). IsTrail (packet_of trail) trail.begun (came contract trail.dscp) (hops_of d trail.flow contract) trail.receipts.items)
          (sym c.domain.ensures.value) here),
    )
