use Rattle.std.proofs.Common.{⊎_elim, map, refl, sym, subst, arith, Contains, IsSome}
use Rattle.std.proofs.lemmas.Bool.{cases_eq}
use Rattle.run_audit.specs.Bases.{basis_of}
use Rattle.meter_fabric_base.specs.Openings.{opening_at}
use Rattle.run_audit.proofs.sites.has_each.Goals as goal

pub loop-site-preserved : goal.loop-site-preserved
loop-site-preserved c site below some =
    ⊎_elim
    (λ here. subst (λ n. IsSome (opening_at (basis_of c.args.basis.now) n) → Contains (map (λ j. j.site) c.args.journals.now) n) (sym here) (c.if-not-is_met.ensures.0 refl) some)
    (λ apart. c.loop-site.invariant site (omega (arith, below, apart)) some)
    (cases_eq site c.loop-site.site)

pub returns : goal.returns
returns c = (
  λ passed site some.
      c.loop-site.invariant site (omega (arith, c.site_count-site-end.ensures.all site some, c.loop-site-test.false)) some,
  λ each. refl,
)
