use Rattle.std.proofs.Common.{◌≡◌, ◌∙◌, ◌++◌, ◌∷◌, [], ap, map, refl, subst, sym, take, Some}
use Rattle.std.proofs.lemmas.List.{map_more}
use Rattle.std.proofs.lemmas.List.Elements.{All-more}
use Rattle.meter_book.specs.Replay.{Journal}
use Rattle.meter_fabric_base.specs.Openings.{opening_at}
use Rattle.run_audit.specs.Assembling.{Knows}
use Rattle.run_audit.specs.Bases.{basis_of}
use Rattle.run_audit.proofs.JournalLaws.{own_site_more, repeated_site, was_new, was_there}
use Rattle.run_audit.proofs.sites.sites_of.Goals as goal

pub returns-then-not-is_new-clause-refused : goal.returns-then-not-is_new-clause-refused
returns-then-not-is_new-clause-refused c = (
  refl,
  λ good. repeated_site c.args.journals.now c.loop-place.place c.index-journals-place.result c.loop-place-test.true c.index-journals-place.is
      (was_there _ _ c.if-not-is_new.ensures.new refl) good.once,
)

pub loop-place-preserved : goal.loop-place-preserved
loop-place-preserved c =
    let js = c.args.journals.now in
    let i = c.loop-place.place in
    let j = c.index-journals-place.result in record {
      places = subst (Knows c.is_new.new.sites.set)
          (ap (λ (k : Journal). map (λ j. j.site) (take i js) ++ k.site ∷ []) c.index-journals-place.is ∙ sym (map_more (λ j. j.site) js i j c.loop-place-test.true))
          (c.if-not-is_new.ensures.kept refl);
      own = All-more (λ (k : Journal). opening_at (basis_of c.args.basis.now) k.site ≡ Some (record { meter = k.opening; skew = k.skew })) js i j c.loop-place-test.true c.loop-place.invariant.own
          (rw (← c.index-journals-place.is) (c.if-not-is_own.ensures.0 refl));
      once = own_site_more js i j c.loop-place-test.true c.index-journals-place.is (was_new _ _ c.if-not-is_new.ensures.new refl) c.loop-place.invariant.once;
    }
