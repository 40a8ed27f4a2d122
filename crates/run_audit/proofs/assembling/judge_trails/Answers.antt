use Rattle.std.proofs.Common.{◌∙◌, ◌++◌, ◌∷◌, [], inr, refl, sym, ap, subst, arith, map, take, nat_eq}
use Rattle.std.specs.List.{list_any}
use Rattle.std.proofs.lemmas.Bool.{false≢true}
use Rattle.std.proofs.lemmas.List.{map_more, take_all}
use Rattle.meter_fabric_base.specs.declared.trail.Trail.{Trail}
use Rattle.run_audit.specs.Bases.{basis_of}
use Rattle.run_audit.specs.Assembled.{passage_of}
use Rattle.run_audit.specs.Assembling.{AreSound, IsNew, IsSound, Knows}
use Rattle.run_audit.proofs.JournalLaws.{was_new, was_there}
use Rattle.run_audit.proofs.SoundLaws.{AreSound-more, first_wrong, front_of, numbers_of, stood_before, stood_nowhere}
use Rattle.run_audit.proofs.assembling.judge_trails.Goals as goal

pub returns-then-not-is_new-clause-refused : goal.returns-then-not-is_new-clause-refused
returns-then-not-is_new-clause-refused c =
    let front = front_of c.args.trails.now c.loop-place.place in
    let trail = c.index-trails-place.result in
    let before = ap (list_any (nat_eq trail.packet)) (numbers_of (take c.loop-place.place c.args.trails.now)) ∙ was_there _ _ c.if-not-is_new.ensures.new refl in (
      c.requires.journals,
      first_wrong (basis_of c.args.basis.now) c.args.journals.now c.args.trails.now c.loop-place.place trail (λ front p. ¬ IsNew front p)
          c.loop-place-test.true c.index-trails-place.is c.loop-place.invariant.sound (stood_before front (passage_of trail) before),
    )

pub returns-then-not-is_sound-clause-refused : goal.returns-then-not-is_sound-clause-refused
returns-then-not-is_sound-clause-refused c =
    let front = front_of c.args.trails.now c.loop-place.place in
    let trail = c.index-trails-place.result in
    let nowhere = ap (list_any (nat_eq trail.packet)) (numbers_of (take c.loop-place.place c.args.trails.now)) ∙ was_new _ _ c.if-not-is_new.ensures.new refl in
    inr (
      c.requires.journals,
      first_wrong (basis_of c.args.basis.now) c.args.journals.now c.args.trails.now c.loop-place.place trail
          (λ front p. IsNew front p × ¬ IsSound (basis_of c.args.basis.now) c.args.journals.now p)
          c.loop-place-test.true c.index-trails-place.is c.loop-place.invariant.sound
          (stood_nowhere front (passage_of trail) nowhere, λ own. false≢true (c.if-not-is_sound.ensures.1 own)),
    )

pub loop-place-preserved : goal.loop-place-preserved
loop-place-preserved c =
    let trails = c.args.trails.now in
    let i = c.loop-place.place in
    let trail = c.index-trails-place.result in
    let nowhere = ap (list_any (nat_eq trail.packet)) (numbers_of (take i trails)) ∙ was_new _ _ c.if-not-is_new.ensures.new refl in
    record {
      numbers = subst (Knows c.is_new.new.numbers.set)
          (ap (λ (t : Trail). map (λ t. t.packet) (take i trails) ++ t.packet ∷ []) c.index-trails-place.is ∙ sym (map_more (λ t. t.packet) trails i trail c.loop-place-test.true))
          (c.if-not-is_new.ensures.kept refl);
      sound = AreSound-more (basis_of c.args.basis.now) c.args.journals.now trails i trail c.loop-place-test.true c.index-trails-place.is c.loop-place.invariant.sound
          (stood_nowhere (front_of trails i) (passage_of trail) nowhere) (c.if-not-is_sound.ensures.0 refl);
    }

pub returns-clause-sound : goal.returns-clause-sound
returns-clause-sound c =
    subst (λ trails. AreSound (basis_of c.args.basis.now) c.args.journals.now (map passage_of trails))
    (take_all c.loop-place.place c.args.trails.now (omega (arith, c.loop-place-test.false)))
    c.loop-place.invariant.sound
