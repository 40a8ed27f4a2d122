-- What a run of threads comes to, by what its threads did.
use Rattle.std.proofs.Common.{◌≡◌, ℕ, Bool, List, ◌++◌, Option, None, Some, Result, IfNone, IfSome, refl, ap, ◌∙◌}
use Rattle.ds_conditioner.specs.declared.conditioner.Conditioner.{Conditioner}
use Rattle.capture_reader.specs.declared.reading.Progress.{Progress}
use Rattle.capture_reader.specs.declared.reading.Read.{Read}
use Rattle.ds_conductor.specs.Lanings.{AreFedAndPassed, IsAlong, IsRun, IsRunAnswered}
use Rattle.ds_marking.specs.declared.fault.MarkFault.{MarkFault}
use Rattle.ds_marking.specs.declared.marking.Passage.{Passage}
use Rattle.ds_conductor.specs.declared.run.Lanes.{Lanes}
use Rattle.ds_conductor.specs.declared.run.Run.{Run}
use Rattle.ds_conductor.proofs.LaningLaws.{none_told, nothing_taken, run_told, through}

-- lots were fed and taken in, and came along from the one thread to the other, and so did their texts
pub answered : {A B : Type 0} (tells : A → Type 0) (left : A → List ℕ) (calls failed : A → ℕ) (old new : A) (shows : B → Type 0) (held : B → List ℕ) (failures : B → ℕ) (was now : B)
    (before : Passage) (progress : Progress) (conditioner : Conditioner) (lanes ends : Lanes) (result : Bool × Option (Result Read MarkFault × Result (Unit {0}) MarkFault)) (rest : List (List ℕ))
    (answer : Option Run)
    → AreFedAndPassed before.port tells left calls failed old new shows held failures was now before.progress progress before.conditioner conditioner lanes ends result
    → IsAlong before.port ends.devices.to.put ends.core.from.taken → ends.core.to.put ≡ ends.devices.from.taken ++ rest
    → IfNone answer (result.1 ≡ None) → IfSome answer (λ run. (run.starved ≡ result.0) × (result.1 ≡ Some (run.read, run.written)))
    → IsRunAnswered tells left calls failed old new shows held failures was now before (record before { conditioner = conditioner; progress = progress }) answer
answered tells left calls failed old new shows held failures was now before progress conditioner lanes ends result rest answer run along texts none ran =
    let put = ends.devices.to.put in
    let taken = ends.devices.from.taken in
    let after : Passage = record before { conditioner = conditioner; progress = progress } in record {
      kept = (run.bounded, refl, refl);
      ran = run_told answer result.0 result.1 (λ (it : Run). IsRun tells left calls failed old new shows held failures was now before after it) ran
          (λ read written is.
          let fed = rw is at run.fed.fed in record {
            put = put;
            taken = taken;
            fed = fed;
            given = rw is at run.fed.given;
            cut = rw is at run.fed.cut;
            passed = through before.port before.conditioner conditioner result.0 put ends.core.from.taken ends.core.to.put taken rest along texts run.fed.even run.passed fed.fed.right;
          });
      nothing = none_told answer result.1 _ none
          (λ is.
          let still = rw is at run.fed.nothing in
          let same = run.passed.still (nothing_taken before.port put ends.core.from.taken along still.0) in
          (ap (λ x. record before { conditioner = x; progress = progress }) same.1 ∙ ap (λ x. record before { progress = x }) still.1, still.2, still.3));
    }
