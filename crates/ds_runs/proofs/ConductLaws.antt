-- What comes of the steps that are left, one by one.
use Rattle.std.proofs.Common.{◌≡◌, ◌⊎◌, inl, inr, ◌+◌, ◌<◌, ◌≤◌, ℕ, suc, List, [], ◌∷◌, length, drop, get_or, Ok, Err, Result, refl, sym, ap, ◌∙◌, arith}
use Rattle.std.proofs.lemmas.List.{drop_all, drop_more}
use Rattle.ds_checker.specs.Acceptance.{Table}
use Rattle.ds_runs.specs.Conducting.{as_run, conducted, conducted_from, fault_at, going_on, run_so_far}
use Rattle.ds_runs.specs.Steps.{Stage, opened, refusal_of, stepped}
use Rattle.ds_runs.specs.declared.fault.ConductFault.{ConductFault}
use Rattle.ds_runs.specs.declared.fault.ConductFault.TheVariants as conducts
use Rattle.ds_runs.specs.declared.fault.StepFault.{StepFault}
use Rattle.ds_runs.specs.declared.step.Step.{Step}

module _ (t : Table) where
  next_step : (g : Stage) (index : ℕ) (s : Step) (rest : List Step)
      → conducted_from t g index (s ∷ rest) ≡ going_on index (λ h. conducted_from t h (suc index) rest) (stepped t g s)
  unfolding conducted_from
  next_step g index s rest = refl

  no_step : (g : Stage) (index : ℕ) → conducted_from t g index [] ≡ Ok g
  unfolding conducted_from
  no_step g index = refl

  left_steps : (g : Stage) (index : ℕ) (s : Step) (all : List Step) → index < length all → s ≡ get_or all index s
      → conducted_from t g index (drop index all) ≡ going_on index (λ h. conducted_from t h (suc index) (drop (index + 1) all)) (stepped t g s)
  left_steps g index s all within is =
      ap (conducted_from t g index) (drop_more all index s within ∙ ap (λ (x : Step). x ∷ drop (index + 1) all) (sym is))
      ∙ next_step g index s (drop (index + 1) all)

  -- a step that is made
  pub conducted_more : (g h : Stage) (index : ℕ) (s : Step) (all : List Step) → index < length all → s ≡ get_or all index s → stepped t g s ≡ Ok h
      → conducted_from t g index (drop index all) ≡ conducted_from t h (index + 1) (drop (index + 1) all)
  conducted_more g h index s all within is done =
      let next : suc index ≡ index + 1 = omega arith in
      left_steps g index s all within is ∙ ap (going_on index (λ h. conducted_from t h (suc index) (drop (index + 1) all))) done
      ∙ ap (λ i. conducted_from t h i (drop (index + 1) all)) next

  -- one that cannot be made
  pub conducted_refused : (g : Stage) (index : ℕ) (s : Step) (all : List Step) (fault : StepFault) (told : ConductFault) → index < length all
      → s ≡ get_or all index s → conducted_from t g index (drop index all) ≡ conducted_from t (opened t) 0 all
      → told ≡ fault_at index fault → fault ≡ refusal_of (stepped t g s)
      → (told ≡ conducts.NoMemory) ⊎ (conducted t all ≡ Err told)
  conducted_refused g index s all fault told within is whole tells refused = by (stepped t g s) refl
    where
      by : (r : Result Stage StepFault) → stepped t g s ≡ r → (told ≡ conducts.NoMemory) ⊎ (conducted t all ≡ Err told)
      by (Ok h) made = inl (tells ∙ ap (fault_at index) (refused ∙ ap (refusal_of {A = Stage}) made))
      by (Err own) made =
          let same : fault ≡ own = refused ∙ ap (refusal_of {A = Stage}) made in
          inr (ap as_run (sym whole ∙ left_steps g index s all within is ∙ ap (going_on index (λ h. conducted_from t h (suc index) (drop (index + 1) all))) made)
          ∙ ap (λ f. Err (fault_at index f)) (sym same) ∙ ap (λ f. Err f) (sym tells))

  -- behind the last
  pub conducted_whole : (g : Stage) (index : ℕ) (all : List Step) → length all ≤ index
      → conducted_from t g index (drop index all) ≡ conducted_from t (opened t) 0 all → conducted t all ≡ Ok (run_so_far g)
  conducted_whole g index all ended whole =
      ap as_run (sym whole ∙ ap (conducted_from t g index) (drop_all index all ended) ∙ no_step g index)
