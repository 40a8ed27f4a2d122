-- What a ledger that was opened keeps, and what was found.
use Rattle.std.proofs.Common.{◌≡◌, ◌⊎◌, List, [], ◌∷◌, length, inl, inr, refl, sym, ap, subst, ◌∙◌, arith}
use Rattle.std.specs.List.Sorted.{IsPermutation}
use Rattle.std.proofs.lemmas.List.Sorted.{length_permutation}
use Rattle.sqlite.specs.Effect.{Database}
use Rattle.sqlite.specs.State.{State, IsUnchanged}
use Rattle.ds_broker.specs.declared.command.Command.{Command}
use Rattle.ds_ledger_table.specs.Form.{ledger_schema}
use Rattle.ds_ledger_table.specs.Rows.{Holds, IsMade, rows_in}
use Rattle.ds_ledger.specs.Kept.{WasFound, rows_behind, rows_of}

no_commands : (before commands : List Command) → length (rows_behind before commands) ≡ 0 → commands ≡ []
no_commands before [] none = refl
no_commands before (c ∷ commands) none = absurd (omega arith)

-- at the beginning, once the form is made, once it is looked at, and once the rows are read
module _ (first made looked read : State) (commands : List Command) (settled : (made ≡ first) ⊎ IsMade first made) (has : made.now.schema ≡ ledger_schema) (form : IsUnchanged made looked)
    (rows : IsPermutation (rows_of commands) (rows_in looked.now.trees)) (same : IsUnchanged looked read) (auto : read.now ≡ read.committed) where
  now_is : looked.now ≡ read.committed
  now_is = sym same.0.now_is ∙ auto

  pub holds : Holds read.committed (rows_of commands)
  holds = record {
    schema = ap (λ (d : Database). d.schema) (sym now_is ∙ form.0.now_is) ∙ has;
    rows_are = subst (λ (d : Database). IsPermutation (rows_of commands) (rows_in d.trees)) now_is rows;
  }

  committed_is : read.committed ≡ made.committed
  committed_is = same.0.committed_is ∙ form.0.committed_is

  found_of : (made ≡ first) ⊎ IsMade first made → WasFound first.committed commands
  found_of (inl is) = inl (subst (λ (d : Database). Holds d (rows_of commands)) (committed_is ∙ ap (λ (s : State). s.committed) is) holds)
  found_of (inr it) =
      let none : length (rows_in made.committed.trees) ≡ 0 = length_permutation [] _ it.made.rows_are in
      let long : length (rows_in read.committed.trees) ≡ length (rows_of commands) = length_permutation (rows_of commands) _ holds.rows_are in
      let equal : length (rows_in read.committed.trees) ≡ length (rows_in made.committed.trees) = ap (λ (d : Database). length (rows_in d.trees)) committed_is in
      inr (it.blank, no_commands [] commands (omega (arith, none, long, equal)))

  pub was_found : WasFound first.committed commands
  was_found = found_of settled
