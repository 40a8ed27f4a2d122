-- The journals of books that are left, one by one.
use Rattle.std.proofs.Common.{◌≡◌, ◌+◌, ℕ, suc, List, [], ◌∷◌, ◌++◌, Option, None, Some, refl, sym, ap, ◌∙◌, append-nil, append_assoc, arith}
use Rattle.meter_book.specs.Replay.{Book, Journal}
use Rattle.ds_runs.specs.Conducting.{journal_of, journals_from}

with_book : (site : ℕ) (b : Book) (rest : List (Option Book)) → journals_from site (Some b ∷ rest) ≡ journal_of site b ∷ journals_from (suc site) rest
unfolding journals_from
with_book site b rest = refl

without_book : (site : ℕ) (rest : List (Option Book)) → journals_from site (None ∷ rest) ≡ journals_from (suc site) rest
unfolding journals_from
without_book site rest = refl

no_book : (site : ℕ) → journals_from site [] ≡ []
unfolding journals_from
no_book site = refl

module _ (done all : List Journal) (left rest : List (Option Book)) (site next : ℕ) where
  -- a book
  pub journals_more : (new : List Journal) (j : Journal) (b : Book) → done ++ journals_from site left ≡ all → left ≡ Some b ∷ rest → next ≡ site + 1
      → j ≡ journal_of site b → new ≡ done ++ j ∷ [] → new ++ journals_from next rest ≡ all
  journals_more new j b whole is on own pushed =
      let same : next ≡ suc site = on ∙ omega arith in
      ap (λ js. js ++ journals_from next rest) (pushed ∙ ap (λ (own : Journal). done ++ own ∷ []) own)
      ∙ append_assoc done (journal_of site b ∷ []) (journals_from next rest)
      ∙ ap (λ n. done ++ journal_of site b ∷ journals_from n rest) same
      ∙ ap (λ js. done ++ js) (sym (with_book site b rest) ∙ ap (journals_from site) (sym is)) ∙ whole

  -- none
  pub journals_past : done ++ journals_from site left ≡ all → left ≡ None ∷ rest → next ≡ site + 1 → done ++ journals_from next rest ≡ all
  journals_past whole is on =
      let same : next ≡ suc site = on ∙ omega arith in
      ap (λ n. done ++ journals_from n rest) same ∙ ap (λ js. done ++ js) (sym (without_book site rest) ∙ ap (journals_from site) (sym is)) ∙ whole

-- the last
pub journals_ended : (done all : List Journal) (left : List (Option Book)) (site : ℕ) → done ++ journals_from site left ≡ all → left ≡ [] → done ≡ all
journals_ended done all left site whole ended =
    sym (append-nil done) ∙ ap (λ js. done ++ js) (sym (no_book site) ∙ ap (journals_from site) (sym ended)) ∙ whole
