-- Chapters that go on from one another, and one more behind them.
use Rattle.std.proofs.Common.{◌≡◌, ℕ, zero, suc, ◌+◌, ◌-◌, ◌<◌, List, [], ◌∷◌, ◌++◌, length, map, flat_map, Option, None, Some, refl, sym, ◌∙◌, ap, subst, inl, inr, length-append, arith}
use Rattle.std.specs.Prelude.{get_or, slice_get}
use Rattle.std.proofs.lemmas.Bool.{cases_lt}
use denote.Bor.{Bor}
use Rattle.meter_book.specs.Chapters.{AreChapters, Chapter, Follows, IsStanding, chapter_rows, closing_of, joined}
use Rattle.meter_book.specs.Gathering.{AreJoint, IsNext, last_in}
use Rattle.meter_book.specs.Kept.{stored_of}
use Rattle.meter_book.specs.declared.stored_row.StoredRow.{StoredRow}
use Rattle.meter_book.specs.Replay.{Journal}
use Rattle.meter_book.specs.declared.row.Arrival.{Arrival}
use Rattle.meter_book.specs.declared.standing.Standing.{Standing}
use Rattle.meter_book.proofs.StandingLaws.{IsJoint, arrivals_in, follows_past, joint, last_of, linked_closing}

pub last_in-append : (chapters : List Chapter) (c : Chapter) → last_in (chapters ++ c ∷ []) ≡ Some c
last_in-append [] c = refl
last_in-append (d ∷ []) c = refl
last_in-append (d ∷ e ∷ more) c = last_in-append (e ∷ more) c

-- one more behind them changes nothing before it
in_front : (chapters : List Chapter) (c : Chapter) (i : ℕ) → i < length chapters → (Follows chapters i → Follows (chapters ++ c ∷ []) i) × (Follows (chapters ++ c ∷ []) i → Follows chapters i)
in_front [] c i within = absurd (omega (arith, within))
in_front (d ∷ more) c zero within = (λ f. f, λ f. f)
in_front (d ∷ []) c (suc i) within = absurd (omega (arith, within))
in_front (d ∷ e ∷ more) c (suc zero) within = (λ f. f, λ f. f)
in_front (d ∷ e ∷ more) c (suc (suc i)) within = in_front (e ∷ more) c (suc i) (omega (arith, within))

-- the one behind them
behind : (chapters : List Chapter) (c : Chapter) → (IsNext (last_in chapters) c → Follows (chapters ++ c ∷ []) (length chapters)) × (Follows (chapters ++ c ∷ []) (length chapters) → IsNext (last_in chapters) c)
behind [] c = (λ f. f, λ f. f)
behind (d ∷ []) c = (λ f. f, λ f. f)
behind (d ∷ e ∷ more) c = behind (e ∷ more) c

module _ (chapters : List Chapter) (c : Chapter) where
  pub joint-append : AreJoint chapters → IsNext (last_in chapters) c → AreJoint (chapters ++ c ∷ [])
  joint-append so_far next i within = elim (cases_lt i (length chapters)) [
    | inl earlier ↦ (in_front chapters c i earlier).0 (so_far i earlier)
    | inr later ↦
        let same : length chapters ≡ i = omega (arith, later, within, length-append chapters (c ∷ [])) in
        subst (Follows (chapters ++ c ∷ [])) same ((behind chapters c).0 next)
  ]

  pub joint-front : AreJoint (chapters ++ c ∷ []) → AreJoint chapters
  joint-front all i within = (in_front chapters c i within).1 (all i (omega (arith, within, length-append chapters (c ∷ []))))

  pub joint-last : AreJoint (chapters ++ c ∷ []) → IsNext (last_in chapters) c
  joint-last all = (behind chapters c).1 (all (length chapters) (omega (arith, length-append chapters (c ∷ []))))

  -- there is nothing behind the last one
  pub joint-all : AreJoint (chapters ++ c ∷ []) → AreChapters (chapters ++ c ∷ [])
  joint-all all zero = all zero (omega (arith, length-append chapters (c ∷ [])))
  joint-all all (suc i) = elim (cases_lt (suc i) (length (chapters ++ c ∷ []))) [
    | inl earlier ↦ all (suc i) earlier
    | inr later ↦ follows_past (chapters ++ c ∷ []) i later
  ]

-- ---- the journal of chapters and of a last one behind them

-- the first of them all
abbrev pub first_in : List Chapter → Chapter → Chapter
first_in [] last = last
first_in (c ∷ more) last = c

first_there : (chapters : List Chapter) (last d : Chapter) → first_in chapters last ≡ get_or (chapters ++ last ∷ []) 0 d
first_there [] last d = refl
first_there (c ∷ more) last d = refl

last_there : (chapters : List Chapter) (last d : Chapter) → last ≡ get_or (chapters ++ last ∷ []) (length chapters) d
last_there [] last d = refl
last_there (c ∷ more) last d = last_there more last d

pub gathered : (chapters : List Chapter) (last : Chapter) (rows : List StoredRow) (first : Chapter) → AreChapters (chapters ++ last ∷ [])
    → rows ≡ flat_map (λ (c : Chapter). map stored_of (chapter_rows c)) (chapters ++ last ∷ []) → first_in chapters last ≡ first → IsStanding first.opening
    → IsJoint (chapters ++ last ∷ []) rows first last
gathered chapters last rows first all stored is_first stands =
    let count : length chapters ≡ length (chapters ++ last ∷ []) - 1 = omega (arith, length-append chapters (last ∷ [])) in
    joint (chapters ++ last ∷ []) rows first last all stored (sym is_first ∙ first_there chapters last first)
    (last_there chapters last last ∙ ap (λ i. get_or (chapters ++ last ∷ []) i last) count) stands

pub first_of_none : (chapters : List (Bor Chapter)) (last : Chapter) → None ≡ slice_get chapters 0 → first_in (map (λ (c : Bor Chapter). c.now) chapters) last ≡ last
first_of_none [] last none = refl
first_of_none (c ∷ more) last none = absurd cc

pub first_of_some : (chapters : List (Bor Chapter)) (last : Chapter) (first : Bor Chapter) → Some first ≡ slice_get chapters 0
    → first_in (map (λ (c : Bor Chapter). c.now) chapters) last ≡ first.now
first_of_some [] last first is = absurd cc
first_of_some (c ∷ more) last first is = let same : first ≡ c = cc in ap (λ (x : Bor Chapter). x.now) (sym same)

abbrev arrivals_found : Option Journal → List Arrival
arrivals_found None = []
arrivals_found (Some j) = j.arrivals

-- as many rows as the book gave places
place_of : (c : Chapter) (more : List Chapter) (d : Chapter) → AreChapters (c ∷ more) → (closing_of (last_of c more d)).place ≡ length (arrivals_in (c ∷ more))
place_of c more d all =
    let first : c.opening.place ≡ 0 = all 0 in
    let closing = ap (λ (s : Standing). s.place) (linked_closing c more d (λ i. all (suc i))) in
    omega (arith, closing, first)

pub length-joined : (chapters : List Chapter) (last : Chapter) (j : Journal) → AreChapters (chapters ++ last ∷ []) → joined (chapters ++ last ∷ []) ≡ Some j
    → length j.arrivals ≡ last.opening.place + length last.arrivals
length-joined [] last j all is =
    let arrivals : arrivals_in (last ∷ []) ≡ j.arrivals = ap (λ (found : Option Journal). arrivals_found found) is in
    sym (ap length arrivals) ∙ sym (place_of last [] last all)
length-joined (c ∷ more) last j all is =
    let arrivals : arrivals_in ((c ∷ more) ++ last ∷ []) ≡ j.arrivals = ap (λ (found : Option Journal). arrivals_found found) is in
    let count : length (more ++ last ∷ []) ≡ length (c ∷ more) = omega (arith, length-append more (last ∷ [])) in
    let there : last_of c (more ++ last ∷ []) last ≡ last =
    ap (λ i. get_or ((c ∷ more) ++ last ∷ []) i last) count ∙ sym (last_there (c ∷ more) last last) in
    sym (ap length arrivals) ∙ sym (place_of c (more ++ last ∷ []) last all) ∙ ap (λ (d : Chapter). (closing_of d).place) there
