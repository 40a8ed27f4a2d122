-- Trails that are sound, one after the other, and the first that is wrong.
use Rattle.std.proofs.Common.{◌≡◌, ℕ, ◌+◌, ◌<◌, true, false, List, [], ◌∷◌, ◌++◌, map, length, take, drop, get_or, refl, sym, ◌∙◌, ap, subst, arith, nat_eq, true≢false}
use Rattle.std.specs.List.{list_any}
use Rattle.std.proofs.lemmas.Bool.Decides.{nat_tests}
use Rattle.std.proofs.lemmas.List.{drop_more, get_or-map, length-map, map-append, take-append-drop, take_more}
use Rattle.std.proofs.lemmas.List.Elements.{All-push}
use Rattle.std.proofs.lemmas.List.Folds.{Any-from_list_any, list_any_at}
use Rattle.std.proofs.lemmas.List.Quantifiers.{all_pairs_push}
use Rattle.meter_fabric_base.specs.Grounds.{Ground}
use Rattle.meter_book.specs.Replay.{Journal}
use Rattle.meter_fabric_base.specs.declared.trail.Trail.{Trail}
use Rattle.run_audit.specs.Runs.{Passage}
use Rattle.run_audit.specs.Assembled.{passage_of, run_of}
use Rattle.run_audit.specs.Assembling.{AreSound, IsFirstWrong, IsNew, IsSound}

abbrev pub number_of : Passage → ℕ
number_of p = p.packet.number

pub stood_before : (front : List Passage) (p : Passage) → list_any (nat_eq (number_of p)) (map number_of front) ≡ true → ¬ IsNew front p
stood_before front p any new =
    let (k, n, inside, is, passes) = Any-from_list_any (nat_eq (number_of p)) (map number_of front) any in
    let short : k < length front = omega (arith, inside, length-map front number_of) in
    new k p short (sym (get_or-map number_of front k p n short) ∙ is ∙ sym (same_number (number_of p) n passes))
  where
    same_number : (a b : ℕ) → nat_eq a b ≡ true → a ≡ b
    same_number a b passes = grind (arith, nat_tests)

pub stood_nowhere : (front : List Passage) (p : Passage) → list_any (nat_eq (number_of p)) (map number_of front) ≡ false → IsNew front p
stood_nowhere front p none k d within same =
    let there : list_any (nat_eq (number_of p)) (map number_of front) ≡ true =
    list_any_at (nat_eq (number_of p)) (map number_of front) k 0 (omega (arith, within, length-map front number_of))
    (equal (number_of p) (get_or (map number_of front) k 0) (sym same ∙ sym (get_or-map number_of front k d 0 within)))
    in
    true≢false (sym there ∙ none)
  where
    equal : (a b : ℕ) → a ≡ b → nat_eq a b ≡ true
    equal a b is = grind (arith, nat_tests)

-- the packets of the trails so far
abbrev pub front_of : List Trail → ℕ → List Passage
front_of trails i = map passage_of (take i trails)

front_more : (trails : List Trail) (i : ℕ) (trail : Trail) → i < length trails → trail ≡ get_or trails i trail
    → front_of trails (i + 1) ≡ front_of trails i ++ passage_of trail ∷ []
front_more trails i trail inside is =
    ap (map passage_of) (take_more trails i trail inside ∙ ap (λ x. take i trails ++ x ∷ []) (sym is)) ∙ map-append passage_of (take i trails) (trail ∷ [])

pub AreSound-more : (g : Ground) (journals : List Journal) (trails : List Trail) (i : ℕ) (trail : Trail) → i < length trails → trail ≡ get_or trails i trail
    → AreSound g journals (front_of trails i) → IsNew (front_of trails i) (passage_of trail) → IsSound g journals (passage_of trail)
    → AreSound g journals (front_of trails (i + 1))
AreSound-more g journals trails i trail inside is sound new own =
    subst (AreSound g journals) (sym (front_more trails i trail inside is)) (
      All-push (IsSound g journals) (front_of trails i) (passage_of trail) sound.0 own,
      all_pairs_push (λ (p q : Passage). ¬ (p.packet.number ≡ q.packet.number)) (front_of trails i) (passage_of trail) sound.1 (λ k d within. new k d within),
    )

pub numbers_of : (trails : List Trail) → map number_of (map passage_of trails) ≡ map (λ trail. trail.packet) trails
numbers_of [] = refl
numbers_of (trail ∷ trails) = ap (λ numbers. trail.packet ∷ numbers) (numbers_of trails)

pub first_wrong : (g : Ground) (journals : List Journal) (trails : List Trail) (i : ℕ) (trail : Trail) (Wrong : List Passage → Passage → Type 0)
    → i < length trails → trail ≡ get_or trails i trail
    → AreSound g journals (front_of trails i) → Wrong (front_of trails i) (passage_of trail)
    → IsFirstWrong g (run_of journals trails) Wrong
first_wrong g journals trails i trail Wrong inside is sound wrong =
    let rest : drop i trails ≡ trail ∷ drop (i + 1) trails = drop_more trails i trail inside ∙ ap (λ x. x ∷ drop (i + 1) trails) (sym is) in
    let whole : trails ≡ take i trails ++ trail ∷ drop (i + 1) trails = sym (take-append-drop i trails) ∙ ap (λ l. take i trails ++ l) rest in
    record {
      front = front_of trails i;
      passage = passage_of trail;
      rest = map passage_of (drop (i + 1) trails);
      stands = ap (map passage_of) whole ∙ map-append passage_of (take i trails) (trail ∷ drop (i + 1) trails);
      sound = sound;
      wrong = wrong;
    }
