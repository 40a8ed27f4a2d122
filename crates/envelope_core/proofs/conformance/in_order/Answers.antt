use Rattle.std.proofs.Common.{◌≡◌, ◌≤◌, ◌<◌, ℕ, ◌+◌, ◌↔◌, IsTrue, Bool, true, false, List, arith, rules, get_or, refl}
use Rattle.std.proofs.lemmas.Bool.{false≢true}
use Rattle.std.proofs.lemmas.Bool.Decides.{nat_tests}
use Rattle.std.proofs.lemmas.List.Sorted.{answers_always, IsNonDecreasingBy-from_all_adjacent, all_adjacent_from_non_decreasing}
use Rattle.std.specs.List.{IsAllAdjacentAnswer}
use Rattle.std.specs.Ordering.{nat_cmp, is_le}
use Rattle.envelope_core.specs.Order.{IsInOrder}
use Rattle.envelope_core.proofs.conformance.in_order.Goals as goal

-- what a comparison of two moments answers
le_from_is_le : (a b : ℕ) → true ≡ is_le (nat_cmp a b) → a ≤ b
le_from_is_le a b h = grind (arith, nat_tests)

lt_from_is_le : (a b : ℕ) → false ≡ is_le (nat_cmp a b) → b < a
lt_from_is_le a b h = grind (arith, nat_tests)

-- neighbours in order are a list in order
decided : (items : List (ℕ × ℕ)) (answer : Bool) → IsAllAdjacentAnswer (λ x y b. b ≡ is_le (nat_cmp x.0 y.0)) items answer → IsTrue answer ↔ IsInOrder items
decided items true each =
    (λ yes. IsNonDecreasingBy-from_all_adjacent (λ item. item.0) items (λ k d h. le_from_is_le (get_or items k d).0 (get_or items (k + 1) d).0 (each k d h)), λ ordered. refl)
decided items false some = (
  λ yes. absurd (false≢true yes),
  λ ordered.
      let k = some.0 in
      let fits = some.1 in
      let later = lt_from_is_le (get_or items k (0, 0)).0 (get_or items (k + 1) (0, 0)).0 (some.2 (0, 0)) in
      absurd (omega (arith, later, all_adjacent_from_non_decreasing (λ item. item.0) items ordered k (0, 0) fits)),
)

pub returns : goal.returns
returns c =
    decided c.args.items.now c.is_sorted_by_key.result
    (c.is_sorted_by_key.ensures.cases (λ item. item.0) (answers_always _ _ _ (λ f a r g called. search rules)))
