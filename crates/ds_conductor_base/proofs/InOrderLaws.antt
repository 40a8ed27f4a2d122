-- The order of visits.
use Rattle.std.proofs.Common.{◌≡◌, ℕ, inl, inr, Bool, true, false, refl, arith, ◌||◌, ◌&&◌, nat_eq, nat_lt}
use Rattle.std.proofs.lemmas.Bool.Decides.{nat_tests}
use Rattle.meter_fabric_base.proofs.OrderLaws.{AreApart, IsOrder}
use Rattle.ds_conductor_base.proofs.JoinLaws.{IsOrderOf}
use Rattle.ds_conductor_base.specs.Visits.{is_before, is_same}
use Rattle.ds_conductor_base.specs.declared.visit.Visit.{Visit}

-- first by one number, then by a second, then by a third
abbrev is_less : ℕ → ℕ → ℕ → ℕ → ℕ → ℕ → Bool
is_less m p h m' p' h' = nat_lt m m' || nat_eq m m' && (nat_lt p p' || nat_eq p p' && nat_lt h h')

is_less-one_way : (m p h m' p' h' : ℕ) → is_less m p h m' p' h' ≡ true → is_less m' p' h' m p h ≡ false
is_less-one_way m p h m' p' h' less = grind (arith, nat_tests)

is_less-through : (m p h m' p' h' n q i : ℕ) → is_less m p h m' p' h' ≡ true → is_less m' p' h' n q i ≡ true → is_less m p h n q i ≡ true
is_less-through m p h m' p' h' n q i less next = grind (arith, nat_tests)

is_less-either : (m p h m' p' h' : ℕ) → (nat_eq p p' && nat_eq h h') ≡ false → is_less m p h m' p' h' ≡ false → is_less m' p' h' m p h ≡ true
is_less-either m p h m' p' h' apart last = grind (arith, nat_tests)

visiting_order : IsOrder is_before
visiting_order = record {
  one_way = λ v w less. is_less-one_way v.moment v.place v.hop.number w.moment w.place w.hop.number less;
  through = λ u v w less next.
      is_less-through u.moment u.place u.hop.number v.moment v.place v.hop.number w.moment w.place w.hop.number less next;
}

-- of two visits of other packets or to other hops one comes before the other
either_before : (v w : Visit) → is_same v w ≡ false → AreApart is_before v w
either_before v w apart = by_test (is_before v w) refl
  where
    by_test : (b : Bool) → is_before v w ≡ b → AreApart is_before v w
    by_test true first = inl first
    by_test false last = inr (is_less-either v.moment v.place v.hop.number w.moment w.place w.hop.number apart last)

same_flips : (p h p' h' : ℕ) → (nat_eq p p' && nat_eq h h') ≡ (nat_eq p' p && nat_eq h' h)
same_flips p h p' h' = grind (arith, nat_tests)

pub visit_order : IsOrderOf is_before is_same
visit_order = record {
  order = visiting_order;
  either = either_before;
  flips = λ v w. same_flips v.place v.hop.number w.place w.hop.number;
}
