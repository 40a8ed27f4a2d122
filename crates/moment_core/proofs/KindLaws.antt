-- What buckets that give parameters and levels back say of the state that they stand for.
use Rattle.std.proofs.Common.{◌≡◌, refl, sym, ◌∙◌, ap}
use Rattle.moment_core.specs.Fillings.{state_at}
use Rattle.moment_core.specs.Metering.{State}
use Rattle.moment_core.specs.declared.filling.Clock.{Clock}

module _ {P L K : Type 0} (buckets_of : State P L → K) (parameters_of : K → P) (levels_of : K → L)
    (gives_parameters : (m : State P L) → parameters_of (buckets_of m) ≡ m.parameters) (gives_levels : (m : State P L) → levels_of (buckets_of m) ≡ m.levels) where
  -- a meter of that mode and clock with its buckets is in that state
  pub stands-for : (m : State P L) (clock : Clock) (buckets : K) → buckets ≡ buckets_of m → m.origin ≡ clock.origin → m.newest ≡ clock.newest
      → state_at m.mode clock (parameters_of buckets) (levels_of buckets) ≡ m
  stands-for m clock buckets own origin newest = rw (own, gives_parameters m, gives_levels m, ← origin, ← newest) refl

  -- and gives its buckets back
  pub gives-back : (m : State P L) (clock : Clock) (buckets : K) → buckets ≡ buckets_of m → m.origin ≡ clock.origin → m.newest ≡ clock.newest
      → buckets_of (state_at m.mode clock (parameters_of buckets) (levels_of buckets)) ≡ buckets
  gives-back m clock buckets own origin newest = ap buckets_of (stands-for m clock buckets own origin newest) ∙ sym own
