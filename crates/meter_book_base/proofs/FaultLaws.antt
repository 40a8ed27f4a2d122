-- Faults of a kind among those of any kind.
use Rattle.std.proofs.Common.{◌≡◌, Option, None, Some, option_map, refl}

-- where there is none of any kind there is none of its own
pub none_of_map : {A B : Type 0} (f : A → B) (fault : Option A) → option_map f fault ≡ None → fault ≡ None
none_of_map f None none = refl
none_of_map f (Some fault) none = absurd (cc)
