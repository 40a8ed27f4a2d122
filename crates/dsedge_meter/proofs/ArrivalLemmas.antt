-- The lines that say no arrival and no sized moment, since they have not so many fields.
use Rattle.std.proofs.Common.{◌≡◌, ◌≢◌, ℕ, List, [], ◌∷◌, length, None, refl}
use Rattle.dsedge_meter.specs.Arrivals.{arrival_of_fields, sized_of_fields}

pub other_arrival : (number : ℕ) (fields : List (List ℕ)) → length fields ≢ 3 → arrival_of_fields number fields ≡ None
other_arrival number [] other = refl
other_arrival number (a ∷ []) other = refl
other_arrival number (a ∷ b ∷ []) other = refl
other_arrival number (a ∷ b ∷ c ∷ []) other = absurd (other refl)
other_arrival number (a ∷ b ∷ c ∷ d ∷ more) other = refl

pub other_sized : (fields : List (List ℕ)) → length fields ≢ 2 → sized_of_fields fields ≡ None
other_sized [] other = refl
other_sized (a ∷ []) other = refl
other_sized (a ∷ b ∷ []) other = absurd (other refl)
other_sized (a ∷ b ∷ c ∷ more) other = refl
