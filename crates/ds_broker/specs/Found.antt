-- Where a contract that is held stands.
use Rattle.std.specs.Prelude.{◌≡◌, ℕ, zero, suc, Bool, false, true, List, [], ◌∷◌, nat_eq, slice_get, Some}
use Rattle.ds_broker.specs.Books.{holding_of}
use Rattle.ds_broker.specs.Histories.{Holding}

-- the first of an id stands at a place
unfoldable pub IsFirst : ℕ → List Holding → ℕ → Type 0
IsFirst id [] place = ⊥
IsFirst id (h ∷ held) zero = nat_eq id h.id ≡ true
IsFirst id (h ∷ held) (suc place) = (nat_eq id h.id ≡ false) × IsFirst id held place

-- what is held under an id stands at a place, and is released or not
pub record IsFound (id : ℕ) (held : List Holding) (place : ℕ) (released : Bool) : Type 0 where
  pub holding : Holding
  pub first : IsFirst id held place
  pub at : slice_get held place ≡ Some holding
  pub found : holding_of id held ≡ Some holding
  pub named : holding.id ≡ id
  pub is_released : holding.released ≡ released
