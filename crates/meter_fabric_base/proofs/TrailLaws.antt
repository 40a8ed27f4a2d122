-- A trail stays one with a receipt of the next hop.
use Rattle.std.proofs.Common.{◌≡◌, ◌-◌, ℕ, suc, List, [], ◌∷◌, ◌++◌, length, get_or, Some, refl, arith, option_map, slice_get, unwrap_or}
use Rattle.std.proofs.lemmas.Option.{slice_get-get_or}
use Rattle.moment_core.specs.declared.colour.Colour.{Colour}
use Rattle.meter_book.specs.declared.row.Row.{Row}
use Rattle.meter_fabric_base.specs.Trails.{IsReceipt, IsTrail, Packet}
use Rattle.meter_fabric_base.specs.Travels.{Traveller, comes_as, last_moment, last_receipt, next_hop, received}
use Rattle.meter_fabric_base.specs.declared.hop.Hop.{Hop}
use Rattle.meter_fabric_base.specs.declared.trail.Receipt.{Receipt}

-- a part of the last receipt, and what stands for it at first
abbrev last_or : {A : Type 0} → (Receipt → A) → A → List Receipt → A
last_or part first receipts = unwrap_or (option_map part (last_receipt receipts)) first

last_or-cons : {A : Type 0} (part : Receipt → A) (first : A) (r : Receipt) (receipts : List Receipt)
    → last_or part first (r ∷ receipts) ≡ last_or part (part r) receipts
last_or-cons part first r [] = refl
last_or-cons part first r (s ∷ receipts) =
    let behind : suc (suc (length receipts)) - 1 ≡ suc (length receipts) = omega arith in
    let place : suc (length receipts) - 1 ≡ length receipts = omega arith in
    let found : slice_get (s ∷ receipts) (length receipts) ≡ Some (get_or (s ∷ receipts) (length receipts) s) =
    slice_get-get_or (s ∷ receipts) (length receipts) s (omega arith) in
    rw (behind, place, found) refl

IsTrail-push : (p : Packet) (since : ℕ) (came : Colour) (hops : List Hop) (receipts : List Receipt) (hop : Hop) (r : Receipt)
    → IsTrail p since came hops receipts → slice_get hops (length receipts) ≡ Some hop
    → IsReceipt p (last_or (λ s. s.row.arrival) since receipts) (last_or (λ s. s.row.left) came receipts) hop r
    → IsTrail p since came hops (receipts ++ r ∷ [])
unfolding IsTrail
IsTrail-push p since came [] [] hop r trail next own = absurd cc
IsTrail-push p since came (h ∷ hops) [] hop r trail next own =
    let same : hop ≡ h = cc in
    (rw same at own, tt)
IsTrail-push p since came [] (s ∷ receipts) hop r trail next own = absurd trail
IsTrail-push p since came (h ∷ hops) (s ∷ receipts) hop r trail next own = (
  trail.0,
  IsTrail-push p s.row.arrival s.row.left hops receipts hop r trail.1 next
      (rw (last_or-cons (λ x. x.row.arrival) since s receipts, last_or-cons (λ x. x.row.left) came s receipts) at own),
)

pub trail_of-received : (t : Traveller) (hop : Hop) (row : Row) → IsTrail t.packet t.packet.begun t.came t.hops t.receipts → next_hop t ≡ Some hop
    → IsReceipt t.packet (last_moment t) (comes_as t) hop (record { site = hop.site; row = row })
    → IsTrail t.packet t.packet.begun t.came t.hops (received t hop row).receipts
trail_of-received t hop row trail next own = IsTrail-push t.packet t.packet.begun t.came t.hops t.receipts hop (record { site = hop.site; row = row }) trail next own

pub IsTrail-none : (p : Packet) (since : ℕ) (came : Colour) (hops : List Hop) → IsTrail p since came hops []
unfolding IsTrail
IsTrail-none p since came [] = tt
IsTrail-none p since came (hop ∷ hops) = tt
