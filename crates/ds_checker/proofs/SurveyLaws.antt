-- What is taken at each meter by the sums of a table is what is taken there.
use Rattle.std.proofs.Common.{◌≡◌, ◌⊎◌, ℕ, List, [], ◌∷◌, ◌++◌, map, refl, ap, ◌∙◌, append-nil, append_assoc}
use Rattle.ds_domain_base.specs.declared.parts.Meter.{Meter}
use Rattle.ds_checker.specs.Acceptance.{Table}
use Rattle.ds_checker.specs.Headrooms.{headroom_at, headroom_by}
use Rattle.ds_checker.specs.Loads.{shares_at}
use Rattle.ds_checker.specs.Sums.{counted_load, loads_of, sums_of}
use Rattle.ds_checker.specs.Surveys.{headrooms_by, headrooms_of}
use Rattle.ds_checker.specs.declared.headroom.Headroom.{Headroom}
use Rattle.ds_checker.specs.declared.load.Loads.{Loads}
use Rattle.ds_checker.proofs.HeadroomLaws.{headroom-is}
use Rattle.ds_checker.proofs.LoadLaws.{neither}

headrooms_over : (t : Table) (meters : List (List ℕ × Meter))
    → headrooms_by meters (map (λ entry. sums_of entry.1.skew (shares_at t.domain entry.0 t.contracts t.certificate)) meters)
    ≡ map (λ entry. headroom_at t entry.0 entry.1) meters
unfolding headrooms_by
headrooms_over t [] = refl
headrooms_over t (entry ∷ meters) =
    let l = sums_of entry.1.skew (shares_at t.domain entry.0 t.contracts t.certificate) in
    ap (λ own. own ∷ headrooms_by meters (map (λ other. sums_of other.1.skew (shares_at t.domain other.0 t.contracts t.certificate)) meters))
    (headroom-is t entry.0 entry.1 l refl)
    ∙ ap (λ rest. headroom_at t entry.0 entry.1 ∷ rest) (headrooms_over t meters)

-- by the sums that were gathered
pub headrooms_found : (t : Table) (own sums : List Loads) (found : List Headroom) → own ≡ sums → sums ≡ loads_of t
    → found ≡ headrooms_by t.domain.meters own → found ≡ headrooms_of t
headrooms_found t own sums found is_own is_sums is = is ∙ ap (headrooms_by t.domain.meters) (is_own ∙ is_sums) ∙ headrooms_over t t.domain.meters

-- ---- a loop over meters and sums
pub headrooms_next : (told : List Headroom) (xs meters : List (List ℕ × Meter)) (name : List ℕ) (m : Meter) (ys sums : List Loads) (l : Loads) (h : Headroom)
    → xs ≡ (name, m) ∷ meters → ys ≡ l ∷ sums → h ≡ headroom_by m l.green (counted_load m.parameters l)
    → (told ++ h ∷ []) ++ headrooms_by meters sums ≡ told ++ headrooms_by xs ys
unfolding headrooms_by
headrooms_next told xs meters name m ys sums l h is_meters is_sums is =
    rw is_meters (rw is_sums (rw is (append_assoc told (headroom_by m l.green (counted_load m.parameters l) ∷ []) (headrooms_by meters sums))))

pub headrooms_ended : (told : List Headroom) (xs : List (List ℕ × Meter)) (ys : List Loads) → (xs ≡ []) ⊎ (ys ≡ []) → told ++ headrooms_by xs ys ≡ told
unfolding headrooms_by
headrooms_ended told [] ys ended = append-nil told
headrooms_ended told (entry ∷ meters) [] ended = append-nil told
headrooms_ended told (entry ∷ meters) (l ∷ sums) ended = neither ended
