-- The books before the first step: one for each site where something stands.
use Rattle.std.proofs.Common.{◌≡◌, ◌<◌, ◌≤◌, ◌-◌, ℕ, false, [], length, Option, None, Some, refl, sym, ◌∙◌, ap, arith, inl, inr, ◌⊎◌, nat_lt, option_map}
use Rattle.std.proofs.lemmas.Bool.Decides.{nat_tests}
use Rattle.std.proofs.lemmas.Option.{none-some, same_Some}
use Rattle.meter_fabric_base.specs.Grounds.{flow_count, ground_of}
use Rattle.meter_fabric_base.proofs.GroundLaws.{contract_past}
use Rattle.meter_fabric_base.proofs.RangeLaws.{range_past, range_within}
use Rattle.meter_book.specs.Replay.{Book, rows_from, rows_of}
use Rattle.ds_checker.specs.Acceptance.{Table}
use Rattle.meter_fabric_base.specs.Openings.{book_with, opening_at, site_count}
use Rattle.meter_fabric_base.specs.declared.site.Opening.{Opening}
use Rattle.ds_runs.specs.Steps.{book_at, opened_at, opened_with, some_of}
use Rattle.ds_runs.specs.OnTheWay.{opened_by}

-- nothing stands at a site beyond the last
opening_past : (t : Table) (site : ℕ) → site_count t ≤ site → opening_at (ground_of t) site ≡ None
opening_past t site past =
    let behind : nat_lt site (length t.domain.meters) ≡ false = grind (arith, nat_tests, past) in
    let flow : flow_count t ≤ site - length t.domain.meters = omega (arith, past) in
    rw (behind, contract_past t (site - length t.domain.meters) flow) refl

-- ---- at first

opened_openings_by : (capacity : ℕ) (t : Table) (site : ℕ) → site < site_count t ⊎ site_count t ≤ site
    → book_at (opened_with capacity t) site ≡ opened_at capacity t site
opened_openings_by capacity t site (inl short) = ap some_of (range_within (opened_at capacity t) (site_count t) site short)
opened_openings_by capacity t site (inr past) =
    ap some_of (range_past (opened_at capacity t) (site_count t) site past) ∙ sym (ap (option_map (book_with capacity)) (opening_past t site past))

-- at each site stands the book of what opens there
pub opened_book : (capacity : ℕ) (t : Table) (site : ℕ) → book_at (opened_with capacity t) site ≡ opened_at capacity t site
opened_book capacity t site = opened_openings_by capacity t site (grind arith)

-- which opens what stands there
pub opening_of-opened : (capacity : ℕ) (found : Option Opening) → option_map (λ (b : Book). b.opening) (option_map (book_with capacity) found) ≡ option_map opened_by found
opening_of-opened capacity None = refl
opening_of-opened capacity (Some o) = refl

-- and has no arrivals, so no rows
pub no_arrivals : (capacity : ℕ) (found : Option Opening) (b : Book) → option_map (book_with capacity) found ≡ Some b → b.arrivals ≡ []
no_arrivals capacity None b is = absurd (none-some b is)
no_arrivals capacity (Some o) b is = ap (λ (book : Book). book.arrivals) (sym (same_Some (book_with capacity o) b is))

pub no_rows : (capacity : ℕ) (found : Option Opening) (b : Book) → option_map (book_with capacity) found ≡ Some b → rows_of b ≡ []
no_rows capacity found b is = ap (rows_from b.opening.meter b.opening.place) (no_arrivals capacity found b is)
