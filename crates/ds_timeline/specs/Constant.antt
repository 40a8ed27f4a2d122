-- A table that is as it is at every moment, as a timeline.
use Rattle.std.specs.Prelude.{ℕ, suc, List, [], ◌∷◌, None}
use Rattle.ds_domain_base.specs.declared.contract.Contract.{Contract}
use Rattle.ds_certificate.specs.Columns.{Bound}
use Rattle.ds_checker.specs.Acceptance.{Table}
use Rattle.ds_timeline.specs.Timelines.{Timeline}
use Rattle.ds_timeline.specs.declared.reservation.Reservation.{Reservation}

-- contracts with their bounds from a flow on, reserved from the first moment on, and never retired
unfoldable pub reserved_from : ℕ → List Contract → List (List Bound) → List Reservation
reserved_from flow (c ∷ contracts) (bounds ∷ rows) =
    record { flow = flow; contract = c; bounds = bounds; from = 0; retirement = None }
    ∷ reserved_from (suc flow) contracts rows
reserved_from flow contracts rows = []

-- a table as a timeline: the flow of a contract is its place
abbrev pub timeline_of : Table → Timeline
timeline_of t = record { domain = t.domain; reservations = reserved_from 0 t.contracts t.certificate }
