-- The tests of what contracts bring to each meter of a domain.
use Rattle.std.specs.Prelude.{ℕ, List, [], ◌∷◌, ◌++◌}
use Rattle.moment_core.specs.declared.column.Column.TheVariants.{Green}
use Rattle.envelope_core.specs.Curve.{Curve}
use Rattle.ds_domain_base.specs.Domains.{Domain}
use Rattle.ds_domain_base.specs.declared.contract.Contract.{Contract}
use Rattle.ds_domain_base.specs.declared.parts.Meter.{Meter}
use Rattle.ds_certificate.specs.Columns.{Bound}
use Rattle.ds_domain_base.specs.Limits.{all_limit, green_limit, held_column}
use Rattle.ds_checker.specs.Loads.{Share, counted, load, shares_at}
use Rattle.ds_checker.specs.Tests.{Test}
use Rattle.ds_checker.specs.declared.refusal.Refusal.TheVariants.{GreenRate, GreenBurst, AllRate, AllBurst}

-- what is held against what a meter has for green packets, and against what it has for green and yellow ones
abbrev pub green_load : Meter → List Share → Curve
green_load m shares = load Green m.skew shares

abbrev pub all_load : Meter → List Share → Curve
all_load m shares = load (held_column m.parameters) m.skew (counted m.parameters shares)

-- green rate, green burst, all rate, all burst
abbrev pub load_tests : List ℕ → Meter → Curve → Curve → List Test
load_tests name m green all =
    record { refused = GreenRate name; needed = green.rate; given = (green_limit m.parameters).rate }
    ∷ record { refused = GreenBurst name; needed = green.burst; given = (green_limit m.parameters).burst }
    ∷ record { refused = AllRate name; needed = all.rate; given = (all_limit m.parameters).rate }
    ∷ record { refused = AllBurst name; needed = all.burst; given = (all_limit m.parameters).burst }
    ∷ []

abbrev pub meter_tests : List ℕ → Meter → List Share → List Test
meter_tests name m shares = load_tests name m (green_load m shares) (all_load m shares)

-- meter by meter
unfoldable pub table_tests : Domain → List Contract → List (List Bound) → List (List ℕ × Meter) → List Test
table_tests d contracts rows [] = []
table_tests d contracts rows (entry ∷ meters) =
    meter_tests entry.0 entry.1 (shares_at d entry.0 contracts rows) ++ table_tests d contracts rows meters
