-- The tests of a certificate's shape and of its bounds, contract by contract (Cruz 1991, section II).
use Rattle.std.specs.Prelude.{ℕ, suc, ◌+◌, ◌&&◌, nat_eq, List, [], ◌∷◌, ◌++◌, length, map, Option, None, Some, if◌then◌else◌}
use Rattle.moment_core.specs.Columns.{each_column}
use Rattle.moment_core.specs.Volume.{bytes_over}
use Rattle.moment_core.specs.declared.column.Column.{Column}
use Rattle.ds_domain_base.specs.Domains.{Domain}
use Rattle.ds_domain_base.specs.declared.contract.Contract.{Contract}
use Rattle.ds_certificate.specs.Bounds.{fits}
use Rattle.ds_certificate.specs.Columns.{Bound, bytes_in, envelope_in}
use Rattle.ds_certificate.specs.Sources.{jitters_of, source_of}
use Rattle.ds_certificate.specs.declared.source.Source.{Source}
use Rattle.ds_checker.specs.Tests.{Test}
use Rattle.ds_checker.specs.declared.refusal.Refusal.TheVariants.{FirstBound, HopBound}

-- The least contract, of which the first has this number, that does not fit, or that has not one bound more than its
-- path has meters. What is too many on either side counts as the next.
unfoldable pub misfit : ℕ → Domain → List Contract → List (List Bound) → Option ℕ
misfit number d [] [] = None
misfit number d [] (bounds ∷ rows) = Some number
misfit number d (c ∷ contracts) [] = Some number
misfit number d (c ∷ contracts) (bounds ∷ rows) =
    if fits d c && nat_eq (length bounds) (suc (length c.path)) then
    misfit (suc number) d contracts rows
    else
    Some number

-- a test in each column, in their order
abbrev pub in_columns : (Column → Test) → List Test
in_columns test = map test each_column

-- the first bound is no less than the burst that the traffic enters with
abbrev pub first_test : ℕ → Source → Bound → Column → Test
first_test number s first column = record {
  refused = FirstBound number column;
  needed = (envelope_in column s).burst;
  given = bytes_in column first;
}

-- behind a link a bound is no less than the one before it and what the rate gives over the link's jitter, rounded up
abbrev pub hop_test : ℕ → ℕ → Source → ℕ → Bound → Bound → Column → Test
hop_test number hop s jitter before bound column = record {
  refused = HopBound number hop column;
  needed = bytes_in column before + bytes_over (envelope_in column s).rate jitter;
  given = bytes_in column bound;
}

-- hop by hop from a hop on
unfoldable pub hop_tests : ℕ → ℕ → Source → List ℕ → Bound → List Bound → List Test
hop_tests number hop s (jitter ∷ jitters) before (bound ∷ bounds) =
    in_columns (hop_test number hop s jitter before bound) ++ hop_tests number (suc hop) s jitters bound bounds
hop_tests number hop s jitters before bounds = []

abbrev pub tests_along : ℕ → Source → List ℕ → List Bound → List Test
tests_along number s jitters [] = []
tests_along number s jitters (first ∷ bounds) =
    in_columns (first_test number s first) ++ hop_tests number 1 s jitters first bounds

-- contract by contract, of which the first has this number
unfoldable pub bound_tests : ℕ → Domain → List Contract → List (List Bound) → List Test
bound_tests number d (c ∷ contracts) (bounds ∷ rows) =
    tests_along number (source_of d c) (jitters_of d c) bounds ++ bound_tests (suc number) d contracts rows
bound_tests number d contracts rows = []
