-- What the fields of a run stand for, and what they keep.
use Rattle.run_audit.specs.Runs.{IsRun}
use Rattle.run_audit.specs.Assembled.{GroundRun, run_of}
use Rattle.run_audit.specs.Bases.{basis_of}
use Rattle.run_audit.specs.declared.run.Run.TheInside as runs

abbrev pub ground_run_of : runs.Inside → GroundRun
ground_run_of r = record { basis = basis_of r.basis; run = run_of r.journals.items r.trails.items }

-- the run is one over the ground
abbrev pub IsKept : runs.Inside → Type 0
IsKept r = IsRun (basis_of r.basis) (run_of r.journals.items r.trails.items)
