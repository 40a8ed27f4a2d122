-- The numbers of what stands against a run.
use Rattle.std.specs.Prelude.{ℕ}
use Rattle.run_audit.specs.declared.fault.AssembleFault.{AssembleFault}
use Rattle.run_audit.specs.declared.fault.AssembleFault.TheVariants.{Mismatch, Untold, Doubled, NoMemory}

abbrev pub code_of : AssembleFault → ℕ
code_of Mismatch = 1
code_of Untold = 2
code_of Doubled = 3
code_of NoMemory = 4
