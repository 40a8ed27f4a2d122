-- The numbers of refusals.
use Rattle.std.specs.Prelude.{ℕ}
use Rattle.ds_checker.specs.declared.refusal.Refusal.{Refusal}
use Rattle.ds_checker.specs.declared.refusal.Refusal.TheVariants as refusals

abbrev pub refusal_code : Refusal → ℕ
refusal_code (refusals.Shape contract) = 1
refusal_code (refusals.FirstBound contract column needed given) = 2
refusal_code (refusals.HopBound contract hop column needed given) = 3
refusal_code (refusals.GreenRate meter needed available) = 4
refusal_code (refusals.GreenBurst meter needed available) = 5
refusal_code (refusals.AllRate meter needed available) = 6
refusal_code (refusals.AllBurst meter needed available) = 7
refusal_code refusals.NoMemory = 8
