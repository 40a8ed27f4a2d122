-- How the checker's refusal is written: its number, its name and its figures.
use Rattle.std.specs.Prelude.{ℕ, List, [], ◌++◌, codes, decimal}
use Rattle.moment_core.specs.declared.column.Column.{Column}
use Rattle.ds_domain_base.specs.declared.contract.Contract.{Contract}
use Rattle.ds_checker.specs.declared.refusal.Refusal.{Refusal}
use Rattle.ds_checker.specs.declared.refusal.Refusal.TheVariants as refusals
use Rattle.dsedge_texts.specs.Wording.{column_text, figure, name_of}

-- two figures
abbrev pub figures_text : ℕ → ℕ → List ℕ
figures_text needed given = figure needed ++ figure given

-- the number and the name of a refusal
abbrev pub test_text : Refusal → List ℕ
test_text (refusals.Shape number) = codes "1 Shape"
test_text (refusals.FirstBound number column needed given) = codes "2 FirstBound"
test_text (refusals.HopBound number hop column needed given) = codes "3 HopBound"
test_text (refusals.GreenRate meter needed available) = codes "4 GreenRate"
test_text (refusals.GreenBurst meter needed available) = codes "5 GreenBurst"
test_text (refusals.AllRate meter needed available) = codes "6 AllRate"
test_text (refusals.AllBurst meter needed available) = codes "7 AllBurst"
test_text refusals.NoMemory = codes "8 NoMemory"

-- a bound's column and its figures, behind a space
abbrev pub column_figures_text : Column → ℕ → ℕ → List ℕ
column_figures_text column needed given = codes " " ++ column_text column ++ figures_text needed given

-- the meter that it is at, and its figures; nothing where it is at none
abbrev pub meter_place_text : Refusal → List ℕ
meter_place_text (refusals.GreenRate meter needed available) = meter ++ figures_text needed available
meter_place_text (refusals.GreenBurst meter needed available) = meter ++ figures_text needed available
meter_place_text (refusals.AllRate meter needed available) = meter ++ figures_text needed available
meter_place_text (refusals.AllBurst meter needed available) = meter ++ figures_text needed available
meter_place_text refusal = []

-- where it is, and its figures
abbrev pub place_text : List Contract → Refusal → List ℕ
place_text contracts (refusals.Shape number) = decimal number
place_text contracts (refusals.FirstBound number column needed given) =
    name_of contracts number ++ column_figures_text column needed given
place_text contracts (refusals.HopBound number hop column needed given) =
    name_of contracts number ++ figure hop ++ column_figures_text column needed given
place_text contracts (refusals.GreenRate meter needed available) = meter ++ figures_text needed available
place_text contracts (refusals.GreenBurst meter needed available) = meter ++ figures_text needed available
place_text contracts (refusals.AllRate meter needed available) = meter ++ figures_text needed available
place_text contracts (refusals.AllBurst meter needed available) = meter ++ figures_text needed available
place_text contracts refusals.NoMemory = []

-- the line of a refusal
abbrev pub refusal_line : List Contract → Refusal → List ℕ
refusal_line contracts refusal =
    codes "refused " ++ test_text refusal ++ codes " " ++ place_text contracts refusal ++ codes "\n"
