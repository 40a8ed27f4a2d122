-- Columns: which packets envelopes and bounds speak of.
use Rattle.std.specs.Prelude.{Bool, List, [], ◌∷◌}
use Rattle.moment_core.specs.declared.colour.Colour.{Colour}
use Rattle.moment_core.specs.declared.column.Column.{Column}
use Rattle.moment_core.specs.declared.column.Column.TheVariants.{Green, All, Excess}
use Rattle.moment_core.specs.Colours.{is_green, is_in_profile, is_yellow}

-- whether a column speaks of packets of a colour
abbrev pub counts : Column → Colour → Bool
counts Green = is_green
counts All = is_in_profile
counts Excess = is_yellow

-- every column, in the order in which they are judged
abbrev pub each_column : List Column
each_column = Green ∷ All ∷ Excess ∷ []
