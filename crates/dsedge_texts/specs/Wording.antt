-- How contracts, kinds of faults, columns and figures are written in what is told of them.
use Rattle.std.specs.Prelude.{ℕ, List, [], ◌∷◌, ◌++◌, codes, decimal, position, slice_get, Option, bytes_eq}
use Rattle.std.specs.Option.{option_map_or}
use Rattle.ds_domain_base.specs.declared.contract.Contract.{Contract}
use Rattle.ds_domain_base.specs.declared.fault.Kind.{Kind}
use Rattle.ds_domain_base.specs.declared.fault.Kind.TheVariants as kinds
use Rattle.moment_core.specs.declared.column.Column.{Column}
use Rattle.moment_core.specs.declared.column.Column.TheVariants.{Green, All, Excess}

-- the name of the contract of a number
abbrev pub name_of : List Contract → ℕ → List ℕ
name_of contracts number = option_map_or (λ c. c.name) (slice_get contracts number) []

-- where the first contract of a name stands among some
abbrev pub place_named : List Contract → List ℕ → Option ℕ
place_named contracts name = position (λ c. bytes_eq name c.name) contracts

abbrev pub column_text : Column → List ℕ
column_text Green = codes "green"
column_text All = codes "all"
column_text Excess = codes "excess"

-- a figure behind a space
abbrev pub figure : ℕ → List ℕ
figure number = codes " " ++ decimal number

-- a text, or `-` in the place of none: a field is written as its key
abbrev pub text_or_dash : List ℕ → List ℕ
text_or_dash [] = codes "-"
text_or_dash (letter ∷ letters) = letter ∷ letters

-- how a kind of fault of a domain is written
abbrev pub kind_text : Kind → List ℕ
kind_text kinds.Text = codes "Text"
kind_text kinds.Field = codes "Field"
kind_text kinds.Range = codes "Range"
kind_text kinds.Twice = codes "Twice"
kind_text kinds.UnknownName = codes "UnknownName"
kind_text kinds.NoLink = codes "NoLink"
kind_text kinds.PathRepeats = codes "PathRepeats"
kind_text kinds.PathLength = codes "PathLength"
kind_text kinds.BlindInside = codes "BlindInside"
kind_text kinds.NoMemory = codes "NoMemory"
