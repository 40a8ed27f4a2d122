-- How a key is found in a TOML text, expression by expression.
use Rattle.std.specs.Prelude.{ℕ, zero, suc, ◌-◌, Bool, true, false, not, ◌&&◌, if◌then◌else◌, List, [], ◌∷◌, length, fold, bytes_eq}
use Rattle.std.specs.Prelude.{Option, None, Some, is_some}
use Rattle.std.specs.List.{list_any}
use Rattle.std.specs.Option.{option_map_or, option_or}
use Rattle.toml_parser.specs.Strings.{Key}
use Rattle.toml_places.specs.Aims.{Aim, first_part, second_part}
use Rattle.toml_places.specs.Expressions.{Located, expressions_of}
use Rattle.toml_places.specs.declared.findings.Findings.{Findings}
use Rattle.toml_places.specs.declared.findings.Progress.{Progress}
use Rattle.toml_places.specs.declared.findings.Spot.{Spot}
use Rattle.toml_places.specs.declared.findings.Stage.{Stage}
use Rattle.toml_places.specs.declared.findings.Stage.TheVariants.{Before, Inside, Beside, Behind}
use Rattle.toml_places.specs.declared.shape.Shape.{Shape}
use Rattle.toml_places.specs.declared.shape.Shape.TheVariants.{Pair, Table, Entry}

-- At the top a search begins inside; else so many entries come before the one that is meant.
abbrev pub first_stage : Aim → Stage
first_stage aim = option_map_or (λ section. Before aim.index) aim.section Inside

abbrev pub started : Aim → Progress
started aim = record { stage = first_stage aim; findings = record { entry = None; key = None } }

-- whether a name is one that is sought
abbrev pub is_wanted : Aim → List ℕ → Bool
is_wanted aim name =
    let is_named = list_any (λ one. bytes_eq one name) aim.names in
    if aim.is_named then is_named else not is_named

-- `[[section]]`
abbrev pub is_header : List ℕ → Shape → Key → Bool
is_header section Entry ([], last) = bytes_eq last section
is_header section _ _ = false

abbrev pub is_own : Aim → Shape → Key → Bool
is_own aim shape key = option_map_or (λ section. is_header section shape key) aim.section false

-- the key of the entry that a header says: `[key]` at the top, `[section.key]` in an entry
abbrev pub key_below : Aim → Key → Option (List ℕ)
key_below aim key =
    option_map_or (λ section. if bytes_eq (first_part key) section then second_part key else None) aim.section
    (Some (first_part key))

-- the key of the entry that an expression says: a pair under its own header, or a header within it
abbrev pub key_in : Aim → Stage → Shape → Key → Option (List ℕ)
key_in aim Inside Pair key = Some (first_part key)
key_in aim Inside Table key = key_below aim key
key_in aim Inside Entry key = key_below aim key
key_in aim Beside Table key = key_below aim key
key_in aim Beside Entry key = key_below aim key
key_in aim _ _ key = None

-- one entry more has begun
abbrev pub next_entry : Stage → Stage
next_entry (Before zero) = Inside
next_entry (Before (suc count)) = Before count
next_entry _ = Behind

-- any other expression
abbrev pub next_line : Stage → Shape → Stage
next_line Inside Table = Beside
next_line Inside Entry = Beside
next_line stage _ = stage

abbrev pub stage_after : Aim → Stage → Shape → Key → Stage
stage_after aim stage shape key = if is_own aim shape key then next_entry stage else next_line stage shape

-- the entry that is meant begins next
abbrev pub is_next : Stage → Bool
is_next (Before zero) = true
is_next _ = false

abbrev pub entry_after : Aim → Progress → ℕ → Shape → Key → Option ℕ
entry_after aim progress at shape key =
    if is_next progress.stage && is_own aim shape key then Some at else progress.findings.entry

-- the first of its keys that is one of those sought
abbrev pub key_after : Aim → Progress → Spot → Shape → Key → Option Spot
key_after aim progress spot shape key =
    option_or progress.findings.key
    (option_map_or (λ name. if is_wanted aim name then Some spot else None) (key_in aim progress.stage shape key) None)

-- where an expression stands in a text of so many bytes, by what is left of it there
abbrev pub spot_of : ℕ → Located → Spot
spot_of size e = record {
  key = size - length e.start;
  value = size - length e.value;
  end = size - length e.behind;
}

-- a search behind one expression more
abbrev pub after : Aim → ℕ → Progress → Located → Progress
after aim size progress e = record {
  stage = stage_after aim progress.stage e.shape e.key;
  findings = record {
    entry = entry_after aim progress (size - length e.start) e.shape e.key;
    key = key_after aim progress (spot_of size e) e.shape e.key;
  };
}

-- what is found in a text: the key, and the header of its entry
abbrev pub found_in : Aim → List ℕ → Findings
found_in aim text = (fold (after aim (length text)) (started aim) (expressions_of text)).findings
