-- The lines that say an arrival, and those that say a sized moment.
use Rattle.std.specs.Prelude.{ℕ, ◌==◌, ◌+◌, ◌-◌, ◌^◌, nat_lt, List, [], ◌∷◌, Option, None, Some, option_and_then}
use Rattle.std.specs.Prelude.{if◌then◌else◌}
use Rattle.line_text.specs.Lines.{fields_of}
use Rattle.line_text.specs.Numbers.{number_of}
use Rattle.dsedge_lines.specs.Quantities.{size_in}
use Rattle.meter_book.specs.declared.row.Arrival.{Arrival}
use Rattle.moment_core.specs.declared.colour.Colour.{Colour}
use Rattle.moment_core.specs.declared.colour.Colour.TheVariants.{Green, Yellow, Red}

-- the colour of a letter: g is 103, y is 121, r is 114
abbrev pub colour_of_letter : ℕ → Option Colour
colour_of_letter letter =
    if letter == 103 then
    Some Green
    else
    if letter == 121 then Some Yellow else if letter == 114 then Some Red else None

-- a field that is one letter names a colour
abbrev pub colour_named : List ℕ → Option Colour
colour_named (letter ∷ []) = colour_of_letter letter
colour_named _ = None

abbrev pub arrival_of_fields : ℕ → List (List ℕ) → Option Arrival
arrival_of_fields number (at ∷ bytes ∷ letter ∷ []) =
    option_and_then (λ moment.
    option_and_then (λ size.
    option_and_then (λ came. Some
    (record { flow = 0; packet = number; hop = 0; moment = moment; size = size; came = came }))
    (colour_named letter)) (size_in bytes)) (number_of (2 ^ 63 - 1) at)
arrival_of_fields number _ = None

-- the arrival that a line says: moment, size and colour, one space apart; the number of the line is the packet's
unfoldable pub arrival_in : ℕ → List ℕ → Option Arrival
arrival_in number line = arrival_of_fields number (fields_of line)

abbrev pub onto : Option Arrival → List Arrival → List Arrival
onto None later = []
onto (Some arrival) later = arrival ∷ later

-- the arrivals of lines, up to the first line that says none; the first line has this number
unfoldable pub arrivals_from : ℕ → List (List ℕ) → List Arrival
arrivals_from number [] = []
arrivals_from number (line ∷ lines) = onto (arrival_in number line) (arrivals_from (number + 1) lines)

abbrev pub sized_of_fields : List (List ℕ) → Option (ℕ × ℕ)
sized_of_fields (at ∷ bytes ∷ []) =
    option_and_then (λ moment. option_and_then (λ size. Some (moment, size)) (size_in bytes))
    (number_of (2 ^ 63 - 1) at)
sized_of_fields _ = None

-- the sized moment that a line says: moment and size, one space apart
unfoldable pub sized_in : List ℕ → Option (ℕ × ℕ)
sized_in line = sized_of_fields (fields_of line)

-- the sized moment that a line says, where it is not below a moment
unfoldable pub sized_since : ℕ → List ℕ → Option (ℕ × ℕ)
sized_since newest line = option_and_then (λ item. if nat_lt item.0 newest then None else Some item) (sized_in line)

abbrev pub onward : Option (ℕ × ℕ) → (ℕ → List (ℕ × ℕ)) → List (ℕ × ℕ)
onward None later = []
onward (Some item) later = item ∷ later item.0

-- the sized moments of lines, up to the first line that says none or falls below the moment before it
unfoldable pub sized_from : ℕ → List (List ℕ) → List (ℕ × ℕ)
sized_from newest [] = []
sized_from newest (line ∷ lines) = onward (sized_since newest line) (λ moment. sized_from moment lines)
