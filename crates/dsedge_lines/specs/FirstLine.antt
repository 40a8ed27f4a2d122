-- The first line of an input.
use Rattle.std.specs.Prelude.{ℕ, Bool, true, false, ◌==◌, List, [], ◌∷◌, Result, Ok, Err, if◌then◌else◌}
use Rattle.dsedge_lines.specs.declared.words.FirstLineFault.{FirstLineFault}
use Rattle.dsedge_lines.specs.declared.words.FirstLineFault.TheVariants.{Usage, Read, NoMemory}

-- the bytes before the first LF (10), or all
unfoldable pub first_line_of : List ℕ → List ℕ
first_line_of [] = []
first_line_of (byte ∷ bytes) = if byte == 10 then [] else byte ∷ first_line_of bytes

-- the bytes behind the first LF, or none
unfoldable pub after_first_line : List ℕ → List ℕ
after_first_line [] = []
after_first_line (byte ∷ bytes) = if byte == 10 then bytes else after_first_line bytes

-- whether the line could not be read
abbrev pub is_read_fault : {T : Type 0} → Result T FirstLineFault → Bool
is_read_fault (Ok value) = false
is_read_fault (Err Usage) = false
is_read_fault (Err Read) = true
is_read_fault (Err NoMemory) = false

-- the number of a fault of the first line
abbrev pub first_line_fault_code : FirstLineFault → ℕ
first_line_fault_code Usage = 1
first_line_fault_code Read = 2
first_line_fault_code NoMemory = 3
