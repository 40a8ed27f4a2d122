-- Moments and sizes that fields of a line say.
use Rattle.std.specs.Prelude.{ℕ, ◌==◌, List, Option, None, Some, option_and_then, if◌then◌else◌}
use Rattle.line_text.specs.Numbers.{number_of}

-- a size is a number from 1 to 65,535
abbrev pub size_in : List ℕ → Option ℕ
size_in field = option_and_then (λ size. if size == 0 then None else Some size) (number_of 65535 field)
