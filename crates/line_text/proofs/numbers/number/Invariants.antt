use Rattle.std.proofs.Common.{◌≡◌, drop, fold}
use Rattle.std.specs.List.{list_all}
use Rattle.std.specs.Char.{is_ascii_digit}
use Rattle.line_text.specs.Numbers.{with_digit}
use Rattle.line_text.proofs.numbers.number.Given as goal

-- the digits that are left, read on from the value so far, say what all of them say
abbrev pub invariant-loop-place : goal.invariant-loop-place
invariant-loop-place l = record {
  value : fold with_digit l.value (drop l.place l.text) ≡ fold with_digit 0 l.text;
  digits : list_all is_ascii_digit (drop l.place l.text) ≡ list_all is_ascii_digit l.text;
}
