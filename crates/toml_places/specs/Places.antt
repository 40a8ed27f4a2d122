-- Lines and columns of a text.
use Rattle.std.specs.Prelude.{ℕ, ◌+◌, Bool, ◌||◌, ◌==◌, nat_lt, nat_le, if◌then◌else◌, List, take, count_by, fold}

-- a line feed
abbrev pub ends_line : ℕ → Bool
ends_line byte = byte == 10

-- the first byte of a character of UTF-8: any but those that go on with one, which are 10xxxxxx
abbrev pub begins_character : ℕ → Bool
begins_character byte = nat_lt byte 128 || nat_le 192 byte

-- The line of the place behind so many bytes, from 1: as many line feeds stand before it.
abbrev pub line_at : List ℕ → ℕ → ℕ
line_at text offset = 1 + count_by ends_line (take offset text)

-- The column behind a byte: the first behind a line feed, else one more behind the first byte of a character.
abbrev pub next_column : ℕ → ℕ → ℕ
next_column column byte =
    if ends_line byte then 1 else if begins_character byte then column + 1 else column

-- The column there, from 1: as many characters of its line stand before it.
abbrev pub column_at : List ℕ → ℕ → ℕ
column_at text offset = fold next_column 1 (take offset text)
