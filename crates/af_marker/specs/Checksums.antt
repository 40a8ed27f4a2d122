-- The header checksum: the ones' complement sum of 16-bit words (RFC 791 section 3.1, RFC 1071 section 1).
use Rattle.std.specs.Prelude.{ℕ, ◌+◌, ◌-◌, ◌*◌, zero, suc, ◌%◌, nat_lt, if◌then◌else◌, List, [], ◌∷◌}

-- the 16-bit words of bytes, the higher byte first; an odd byte at the end is the higher byte of a word
abbrev pub words : List ℕ → List ℕ
words [] = []
words (high ∷ []) = 256 * high ∷ []
words (high ∷ (low ∷ rest)) = (256 * high + low) ∷ words rest

-- the ones' complement sum of two words: a carry out of the highest bit comes in at the lowest
abbrev pub ones_add : ℕ → ℕ → ℕ
ones_add a b = if nat_lt (a + b) 65536 then a + b else a + b - 65536 + 1

-- the ones' complement sum of words
abbrev pub ones_sum : List ℕ → ℕ
ones_sum [] = 0
ones_sum (word ∷ rest) = ones_add word (ones_sum rest)

-- what is left of a plain sum once every carry out of the highest bit came in at the lowest (RFC 1071 section 2)
abbrev pub folded : ℕ → ℕ
folded zero = 0
folded (suc n) = 1 + n % 65535

-- a checksum once a word that it covers is another: HC' = ~(~HC + ~m + m') (RFC 1624 section 3, equation 3)
abbrev pub updated : ℕ → ℕ → ℕ → ℕ
updated checksum before after = 65535 - folded (65535 - checksum + (65535 - before) + after)
