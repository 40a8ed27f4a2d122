-- The word `--explain`, which asks for what there is to say of a fault.
use Rattle.std.specs.Prelude.{ℕ, Bool, not, List, codes, filter, bytes_eq}

-- the word itself
abbrev pub asks : List ℕ → Bool
asks word = bytes_eq word (codes "--explain")

-- the words that say what is to be done
abbrev pub plain_words : List (List ℕ) → List (List ℕ)
plain_words words = filter (λ word. not (asks word)) words
