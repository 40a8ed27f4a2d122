-- How a value is written as a line of JSON, and how a figure stands in it.
use Rattle.std.specs.Prelude.{◌≡◌, ℕ, ◌^◌, nat_lt, List, [], ◌∷◌, ◌++◌, codes, decimal, drop, if◌then◌else◌, Option, None, Some}
use Rattle.serde_json.specs.Data.{Data, Num, unsigned, negative, float, null, boolean, number, string, array, object, member, no_members}
use Rattle.serde_json.specs.Find.{get}
use Rattle.serde_json.specs.Read.{read}
use Rattle.serde_json.specs.Written.{compact_text}

-- A whole number; one of more than 64 bits, which JSON's readers would round, is a string of its digits.
abbrev pub figure_data : ℕ → Data
figure_data n = if nat_lt n (2 ^ 64) then number (unsigned n) else string (decimal n)

-- so many packets and bytes
abbrev pub count_data : ℕ → ℕ → Data
count_data packets bytes = object
    (member (codes "bytes") (figure_data bytes)
    (member (codes "packets") (figure_data packets) no_members))

-- the keys of a count, in the order of its words
abbrev pub count_keys : List (List ℕ)
count_keys = codes "packets" ∷ codes "bytes" ∷ []

-- the digits of a number
abbrev pub digits_of : Num → List ℕ
digits_of (unsigned n) = decimal n
digits_of (negative z) = []
digits_of (float x) = []

-- the word that a value is: a text as it stands, or the digits of a figure
abbrev pub word_in : Data → List ℕ
word_in null = []
word_in (boolean b) = []
word_in (number n) = digits_of n
word_in (string text) = text
word_in (array elements) = []
word_in (object entries) = []

-- a word behind a space, before what follows; nothing where there is none
abbrev pub word_before : Option Data → List ℕ → List ℕ
word_before None rest = rest
word_before (Some found) rest = codes " " ++ word_in found ++ rest

-- the words at some keys of an object, each behind a space, before what follows
abbrev pub words_before : List (List ℕ) → Data → List ℕ → List ℕ
words_before [] content rest = rest
words_before (key ∷ keys) content rest = word_before (get key content) (words_before keys content rest)

-- the line that the words at some keys of an object are
abbrev pub words_line : List (List ℕ) → Data → List ℕ
words_line keys content = drop 1 (words_before keys content (codes "\n"))

-- a value with no space, and LF
abbrev pub line_of : Data → List ℕ
line_of content = compact_text content ++ codes "\n"

-- a text is the line of a value, which it reads back as
pub record IsLineOf (content : Data) (text : List ℕ) : Type 0 where
  pub line : text ≡ line_of content
  pub reads_back : read (compact_text content) ≡ Some content
