-- Which files can be read whole, and the texts of several.
use Rattle.std.specs.Prelude.{◌≡◌, ℕ, ◌^◌, nat_le, List, [], ◌∷◌, Option, None, Some, Result, Ok, Err, length, if◌then◌else◌, Contains, bytes_eq}
use Rattle.std.specs.Borrow.{Bor}
use Rattle.dsedge_texts.specs.declared.fault.TextFault.{TextFault}
use Rattle.dsedge_texts.specs.declared.fault.TextFault.TheVariants.{File, NoMemory}

-- a file can be read whole that has at most 16 MiB
abbrev pub readable : Option (List ℕ) → Option (List ℕ)
readable None = None
readable (Some bytes) = if nat_le (length bytes) (2 ^ 24) then Some bytes else None

-- what the file of a name holds among files with their names, of which the first counts
unfoldable pub held_by : List (Bor (List ℕ) × Bor (List ℕ)) → List ℕ → Option (List ℕ)
held_by [] name = None
held_by (file ∷ files) name = if bytes_eq file.0.now name then Some file.1.now else held_by files name

-- what one more file adds to the texts of those behind it, which are not read where it gives none
abbrev pub with_text : List ℕ → Option (List ℕ) → Result (List (List ℕ)) (List ℕ) → Result (List (List ℕ)) (List ℕ)
with_text name None later = Err name
with_text name (Some text) (Ok texts) = Ok (text ∷ texts)
with_text name (Some text) (Err unread) = Err unread

-- the texts of files in the order of their names, or the first name whose file cannot be read
unfoldable pub texts_of : (List ℕ → Option (List ℕ)) → List (List ℕ) → Result (List (List ℕ)) (List ℕ)
texts_of holds [] = Ok []
texts_of holds (name ∷ names) = with_text name (readable (holds name)) (texts_of holds names)

-- a file that gave no text is one of those that were asked for
abbrev pub IsNamed : List (List ℕ) → TextFault → Type 0
IsNamed names (File name reason) = Contains names name
IsNamed names NoMemory = Unit {0}

-- why not all files gave their texts: the first that cannot be read; memory may run out
abbrev pub IsUnread : (List ℕ → Option (List ℕ)) → List (List ℕ) → TextFault → Type 0
IsUnread holds names (File name reason) = texts_of holds names ≡ Err name
IsUnread holds names NoMemory = Unit {0}
