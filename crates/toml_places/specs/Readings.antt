-- What follows something that is read at the front of a TOML text.
use Rattle.std.specs.Prelude.{◌≡◌, ℕ, List, IfSome}
use Rattle.toml_parser.specs.Lexical.{Read}

-- Where something is read at the front of a text, this is what follows it.
abbrev pub Follows : {A : Type 0} → Read A → List ℕ → Type 0
Follows read rest = IfSome read (λ found. found.1 ≡ rest)
