-- Steps that may fail, one after the other.
use Rattle.std.specs.Borrow.{Bor}
use Rattle.std.specs.Prelude.{Option, None, Some, Result, Ok, Err}

-- the next step, where the one before did not fail
infixl 10 ◌>>=◌
abbrev pub ◌>>=◌ : {A B E : Type 0} → Result A E → (A → Result B E) → Result B E
Ok a >>= next = next a
Err e >>= next = Err e

-- what is there, or else the failure
abbrev pub or_fail : {A E : Type 0} → Option A → E → Result A E
or_fail None e = Err e
or_fail (Some a) e = Ok a

-- the next step on an option
abbrev pub and_then : {A B : Type 0} → Option A → (A → Option B) → Option B
and_then None next = None
and_then (Some a) next = next a

-- what a text that is lent says
abbrev pub lent : {A E : Type 0} → Result (Bor A) E → Result A E
lent (Ok text) = Ok text.now
lent (Err e) = Err e

-- what a text says that is lent where it is there
abbrev pub lent_if_there : {A E : Type 0} → Result (Option (Bor A)) E → Result (Option A) E
lent_if_there (Ok None) = Ok None
lent_if_there (Ok (Some text)) = Ok (Some text.now)
lent_if_there (Err e) = Err e
