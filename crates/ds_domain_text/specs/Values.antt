-- What the value at a key says, on the document that a text stands for.
use Rattle.std.specs.Prelude.{ℕ, ℤ, Bool, pos, negsuc, nat_le, ◌&&◌, if◌then◌else◌, List, [], ◌∷◌, Option, None, Some, Result}
use Rattle.std.specs.Prelude.{Ok, Err, option_map}
use Rattle.toml.specs.Data.{Data, Items, no_items, item, Members, get_member, as_integer, as_str, as_array, as_table}
use Rattle.ds_domain_text.specs.declared.flaw.Flaw.{Flaw}
use Rattle.ds_domain_text.specs.declared.flaw.Flaw.TheVariants.{Misfit, OutOfRange}
use Rattle.ds_domain_text.specs.declared.prefix.AddressPrefix.{AddressPrefix}
use Rattle.ds_domain_text.specs.Prefixes.{prefix_of}
use Rattle.ds_domain_text.specs.Steps.{◌>>=◌, or_fail, and_then}

-- the value at a key that must be there
unfoldable pub required : {A : Type 0} → (Data → Result A Flaw) → List ℕ → Members → Result A Flaw
required read key members = or_fail (get_member key members) Misfit >>= read

-- the value at a key that may be absent
abbrev pub read_if_there : {A : Type 0} → (Data → Result A Flaw) → Option Data → Result (Option A) Flaw
read_if_there read None = Ok None
read_if_there read (Some value) = read value >>= (λ a. Ok (Some a))

unfoldable pub optional : {A : Type 0} → (Data → Result A Flaw) → List ℕ → Members → Result (Option A) Flaw
optional read key members = read_if_there read (get_member key members)

-- a whole number that is at least one number and at most another
abbrev pub within : ℕ → ℕ → ℤ → Result ℕ Flaw
within least most (pos n) = if nat_le least n && nat_le n most then Ok n else Err OutOfRange
within least most (negsuc n) = Err OutOfRange

unfoldable pub number_in : ℕ → ℕ → Data → Result ℕ Flaw
number_in least most value = or_fail (as_integer value) Misfit >>= within least most

-- a text
unfoldable pub text_in : Data → Result (List ℕ) Flaw
text_in value = or_fail (as_str value) Misfit

-- what each item says, where each says something
abbrev pub each_of : {A : Type 0} → (Data → Option A) → Items → Option (List A)
each_of read no_items = Some []
each_of read (item value items) = and_then (read value) (λ a. option_map (λ more. a ∷ more) (each_of read items))

-- an array of texts, and an array of tables
unfoldable pub texts_in : Data → Result (List (List ℕ)) Flaw
texts_in value = or_fail (and_then (as_array value) (each_of as_str)) Misfit

unfoldable pub tables_in : Data → Result (List Members) Flaw
tables_in value = or_fail (and_then (as_array value) (each_of as_table)) Misfit

-- the tables at a key, none where it is absent
abbrev pub tables_if_there : Option Data → Result (List Members) Flaw
tables_if_there None = Ok []
tables_if_there (Some value) = tables_in value

unfoldable pub tables_at : List ℕ → Members → Result (List Members) Flaw
tables_at key members = tables_if_there (get_member key members)

-- a prefix of addresses
unfoldable pub prefix_in : Bool → Data → Result AddressPrefix Flaw
prefix_in with_ipv6 value = text_in value >>= (λ text. or_fail (prefix_of with_ipv6 text) OutOfRange)

-- two whole numbers, and nothing else
abbrev pub two_numbers : Items → Option (ℤ × ℤ)
two_numbers (item low (item high no_items)) =
    and_then (as_integer low) (λ a. option_map (λ b. (a, b)) (as_integer high))
two_numbers _ = None

-- a range of ports: `[low, high]`, each from 0 to 65535, low at most high
unfoldable pub port_range_in : Data → Result (ℕ × ℕ) Flaw
port_range_in value = do
  ends ← or_fail (and_then (as_array value) two_numbers) Misfit
  low ← within 0 65535 ends.0
  high ← within 0 65535 ends.1
  if nat_le low high then Ok (low, high) else Err OutOfRange
