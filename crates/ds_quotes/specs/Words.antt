-- The words that name rates and bursts, as the keys of a contract's text do.
use Rattle.std.specs.Prelude.{ℕ, List, codes, Option, None, Some, if◌then◌else◌, bytes_eq, option_map}
use Rattle.ds_quotes.specs.declared.asked.Asked.{Asked}
use Rattle.ds_quotes.specs.declared.asked.Asked.TheVariants.{Count, Most}
use Rattle.ds_quotes.specs.declared.field.Field.{Field}
use Rattle.ds_quotes.specs.declared.field.Field.TheVariants as fields

abbrev pub field_text : Field → List ℕ
field_text fields.CommittedRate = codes "cir"
field_text fields.CommittedBurst = codes "cbs"
field_text fields.PeakRate = codes "pir"
field_text fields.PeakBurst = codes "pbs"
field_text fields.ExcessRate = codes "eir"
field_text fields.ExcessBurst = codes "ebs"

abbrev pub field_named : List ℕ → Option Field
field_named word =
    if bytes_eq word (codes "cir") then Some fields.CommittedRate
    else if bytes_eq word (codes "cbs") then Some fields.CommittedBurst
    else if bytes_eq word (codes "pir") then Some fields.PeakRate
    else if bytes_eq word (codes "pbs") then Some fields.PeakBurst
    else if bytes_eq word (codes "eir") then Some fields.ExcessRate
    else if bytes_eq word (codes "ebs") then Some fields.ExcessBurst
    else None

-- what a word asks for: how many fit, or the greatest value of a field
abbrev pub asked_named : List ℕ → Option Asked
asked_named word = if bytes_eq word (codes "count") then Some Count else option_map Most (field_named word)
