use Rattle.std.proofs.Common.{◌≡◌, ℕ, ◌≤◌, ◌^◌, List, Option, None, Some, sym}
use Rattle.std.specs.Prelude.{⊤, MatchOption}
use Rattle.line_text.specs.Numbers.{number_of}
use Rattle.ds_certificate.proofs.ReadingLaws.{number_of_most}
use Rattle.ds_certificate.proofs.reading.bytes.Goals as goal

within : (most : ℕ) (text : List ℕ) (value : Option ℕ) → value ≡ number_of most text → MatchOption value ⊤ (λ bytes. bytes ≤ most)
within most text None is = tt
within most text (Some value) is = number_of_most most text value (sym is)

pub returns-clause-range : goal.returns-clause-range
returns-clause-range c = within (10 ^ 15) c.args.text.now c.number.result c.number.ensures
