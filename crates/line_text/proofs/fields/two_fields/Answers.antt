use Rattle.std.proofs.Common.{ap}
use Rattle.std.specs.Option.{option_copied}
use Rattle.line_text.proofs.LineLemmas.{three_or_more}
use Rattle.line_text.proofs.fields.two_fields.Goals as goal

pub returns-in-Some : goal.returns-in-Some
returns-in-Some c =
    three_or_more _ _ _ _ _ _ _ c.split_field.ensures (ap option_copied c.in_ok-rest.was) c.split_field-2.ensures (ap option_copied c.in-Some.is)
