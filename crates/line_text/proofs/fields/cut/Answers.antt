use Rattle.std.proofs.Common.{◌≡◌, ◌==◌, position, Some, None}
use Rattle.std.proofs.lemmas.List.{take_rest}
use Rattle.line_text.proofs.LineLemmas.{cut_at_first, uncut}
use Rattle.line_text.proofs.fields.cut.Goals as goal

pub returns-in-Some : goal.returns-in-Some
returns-in-Some c =
    let found : position (λ byte. byte == c.args.mark) c.args.text.now ≡ Some c.in-Some.place = cc in
    let whole = cut_at_first c.args.mark c.args.text.now c.in-Some.place found in
    (whole.1, rw take_rest whole.2)

pub returns-in-None : goal.returns-in-None
returns-in-None c =
    let found : position (λ byte. byte == c.args.mark) c.args.text.now ≡ None = cc in
    uncut c.args.mark c.args.text.now found
