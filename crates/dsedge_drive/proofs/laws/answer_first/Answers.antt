use Rattle.std.proofs.Common.{◌+◌, List, ℕ, [], append-nil, subst}
use Rattle.std.proofs.lemmas.Result.{err_from_is_err_and}
use Rattle.line_text.specs.Lines.{lines_of}
use Rattle.dsedge_lines.specs.Answers.{Answer, BeginsWith, GoesOn, behind}
use Rattle.dsedge_drive.specs.Opened.{answer_behind}
use Rattle.dsedge_drive.proofs.AgainLaws.{first_behind, first_of_front, stays_on}
use Rattle.dsedge_drive.proofs.DriveLaws.{first_alone, goes_on_alone}
use Rattle.dsedge_drive.proofs.laws.answer_first.Goals as goal

pub returns-in_err-front-clause-answer : goal.returns-in_err-front-clause-answer
returns-in_err-front-clause-answer g c =
    let p = err_from_is_err_and c.from_residual.result c.from_residual.ensures.1 in
    let whole : List ℕ → Answer = λ text. behind c.args.out.now.items (answer_behind c.args.command.now c.args.number (lines_of text)) in
    rw p.1 (subst (λ text. BeginsWith (whole text) c.front_line.new.out.items) (append-nil c.args.text.now) (c.in_err-front.ensures.answer []))

pub returns-in-Some-clause-answer : goal.returns-in-Some-clause-answer
returns-in-Some-clause-answer g c =
    let whole : List ℕ → Answer = λ text. behind c.args.out.now.items (answer_behind c.args.command.now c.args.number (lines_of text)) in
    let on : List ℕ → Answer = λ rest. behind c.front_line.new.out.items (answer_behind c.front_line.new.self (c.args.number + 1) (lines_of rest)) in
    goes_on_alone whole on c.args.text.now c.in-Some.front.1.now c.front_line.new.out.items c.in-Some.front.0 (rw c.in-Some.is at (c.in_ok-front.ensures.answer []))

pub returns-in-Some-clause-follows : goal.returns-in-Some-clause-follows
returns-in-Some-clause-follows g c =
    first_of_front c.in-Some.front.0 c.args.text.now c.in-Some.front.1.now c.args.command.now c.front_line.new.self c.args.out.now.items c.front_line.new.out.items
    (rw c.in-Some.is at c.in_ok-front.ensures.follows)

pub returns-in_err-ended-clause-answer : goal.returns-in_err-ended-clause-answer
returns-in_err-ended-clause-answer g c =
    let p = err_from_is_err_and c.from_residual-in_err-ended.result c.from_residual-in_err-ended.ensures.1 in
    let whole : List (List ℕ) → Answer = λ lines. behind c.args.out.now.items (answer_behind c.args.command.now c.args.number lines) in
    let on : List (List ℕ) → Answer = λ lines. behind c.front_line.new.out.items (answer_behind c.front_line.new.self c.args.number lines) in
    let rest = c.first_line.result.1.now in
    let first = first_alone whole on c.args.text.now c.first_line.result.0.now rest c.first_line.ensures.lines (rw c.in_default.is at (c.in_ok-front.ensures.answer [])) in
    rw p.1 (subst (λ all. BeginsWith all c.line.new.out.items) first (c.in_err-ended.ensures.answer (lines_of rest)))

pub returns-clause-answer : goal.returns-clause-answer
returns-clause-answer g c =
    let whole : List (List ℕ) → Answer = λ lines. behind c.args.out.now.items (answer_behind c.args.command.now c.args.number lines) in
    let on : List (List ℕ) → Answer = λ lines. behind c.front_line.new.out.items (answer_behind c.front_line.new.self c.args.number lines) in
    let rest = c.first_line.result.1.now in
    let out = c.line.new.out.items in
    let first = first_alone whole on c.args.text.now c.first_line.result.0.now rest c.first_line.ensures.lines (rw c.in_default.is at (c.in_ok-front.ensures.answer [])) in
    subst (λ all. GoesOn all (behind out (answer_behind c.line.new.self (c.args.number + 1) (lines_of rest))) out c.in_ok-ended.ended) first (c.in_ok-ended.ensures.answer (lines_of rest))

pub returns-in_err-ended-clause-follows : goal.returns-in_err-ended-clause-follows
returns-in_err-ended-clause-follows g c =
    let p = err_from_is_err_and c.from_residual-in_err-ended.result c.from_residual-in_err-ended.ensures.1 in
    rw p.1 (stays_on c.args.command.now c.front_line.new.self c.line.new.self c.args.out.now.items c.front_line.new.out.items c.line.new.out.items
    (rw c.in_default.is at c.in_ok-front.ensures.follows) c.in_err-ended.ensures.follows)

pub returns-clause-follows : goal.returns-clause-follows
returns-clause-follows g c =
    first_behind c.in_ok-ended.ended c.args.text.now c.first_line.result.0.now c.first_line.result.1.now c.args.command.now c.front_line.new.self c.line.new.self
    c.args.out.now.items c.front_line.new.out.items c.line.new.out.items c.first_line.ensures.lines (rw c.in_default.is at c.in_ok-front.ensures.follows) c.in_ok-ended.ensures.follows
