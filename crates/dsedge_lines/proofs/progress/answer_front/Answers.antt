use Rattle.std.proofs.lemmas.Result.{err_from_is_err_and}
use Rattle.dsedge_lines.proofs.UnderwayLemmas.{none_carried}
use Rattle.dsedge_lines.proofs.progress.answer_front.Goals as goal

pub returns-clause-carried : goal.returns-clause-carried
returns-clause-carried g c = none_carried c.in_ok-ended.ended c.answer_line.new.progress.carry.items c.in_ok-ended.ensures.carried

pub returns-in_err-front-clause-unended : goal.returns-in_err-front-clause-unended
returns-in_err-front-clause-unended g c =
    let q = err_from_is_err_and c.from_residual.result c.from_residual.ensures.1 in rw q.1 tt

pub returns-in_err-front-clause-carried : goal.returns-in_err-front-clause-carried
returns-in_err-front-clause-carried g c =
    let q = err_from_is_err_and c.from_residual.result c.from_residual.ensures.1 in rw q.1 tt

pub returns-in_err-front-clause-number : goal.returns-in_err-front-clause-number
returns-in_err-front-clause-number g c =
    let q = err_from_is_err_and c.from_residual.result c.from_residual.ensures.1 in rw q.1 tt

pub returns-in-Some-clause-unended : goal.returns-in-Some-clause-unended
returns-in-Some-clause-unended g c = tt

pub returns-clause-unended : goal.returns-clause-unended
returns-clause-unended g c = tt
