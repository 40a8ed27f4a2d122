use Rattle.std.proofs.Common.{rules}
use Rattle.std.proofs.lemmas.Fn.{filter_same}
use Rattle.dsedge_explained.proofs.asking.drop_questions.Goals as goal

pub returns : goal.returns
returns c = filter_same _ _ _ (λ word kept f called. search rules) _ _ c.retain.ensures.filtered
