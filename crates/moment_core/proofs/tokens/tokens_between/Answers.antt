use Rattle.moment_core.proofs.TokenLaws.{given-mono}
use Rattle.moment_core.proofs.tokens.tokens_between.Goals as goal

pub overflow_sub-result : goal.overflow_sub-result
overflow_sub-result c =
    rw (c.tokens_given.ensures.value, c.tokens_given-2.ensures.value) (given-mono c.args.rate c.args.origin c.args.begin c.args.end c.requires.ends)
