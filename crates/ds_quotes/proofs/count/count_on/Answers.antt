use Rattle.ds_quotes.proofs.CountLaws.{count-value, counted, downward-count}
use Rattle.ds_quotes.proofs.count.count_on.Goals as goal
use Rattle.std.proofs.Common.{arith, subst, List}
use Rattle.ds_checker.specs.declared.headroom.Growth.{Growth}
use Rattle.ds_quotes.specs.Counts.{IsCount, all_grow_within}
use Rattle.ds_quotes.specs.Passing.{IsPassing}

pub passing_below-requires-clause-downward : goal.passing_below-requires-clause-downward
passing_below-requires-clause-downward c = downward-count c.growths.result c.args.most

pub returns : goal.returns
returns c =
    let t = c.args.beside.now.table in
    let own = c.args.beside.now.contract in
    let found = subst (λ (g : List Growth). IsPassing c.args.most (λ value. all_grow_within value g) c.passing_below.result) c.growths.ensures.value c.passing_below.ensures in
    let count : IsCount t own c.passing_below.result = counted t own c.args.most c.passing_below.result c.growths.ensures.offered c.requires.most found in
    record { count = count; value = count-value t own c.passing_below.result count (omega (arith, found.within, c.requires.range)) }
