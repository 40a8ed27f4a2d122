use Rattle.flow_classifier.proofs.TupleLaws.{made_tuple}
use Rattle.flow_classifier.proofs.tuples.Tuple.of.Goals as goal

pub returns-clause-tuple : goal.returns-clause-tuple
returns-clause-tuple c =
    made_tuple c.args.rules.now (record { lengths = c.args.lengths; rows = c.sort_unstable.new.self; decides = c.ask_no_more-decides.result }) c.in_ok-rows.rows.items c.in_ok-rows.ensures
    c.sort_unstable.ensures.permutation c.sort_unstable.ensures.sorted c.ask_no_more-decides.ensures
