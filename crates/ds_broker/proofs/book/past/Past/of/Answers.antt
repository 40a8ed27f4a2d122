use Rattle.std.proofs.Common.{ap, sym, ◌∙◌}
use Rattle.std.proofs.lemmas.Result.{OkIff-at_ok}
use Rattle.ds_timeline.specs.Timelines.{routes_in}
use Rattle.ds_broker.specs.Timelines.{IsOfRates}
use Rattle.ds_broker.proofs.TakingLaws.{each-more, next-at, past-more, past-start}
use Rattle.ds_broker.proofs.book.past.Past.of.Goals as goal

pub loop-command-init : goal.loop-command-init
loop-command-init c = record {
  value = past-start c.args.domain.now _ (OkIff-at_ok c.new.result _ _ c.unwrap.result c.new.ensures c.unwrap.ensures).1 c.new-2.ensures.items;
  rated = tt;
  routes = c.requires.none ∙ sym (ap (routes_in c.args.domain.now) c.new-2.ensures.items);
}

pub take-requires-clause-next : goal.take-requires-clause-next
take-requires-clause-next c =
    next-at c.args.domain.now c.requires.accepted.limits c.args.history.now c.loop-command.command-index c.command-item.result c.loop-command.past c.requires.accepted.unrefused c.requires.accepted.short
    c.loop-command-test.true c.command-item.is c.loop-command.invariant.value

pub loop-command-preserved : goal.loop-command-preserved
loop-command-preserved c = record {
  value = past-more c.args.domain.now c.args.history.now c.loop-command.command-index c.command-item.result c.loop-command.past c.take.new.self
      c.loop-command-test.true c.command-item.is c.loop-command.invariant.value c.in_ok-take.ensures.value;
  rated = each-more (IsOfRates c.args.domain.now) c.args.history.now c.loop-command.command-index c.command-item.result
      c.loop-command-test.true c.command-item.is c.in_ok-take.ensures.rated c.loop-command.invariant.rated;
  routes = c.in_ok-take.ensures.routes;
}
