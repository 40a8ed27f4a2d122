use Rattle.std.proofs.Common.{◌≡◌, take}
use Rattle.std.specs.List.{AllByRecursion}
use Rattle.ds_timeline.specs.Timelines.{routes_in}
use Rattle.ds_broker.specs.Timelines.{IsOfRates, past_of}
use Rattle.ds_broker.proofs.book.past.Past.of.Given as goal

-- what the commands so far granted, that each contract among them has its rates, and the routes of what was granted
abbrev pub invariant-loop-command : goal.invariant-loop-command
invariant-loop-command l = record {
  value : l.past ≡ past_of l.domain (take l.command-index l.history);
  rated : AllByRecursion (IsOfRates l.domain) (take l.command-index l.history);
  routes : l.routes.items ≡ routes_in l.domain l.past.granted;
}
