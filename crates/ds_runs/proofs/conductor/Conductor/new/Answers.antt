use Rattle.std.proofs.Common.{◌^◌, ap, sym, ◌∙◌}
use Rattle.std.specs.Map.{keys_of, values_of}
use Rattle.ds_runs.specs.Steps.{numbers_of}
use Rattle.ds_runs.proofs.OnTheWayLaws.{opened_under_way}
use Rattle.ds_runs.proofs.conductor.Conductor.new.Goals as goal

pub invariant_of-result : goal.invariant_of-result
invariant_of-result c = record {
  ways = c.in_ok-ways.ensures;
  under_way = rw (c.new.ensures.empty, c.in_ok-books.ensures.books) (opened_under_way (2 ^ 20) c.args.accepted.now);
  numbers = ap keys_of c.new.ensures.empty ∙ ap (λ es. numbers_of (values_of es)) (sym c.new.ensures.empty);
  numbered = c.in_ok-books.ensures.numbered;
}
