use Rattle.ds_domain.proofs.WayLemmas.{names_unknown-found, names_unknown-more, taken-more}
use Rattle.ds_domain.proofs.contracts.meters_named.Goals as goal

pub loop-text-preserved : goal.loop-text-preserved
loop-text-preserved c = record {
  named = taken-more (λ text. text.now) c.args.domain.now c.args.texts.now c.loop-text.text-index _ c.in-Some.name c.loop-text.names.items c.push.new.self.items c.loop-text-test.true c.in-Some.ensures c.loop-text.invariant.named c.in-Ok.ensures.items;
  left = names_unknown-more (λ text. text.now) c.args.domain.now c.args.texts.now c.loop-text.text-index _ c.in-Some.name c.loop-text-test.true c.in-Some.ensures c.loop-text.invariant.left;
}

pub returns-in_default-clause-named : goal.returns-in_default-clause-named
returns-in_default-clause-named c =
    names_unknown-found (λ text. text.now) c.args.domain.now c.args.texts.now c.loop-text.text-index _ c.loop-text-test.true c.in_default.ensures c.loop-text.invariant.left
