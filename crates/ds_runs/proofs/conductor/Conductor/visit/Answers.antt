use Rattle.std.proofs.Common.{ap, nat_eq, position, sym, ◌∙◌}
use Rattle.ds_runs.specs.KeptConductors.{stage_of}
use Rattle.ds_runs.specs.Steps.{Stage, refusal_of}
use Rattle.ds_runs.proofs.StepLaws.{visit_done, visit_keeps, visit_refused, visit_unchanged, visit_unknown}
use Rattle.ds_runs.proofs.conductor.Conductor.visit.Goals as goal

pub returns-in_default-clause-refused : goal.returns-in_default-clause-refused
returns-in_default-clause-refused c =
    let none = ap (position (nat_eq c.args.packet)) (sym c.self.invariant.numbers) ∙ sym c.get_index_of.ensures.index ∙ c.in_default.is in
    rw (← c.self.view_is) (sym (ap (refusal_of {A = Stage}) (visit_unknown c.self.inside.accepted.now (stage_of c.self.inside) c.args.packet c.args.moment none)))

pub invariant_of-self : goal.invariant_of-self
invariant_of-self c =
    let found = sym c.get_index_of.ensures.index ∙ c.in-Some.is in
    let kept = visit_keeps c.self.inside.accepted.now c.self.inside.travellers c.self.inside.books.items c.args.packet c.args.moment c.in-Some.place c.index_mut.result.now
    c.self.invariant.numbers found c.index_mut.ensures.value
    c.visit_next.new.traveller c.visit_next.new.books.items c.visit_next.result c.self.invariant.under_way c.visit_next.ensures.done c.visit_next.ensures.unchanged in
    record {
      ways = c.self.invariant.ways;
      under_way = kept.0;
      numbers = kept.1;
      numbered = c.self.invariant.numbered;
    }

pub returns-clause-done : goal.returns-clause-done
returns-clause-done c =
    let found = sym c.get_index_of.ensures.index ∙ c.in-Some.is in
    rw (← c.self.view_is)
    (visit_done c.self.inside.accepted.now c.self.inside.travellers c.self.inside.books.items c.args.packet c.args.moment c.in-Some.place c.index_mut.result.now
    c.self.invariant.numbers found c.index_mut.ensures.value
    c.visit_next.new.traveller c.visit_next.new.books.items c.visit_next.result c.visit_next.ensures.done)

pub returns-clause-refused : goal.returns-clause-refused
returns-clause-refused c =
    let found = sym c.get_index_of.ensures.index ∙ c.in-Some.is in
    rw (← c.self.view_is)
    (visit_refused c.self.inside.accepted.now c.self.inside.travellers c.self.inside.books.items c.args.packet c.args.moment c.in-Some.place c.index_mut.result.now
    c.self.invariant.numbers found c.index_mut.ensures.value
    c.visit_next.result c.visit_next.ensures.refused)

pub returns-clause-unchanged : goal.returns-clause-unchanged
returns-clause-unchanged c =
    let found = sym c.get_index_of.ensures.index ∙ c.in-Some.is in
    rw (← c.self.view_is)
    (visit_unchanged c.self.inside.accepted.now c.self.inside.travellers c.self.inside.books.items c.args.packet c.args.moment c.in-Some.place c.index_mut.result.now
    c.self.invariant.numbers found c.index_mut.ensures.value
    c.visit_next.new.traveller c.visit_next.new.books.items c.visit_next.result c.visit_next.ensures.unchanged)
