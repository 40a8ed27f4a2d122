use Rattle.std.proofs.Common.{rules, ap, sym, ◌∙◌}
use Rattle.indexmap.specs.IndexMap.{values}
use Rattle.ds_runs.specs.KeptConductors.{stage_of}
use Rattle.ds_runs.specs.Steps.{Stage, refusal_of}
use Rattle.ds_runs.specs.declared.step.Step.TheVariants.{Send}
use Rattle.ds_runs.proofs.StepLaws.{begun_number, keys_sent, send_begun, send_known, send_memory, send_refused, sent_before, values_sent}
use Rattle.ds_runs.proofs.OnTheWayLaws.{stepped_under_way}
use Rattle.ds_runs.proofs.conductor.Conductor.send.Goals as goal

pub returns-then-contains_key-clause-refused : goal.returns-then-contains_key-clause-refused
returns-then-contains_key-clause-refused c =
    let known = sent_before c.self.inside.travellers c.args.packet c.self.invariant.numbers ∙ sym c.contains_key.ensures ∙ c.if-contains_key.true in
    rw (← c.self.view_is) (sym (ap (refusal_of {A = Stage}) (send_known c.self.inside.accepted.now (stage_of c.self.inside) c.args.flow c.args.packet c.args.size c.args.dscp c.args.moment known)))

pub returns-in_err-traveller-clause-refused : goal.returns-in_err-traveller-clause-refused
returns-in_err-traveller-clause-refused c =
    let fresh = sent_before c.self.inside.travellers c.args.packet c.self.invariant.numbers ∙ sym c.contains_key.ensures ∙ c.if-contains_key.false in
    let refused = send_refused c.self.inside.accepted.now (stage_of c.self.inside) c.args.flow c.args.packet c.args.size c.args.dscp c.args.moment c.in_err-traveller.field-0.0 fresh
    (rw c.self.invariant.ways at c.in_err-traveller.ensures.unknown) in
    rw (← c.self.view_is) (search (rules, refused, c.from_residual.ensures))

pub returns-in_err-insert-clause-refused : goal.returns-in_err-insert-clause-refused
returns-in_err-insert-clause-refused c =
    let fresh = sent_before c.self.inside.travellers c.args.packet c.self.invariant.numbers ∙ sym c.contains_key.ensures ∙ c.if-contains_key.false in
    let memory = send_memory c.self.inside.accepted.now (stage_of c.self.inside) c.args.flow c.args.packet c.args.size c.args.dscp c.args.moment c.in_ok-traveller.traveller fresh
    (rw c.self.invariant.ways at c.in_ok-traveller.ensures.begun) in
    rw (← c.self.view_is) (search (rules, memory, c.from_residual-in_err-insert.ensures))

pub invariant_of-self-2 : goal.invariant_of-self-2
invariant_of-self-2 c =
    let old = c.self.inside.travellers in
    let new = c.insert.new.self in
    let p = c.in_ok-traveller.traveller in
    let absent = sym c.contains_key.ensures ∙ c.if-contains_key.false in
    let begun = rw c.self.invariant.ways at c.in_ok-traveller.ensures.begun in
    let pushed = values_sent old c.args.packet c.self.invariant.numbers new p absent c.in_ok-insert.ensures.entries in
    let done = send_begun c.self.inside.accepted.now (stage_of c.self.inside) c.args.flow c.args.packet c.args.size c.args.dscp c.args.moment p (values new)
    (sent_before old c.args.packet c.self.invariant.numbers ∙ absent) begun pushed in
    record {
      ways = c.self.invariant.ways;
      under_way = stepped_under_way c.self.inside.accepted.now (stage_of c.self.inside) (record { travellers = values new; books = c.self.inside.books.items })
          (Send c.args.flow c.args.packet c.args.size c.args.dscp c.args.moment) c.self.invariant.under_way done;
      numbers = keys_sent old c.args.packet c.self.invariant.numbers new p absent c.in_ok-insert.ensures.entries
          (begun_number c.self.inside.accepted.now (stage_of c.self.inside) c.args.flow c.args.packet c.args.size c.args.dscp c.args.moment p begun);
      numbered = c.self.invariant.numbered;
    }

pub returns-clause-done : goal.returns-clause-done
returns-clause-done c =
    let old = c.self.inside.travellers in
    let absent = sym c.contains_key.ensures ∙ c.if-contains_key.false in
    let pushed = values_sent old c.args.packet c.self.invariant.numbers c.insert.new.self c.in_ok-traveller.traveller absent c.in_ok-insert.ensures.entries in
    rw (← c.self.view_is) (send_begun c.self.inside.accepted.now (stage_of c.self.inside) c.args.flow c.args.packet c.args.size c.args.dscp c.args.moment
    c.in_ok-traveller.traveller _ (sent_before old c.args.packet c.self.invariant.numbers ∙ absent)
    (rw c.self.invariant.ways at c.in_ok-traveller.ensures.begun) pushed)
