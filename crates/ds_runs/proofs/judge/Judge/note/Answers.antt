use Rattle.std.proofs.Common.{◌≡◌, ◌∷◌, List, None, Some, ap, refl, sym, ◌∙◌, slice_get, option_copied}
use Rattle.ds_conductor_base.specs.declared.sent.Sent.{Sent}
use Rattle.meter_fabric_base.specs.Grounds.{contract_of, ground_of}
use Rattle.ds_runs.specs.Judging.{Judging, is_first, noted, reached_by, verdict_with}
use Rattle.ds_runs.specs.Kept.{judging_of}
use Rattle.ds_runs.proofs.JudgeLaws.{comes_behind, noted_none, noted_some, reached_first}
use Rattle.ds_runs.specs.declared.judge.Judge.TheInside as judges
use Rattle.ds_runs.proofs.judge.Judge.note.Goals as goal

unchanged : (c : goal.In_default) → c.args.self.now ≡ noted c.args.self.now c.args.packet.now
unchanged c =
    sym c.self.view_is
    ∙ noted_none (judging_of c.self.inside) c.args.packet.now (sym c.contract_of.ensures ∙ ap option_copied c.in_default.is)
    ∙ ap (λ (j : Judging). noted j c.args.packet.now) c.self.view_is

first_one : (c : goal.After-reach_along)
    → judging_of (record { accepted = c.self.inside.accepted; ways = c.self.inside.ways; outside = c.first_outside-self-inside.result; senders = c.note_sender.new.senders; firsts = c.reach_along.new.firsts })
    ≡ noted c.args.self.now c.args.packet.now
first_one c =
    let j = judging_of c.self.inside in
    let next = judging_of (record { accepted = c.self.inside.accepted; ways = c.self.inside.ways; outside = c.first_outside-self-inside.result; senders = c.note_sender.new.senders; firsts = c.reach_along.new.firsts }) in
    noted_some j next c.args.packet.now c.in-Some.contract.now (sym c.contract_of.ensures ∙ ap option_copied c.in-Some.is) refl
    c.first_outside-self-inside.ensures c.note_sender.ensures.senders
    (reached_first j.firsts next.firsts j.table c.args.packet.now c.self.inside.ways.items c.as_slice.result.now c.stops_at-stops.result.now
    (is_first (slice_get j.senders c.args.packet.now.flow)) c.self.invariant c.as_slice.ensures.value c.stops_at-stops.ensures
    (sym c.note_sender.ensures.first ∙ c.if-note_sender.true) c.reach_along.ensures)
    ∙ ap (λ (k : Judging). noted k c.args.packet.now) c.self.view_is

later_one : (c : goal.Else-note_sender)
    → judging_of (record { accepted = c.self.inside.accepted; ways = c.self.inside.ways; outside = c.first_outside-self-inside.result; senders = c.note_sender.new.senders; firsts = c.self.inside.firsts })
    ≡ noted c.args.self.now c.args.packet.now
later_one c =
    let j = judging_of c.self.inside in
    let next = judging_of (record { accepted = c.self.inside.accepted; ways = c.self.inside.ways; outside = c.first_outside-self-inside.result; senders = c.note_sender.new.senders; firsts = c.self.inside.firsts }) in
    noted_some j next c.args.packet.now c.in-Some.contract.now (sym c.contract_of.ensures ∙ ap option_copied c.in-Some.is) refl
    c.first_outside-self-inside.ensures c.note_sender.ensures.senders
    (sym (ap (reached_by j.firsts j.table c.args.packet.now) (sym c.note_sender.ensures.first ∙ c.if-note_sender.false)))
    ∙ ap (λ (k : Judging). noted k c.args.packet.now) c.self.view_is

pub returns-in_default-clause-noted : goal.returns-in_default-clause-noted
returns-in_default-clause-noted c = unchanged c

pub returns-in_default-clause-comes : goal.returns-in_default-clause-comes
returns-in_default-clause-comes c back = comes_behind c.args.self.now c.args.self.now c.args.packet.now back (unchanged c)

pub returns-then-note_sender-clause-noted : goal.returns-then-note_sender-clause-noted
returns-then-note_sender-clause-noted c = first_one c

pub returns-else-note_sender-clause-noted : goal.returns-else-note_sender-clause-noted
returns-else-note_sender-clause-noted c = later_one c

pub returns-then-note_sender-clause-comes : goal.returns-then-note_sender-clause-comes
returns-then-note_sender-clause-comes c back = comes_behind c.args.self.now _ c.args.packet.now back (first_one c)

pub returns-else-note_sender-clause-comes : goal.returns-else-note_sender-clause-comes
returns-else-note_sender-clause-comes c back = comes_behind c.args.self.now _ c.args.packet.now back (later_one c)
