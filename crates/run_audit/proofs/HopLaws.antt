-- The first hop to which a packet did not come in time, step by step.
use Rattle.std.proofs.Common.{◌≡◌, ℕ, suc, ◌⊎◌, inl, inr, true, false, List, [], ◌∷◌, Option, None, Some, refl, sym, ap, ◌∙◌, Bool, if◌then◌else◌, option_and_then, option_map, All}
use Rattle.std.proofs.lemmas.List.Elements.{All-head, All-tail, All-weaker}
use Rattle.std.proofs.lemmas.List.Sorted.{All-permutation}
use Rattle.moment_core.specs.declared.colour.Colour.{Colour}
use Rattle.ds_domain_base.specs.Domains.{Domain}
use Rattle.ds_domain_base.specs.Routes.{leg_of, legs_along}
use Rattle.ds_domain_base.specs.Sent.{came}
use Rattle.ds_domain_base.specs.declared.route.Leg.{Leg}
use Rattle.meter_fabric_base.specs.Grounds.{Ground}
use Rattle.meter_fabric_base.specs.Sites.{hops_along}
use Rattle.meter_fabric_base.specs.Trails.{IsTrail, Packet}
use Rattle.meter_fabric_base.specs.declared.trail.Receipt.{Receipt}
use Rattle.run_audit.specs.Runs.{IsPassage, IsRun, Passage, Run}
use Rattle.run_audit.specs.Sendings.{Sending, sending_of}
use Rattle.run_audit.proofs.Passages.{trail_sent}
use Rattle.run_audit.specs.Hops.{delayed_hop, is_over_leg, untimely_on}
use Rattle.run_audit.specs.Verdicts.{against_sent, by_number, delayed, first_found, first_of, is_numbered_before, link_of_run, untimely}
use Rattle.run_audit.specs.declared.verdict.Verdict.{Verdict}
use Rattle.run_audit.specs.declared.verdict.Verdict.TheVariants.{DelayOver}
use Rattle.meter_fabric_base.proofs.OrderLaws.{in_order-permutes}

pub legs_ended : (legs : List Leg) (moment : ℕ) (rs : List Receipt) → (legs ≡ []) ⊎ (rs ≡ []) → untimely_on legs moment rs ≡ None
unfolding untimely_on
legs_ended legs moment [] ended = refl
legs_ended [] moment (r ∷ rs) ended = refl
legs_ended (leg ∷ legs) moment (r ∷ rs) (inl none) = absurd cc
legs_ended (leg ∷ legs) moment (r ∷ rs) (inr none) = absurd cc

pub leg_here : (legs later : List Leg) (leg : Leg) (moment : ℕ) (r : Receipt) (rs rest : List Receipt) (over : Bool)
    → legs ≡ leg ∷ later → rs ≡ r ∷ rest → over ≡ is_over_leg leg moment r.row.arrival → over ≡ false → untimely_on legs moment rs ≡ Some r.row.hop
unfolding untimely_on
leg_here legs later leg moment r rs rest over is_legs is_rs is_over late = rw is_legs (rw is_rs (rw (← is_over) (rw late refl)))

pub leg_on : (legs later : List Leg) (leg : Leg) (moment : ℕ) (r : Receipt) (rs rest : List Receipt) (over : Bool)
    → legs ≡ leg ∷ later → rs ≡ r ∷ rest → over ≡ is_over_leg leg moment r.row.arrival → over ≡ true
    → untimely_on legs moment rs ≡ untimely_on later r.row.arrival rest
unfolding untimely_on
leg_on legs later leg moment r rs rest over is_legs is_rs is_over timely = rw is_legs (rw is_rs (rw (← is_over) (rw timely refl)))

-- ---- the receipts of a trail know their hops

hops_agree : (d : Domain) (packet : Packet) (number since : ℕ) (colour : Colour) (from : List ℕ) (path : List (List ℕ)) (moment : ℕ) (rs : List Receipt)
    → IsTrail packet since colour (hops_along d number path) rs → untimely_on (legs_along d from path) moment rs ≡ untimely d number from path moment rs
unfolding untimely_on untimely IsTrail hops_along legs_along
hops_agree d packet number since colour from [] moment [] trail = refl
hops_agree d packet number since colour from (to ∷ path) moment [] trail = refl
hops_agree d packet number since colour from [] moment (r ∷ rs) trail = refl
hops_agree d packet number since colour from (to ∷ path) moment (r ∷ rs) trail =
    ap (λ further. if is_over_leg (leg_of d from to) moment r.row.arrival then further else Some r.row.hop)
    (hops_agree d packet (suc number) r.row.arrival r.row.left to path r.row.arrival rs trail.1)
    ∙ ap (λ hop. if is_over_leg (leg_of d from to) moment r.row.arrival then untimely d (suc number) to path r.row.arrival rs else Some hop) (ap (λ a. a.hop) trail.0.arrival)

sent_agree : (find other : Sending → Option Verdict) (o : Option Sending) → ((s : Sending) → o ≡ Some s → find s ≡ other s) → option_and_then find o ≡ option_and_then other o
sent_agree find other None same = refl
sent_agree find other (Some s) same = same s refl

against_agree : (g : Ground) (p : Passage) → IsPassage g p
    → against_sent g (delayed_hop g.domain p.packet.number) p ≡ against_sent g (delayed g.domain p.packet.number) p
against_agree g p (c, is_c, trail) =
    ap (option_and_then (λ c. option_and_then (delayed_hop g.domain p.packet.number c) (sending_of c p))) is_c
    ∙ sent_agree (delayed_hop g.domain p.packet.number c) (delayed g.domain p.packet.number c) (sending_of c p)
    (λ s sent. ap (option_map (λ hop. DelayOver p.packet.number hop))
    (hops_agree g.domain p.packet 1 s.moment s.colour c.port c.path s.moment s.receipts
    (trail_sent g.domain p.packet.flow p.packet p.packet.begun (came c p.packet.dscp) c.terms c.path p.receipts s trail sent)))
    ∙ ap (option_and_then (λ c. option_and_then (delayed g.domain p.packet.number c) (sending_of c p))) (sym is_c)

found_agree : {A B : Type 0} (find other : A → Option B) (xs : List A) → All (λ x. find x ≡ other x) xs → first_found find xs ≡ first_found other xs
unfolding first_found
found_agree find other [] all = refl
found_agree find other (x ∷ xs) all =
    ap (λ here. first_of here (first_found find xs)) (All-head (λ x. find x ≡ other x) x xs all)
    ∙ ap (λ further. first_of (other x) further) (found_agree find other xs (All-tail (λ x. find x ≡ other x) x xs all))

-- what is found by the hops of receipts is what is found by counting hops
pub link_of-hops : (g : Ground) (run : Run) → IsRun g run → first_found (λ p. against_sent g (delayed_hop g.domain p.packet.number) p) (by_number run.passages) ≡ link_of_run g run
link_of-hops g run is_run =
    found_agree (λ p. against_sent g (delayed_hop g.domain p.packet.number) p) (λ p. against_sent g (delayed g.domain p.packet.number) p) (by_number run.passages)
    (All-weaker (IsPassage g) (λ p. against_sent g (delayed_hop g.domain p.packet.number) p ≡ against_sent g (delayed g.domain p.packet.number) p) (against_agree g) (by_number run.passages)
    (All-permutation (IsPassage g) run.passages (by_number run.passages) (in_order-permutes is_numbered_before run.passages) is_run.passages))
