-- The packet of the least domain is sent, and marked green.
use Rattle.std.proofs.Common.{◌≡◌, ◌<◌, ◌-◌, ◌^◌, List, [], ◌∷◌, length, Some, refl, ap, ◌∙◌, arith, slice_get, IsSome}
use Rattle.std.proofs.lemmas.Option.{none-some, same_Some}
use Rattle.moment_core.specs.declared.colour.Colour.{Colour}
use Rattle.moment_core.specs.declared.colour.Colour.TheVariants.{Green}
use Rattle.af_marker.specs.CodePoints.{colour_at}
use Rattle.ds_domain_base.specs.Sent.{came}
use Rattle.meter_fabric_base.specs.Grounds.{contract_of, ground_of}
use Rattle.meter_fabric_base.specs.Sites.{hops_along}
use Rattle.run_audit.specs.Examples.{contract_on, small_run, small_table, small_terms}
use Rattle.run_audit.proofs.ExampleLaws.{only, only_pairs, small_run_kept}
use Rattle.meter_fabric_base.specs.Orders.{in_order, placed}
use Rattle.run_audit.specs.Verdicts.{verdict_of}
use Rattle.run_audit.specs.declared.verdict.Verdict.TheVariants.{Kept}
use Rattle.run_audit.proofs.PremiseLaws.{kept_is_premises}
use Rattle.ds_runs.specs.Conducting.{conducted_from, journals_from}
use Rattle.ds_runs.specs.Steps.{stepped}
use Rattle.ds_conductor_base.specs.Passing.{colours_of}
use Rattle.ds_conductor_base.specs.Streams.{rise_from}
use Rattle.ds_conductor_base.specs.Visits.{visits_from, visits_of}
use Rattle.ds_conductor_base.specs.Ways.{stops_along}
use Rattle.ds_conductor_base.proofs.StreamLaws.{one_colour_each}
use Rattle.ds_runs.specs.Behind.{AreSendable}
use Rattle.ds_runs.specs.Example.{SmallPacketIsMarked, small_packet, small_sent}
use Rattle.ds_runs.specs.Making.{run_behind}
use Rattle.ds_runs.proofs.MarkLaws.{kept_marks}
use Rattle.ds_runs.proofs.RunLaws.{the_run_is_behind}

small_sendable : AreSendable small_table small_sent
unfolding rise_from
small_sendable = record {
  rising = refl;
  numbered = only_pairs (λ s r. s.packet < r.packet) small_packet;
  known = only (λ s. IsSome (contract_of (ground_of small_table) s.flow)) small_packet refl;
  timed = only (λ s. s.moment < 2 ^ 63 - 2 ^ 40) small_packet (omega arith);
  few = omega arith;
}

small_behind : run_behind small_table small_sent ≡ small_run
unfolding conducted_from stepped journals_from visits_of visits_from stops_along hops_along in_order placed came colour_at
small_behind = refl

small_verdict : verdict_of (ground_of small_table) (run_behind small_table small_sent) ≡ Kept
small_verdict =
    ap (verdict_of (ground_of small_table)) small_behind ∙ (kept_is_premises (ground_of small_table) small_run small_run_kept.1).1 small_run_kept.2

shown_green : came (contract_on small_terms) 10 ≡ Green
unfolding came colour_at
shown_green = refl

single : (xs : List Colour) (x : Colour) → length xs ≡ 1 → slice_get xs 0 ≡ Some x → xs ≡ x ∷ []
single [] x one is = absurd (none-some x is)
single (y ∷ []) x one is = ap (λ z. z ∷ []) (same_Some y x is)
single (y ∷ z ∷ xs) x one is = absurd (omega (arith, one))

small_colours : colours_of small_table small_sent ≡ Green ∷ []
small_colours =
    let marks = kept_marks small_table small_sent (run_behind small_table small_sent) small_run_kept.0
    (the_run_is_behind small_table small_sent small_run_kept.0 small_sendable) small_verdict in
    single (colours_of small_table small_sent) Green (one_colour_each small_table small_sent)
    (marks.trusted 0 small_packet (contract_on small_terms) refl refl tt ∙ ap Some shown_green)

pub small_marked : SmallPacketIsMarked
small_marked = (small_run_kept.0, small_sendable, small_behind, small_verdict, small_colours)
