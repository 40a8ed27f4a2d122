-- The policed run meets all that is asked of a run.
use Rattle.std.proofs.Common.{◌≡◌, ℕ, ◌≤◌, zero, suc, [], ◌∷◌, refl, sym, ◌∙◌, ap, subst, arith, Some, is_some, IsPermutation, IsSome, All, Contains}
use Rattle.std.proofs.lemmas.List.Elements.{All-cons}
use Rattle.std.proofs.lemmas.List.Kept.{AllPairs-cons}
use Rattle.std.proofs.lemmas.List.Sorted.{IsPermutation-refl}
use Rattle.std.proofs.lemmas.Option.{none-some, same_Some}
use Rattle.std.proofs.lemmas.Bool.{false≢true}
use Rattle.moment_core.specs.declared.colour.Colour.TheVariants.{Green}
use Rattle.moment_core.specs.Excess.{coloured}
use Rattle.moment_core.specs.Metering.{colour_of, levels_at, opening, used}
use Rattle.moment_core.specs.Tokens.{each_nanosecond}
use Rattle.srtcm_core.specs.SingleRate.{full, single_rate}
use Rattle.meter_book.specs.Replay.{Journal, journal_rows, row_of}
use Rattle.ds_domain_base.specs.Fitting.{lacks_link, names_unknown, repeats}
use Rattle.ds_domain_base.specs.Sent.{came}
use Rattle.ds_domain_base.specs.declared.contract.Contract.{Contract}
use Rattle.ds_certificate.specs.Bounds.{Grows, IsCertificate}
use Rattle.ds_certificate.specs.Sources.{jitters_along, source_of}
use Rattle.ds_checker.specs.Acceptance.{Carries}
use Rattle.ds_checker.specs.Loads.{bound_into, shares_at}
use Rattle.af_marker.specs.CodePoints.{colour_at}
use Rattle.meter_fabric_base.specs.Grounds.{contract_of, ground_of}
use Rattle.meter_fabric_base.specs.Openings.{opening_at}
use Rattle.meter_fabric_base.specs.Sites.{hops_along}
use Rattle.meter_fabric_base.specs.Trails.{IsTrail}
use Rattle.run_audit.specs.Examples.{arrival_as_hop, contract_on, meter_name, port_name}
use Rattle.run_audit.specs.PolicedExample.{PolicedRunIsKept, edge_journal, edge_meter, edge_receipt, meter_journal, meter_receipt, policed_bound, policed_meter, policed_parameters, policed_passage, policed_run, policed_table, policed_terms}
use Rattle.run_audit.specs.Premises.{IsInTime, IsTimely, IsTrusted, Premises}
use Rattle.run_audit.specs.Runs.{IsPassage, IsRun, told}
use Rattle.run_audit.specs.Sendings.{ForSent, Sending}
use Rattle.run_audit.proofs.ExampleLaws.{nobody, no_site, only, only_pairs, only_sent}

-- what holds of both sites
both : (P : Journal → Type 0) → P meter_journal → P edge_journal → All P (meter_journal ∷ edge_journal ∷ [])
both P meter edge = All-cons P meter_journal (edge_journal ∷ []) meter (only P edge_journal edge)

policed_certificate : IsCertificate policed_table.domain policed_table.contracts policed_table.certificate
unfolding lacks_link names_unknown repeats Grows jitters_along source_of
policed_certificate = (((refl, refl), ((omega arith, (omega arith, tt)), ((omega arith, (omega arith, tt)), ((omega arith, (omega arith, tt)), tt)))), tt)

policed_carries : All (λ entry. Carries entry.1 (shares_at policed_table.domain entry.0 policed_table.contracts policed_table.certificate)) policed_table.domain.meters
unfolding shares_at bound_into source_of
policed_carries =
    only (λ entry. Carries entry.1 (shares_at policed_table.domain entry.0 policed_table.contracts policed_table.certificate))
    (meter_name, record { parameters = policed_parameters; skew = 0; origin = 0 })
    ((omega arith, omega arith), (omega arith, omega arith))

-- the packet leaves the edge green
policed_green : edge_receipt.row.left ≡ Green
unfolding colour_of coloured each_nanosecond full levels_at opening single_rate used
policed_green = refl

policed_trail : IsPassage (ground_of policed_table) policed_passage
unfolding hops_along IsTrail came colour_at
policed_trail = (
  contract_on policed_terms,
  refl,
  (
    record { site = refl; arrival = refl; in_time = omega arith },
    (record { site = refl; arrival = rw policed_green refl; in_time = omega arith }, tt),
  ),
)

-- the sites are the meter's and the edge's
policed_sites : (site : ℕ) → IsSome (opening_at (ground_of policed_table) site) → Contains (0 ∷ 1 ∷ []) site
policed_sites zero there = (0, omega arith, refl)
policed_sites (suc zero) there = (1, omega arith, refl)
policed_sites (suc (suc flow)) there =
    absurd (false≢true (sym (ap is_some (no_site policed_parameters policed_terms policed_bound flow)) ∙ there))

policed_is_run : IsRun (ground_of policed_table) policed_run
policed_is_run = record {
  journals = record {
    own = both (λ j. opening_at (ground_of policed_table) j.site ≡ Some (record { meter = j.opening; skew = j.skew })) refl refl;
    once =
        AllPairs-cons (λ j k. ¬ (j.site ≡ k.site)) meter_journal (edge_journal ∷ [])
        (only (λ k. ¬ (meter_journal.site ≡ k.site)) edge_journal (λ same. omega (arith, same)))
        (only_pairs (λ j k. ¬ (j.site ≡ k.site)) edge_journal);
    each = policed_sites;
  };
  passages = only (IsPassage (ground_of policed_table)) policed_passage policed_trail;
  numbers = only_pairs (λ p q. ¬ (p.packet.number ≡ q.packet.number)) policed_passage;
  rows =
      both (λ j. IsPermutation (told j.site policed_run.passages) (journal_rows j))
      (IsPermutation-refl (journal_rows meter_journal))
      (IsPermutation-refl (journal_rows edge_journal));
}

-- what holds of the packet as the edge sent it
policed_sent : (P : Contract → Sending → Type 0)
    → P (contract_on policed_terms) (record { moment = 0; colour = edge_receipt.row.left; receipts = meter_receipt ∷ [] })
    → ForSent (ground_of policed_table) policed_run P
policed_sent P holds =
    only_sent (ground_of policed_table) (meter_journal ∷ edge_journal ∷ []) policed_passage (contract_on policed_terms)
    (record { moment = 0; colour = edge_receipt.row.left; receipts = meter_receipt ∷ [] }) P refl refl holds

-- no contract is trusted
policed_source : (flow : ℕ) (c : Contract) → contract_of (ground_of policed_table) flow ≡ Some c → ¬ (IsTrusted c.terms)
policed_source zero c is trusted =
    let contract : contract_on policed_terms ≡ c = same_Some (contract_on policed_terms) c is in
    subst (λ (x : Contract). IsTrusted x.terms) (sym contract) trusted
policed_source (suc flow) c is trusted =
    none-some c (sym (nobody policed_parameters policed_terms policed_bound flow) ∙ is)

policed_way : IsTimely policed_table.domain port_name (meter_name ∷ []) 0 (meter_receipt ∷ [])
unfolding IsTimely
policed_way = ((omega arith, omega arith), tt)

edge_late : All (λ r. r.late ≤ 0) (journal_rows edge_journal)
unfolding used opening
edge_late = only (λ r. r.late ≤ 0) (row_of edge_meter 0 (arrival_as_hop 0)) (omega arith)

meter_late : All (λ r. r.late ≤ 0) (journal_rows meter_journal)
unfolding used opening
meter_late = only (λ r. r.late ≤ 0) (row_of policed_meter 0 (arrival_as_hop 1)) (omega arith)

policed_premises : Premises (ground_of policed_table) policed_run
policed_premises = record {
  time = policed_sent IsInTime (omega arith, λ until is. absurd (none-some until is));
  source = λ flow c is trusted. absurd (policed_source flow c is trusted);
  link = policed_sent (λ c s. IsTimely policed_table.domain c.port c.path s.moment s.receipts) policed_way;
  skew = both (λ j. All (λ r. r.late ≤ j.skew) (journal_rows j)) meter_late edge_late;
}

pub policed_run_kept : PolicedRunIsKept
policed_run_kept = ((policed_certificate, policed_carries), policed_is_run, policed_premises)
