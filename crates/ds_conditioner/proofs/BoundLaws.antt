-- How many packets are under way.
use Rattle.std.proofs.Common.{◌≡◌, ◌<◌, ℕ, true, List, sym, ap, subst, ◌∙◌, arith, nat_lt, All}
use Rattle.std.proofs.lemmas.Bool.Decides.{nat_tests}
use Rattle.std.proofs.lemmas.List.Elements.{All-weaker, filter_passes}
use Rattle.ds_conductor_base.proofs.ColouringLaws.{made-place}
use Rattle.ds_conductor_base.proofs.PassLaws.{passed_all-first}
use Rattle.ds_conductor_base.specs.Streams.{Stream, due, late, made_due}
use Rattle.ds_conductor_base.specs.declared.visit.Visit.{Visit}
use Rattle.ds_conditioner.specs.Conditionings.{IsBounded}
use Rattle.ds_conditioner.specs.Tallies.{AreWithin}
use Rattle.ds_conditioner.specs.declared.conditioner.Conditioner.{Conditioner}

-- visits that are made change no number
pub made_bounded : (moment : ℕ) (before after : Conditioner) → after.counts ≡ before.counts → after.tallies ≡ before.tallies
    → after.under_way ≡ made_due moment before.under_way → IsBounded before → IsBounded after
made_bounded moment before after counts tallies made was =
    let place = made-place moment before.under_way after.under_way made in
    let first : after.under_way.traffic.first ≡ before.under_way.traffic.first =
    ap (λ (u : Stream). u.traffic.first) made ∙ passed_all-first before.under_way.traffic (due moment before.under_way.waiting) in
    record {
      records = omega (arith, was.records, ap (λ c. c.records) counts);
      frames = omega (arith, was.frames, ap (λ c. c.records) counts, ap (λ c. c.frames) counts);
      matched = omega (arith, was.matched, ap (λ c. c.records) counts, ap (λ c. c.matched) counts);
      unmatched = omega (arith, was.unmatched, ap (λ c. c.records) counts, ap (λ c. c.unmatched) counts);
      skipped = omega (arith, was.skipped, ap (λ c. c.records) counts, ap (λ c. c.skipped) counts);
      unverified = omega (arith, was.unverified, ap (λ c. c.records) counts, ap (λ c. c.unverified) counts);
      placed = omega (arith, was.placed, place, ap (λ c. c.records) counts);
      within = subst (λ n. AreWithin n after.tallies) (sym first) (subst (AreWithin before.under_way.traffic.first) (sym tallies) was.within);
    }

passed : (moment m : ℕ) → nat_lt moment m ≡ true → moment < m
passed moment m test = grind (arith, nat_tests)

-- the visits that are late come behind the moment
pub late_all : (moment : ℕ) (visits : List Visit) → All (λ v. moment < v.moment) (late moment visits)
late_all moment visits =
    All-weaker (λ (v : Visit). nat_lt moment v.moment ≡ true) (λ (v : Visit). moment < v.moment) (λ v test. passed moment v.moment test) (late moment visits)
    (filter_passes (λ v. nat_lt moment v.moment) visits)
