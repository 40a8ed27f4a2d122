-- The levels of a single-rate meter in closed form.
use Rattle.std.proofs.Common.{◌≡◌, ℕ, ◌+◌, ◌-◌, ◌<◌, ◌≤◌, zero, suc, true, false, ltb, refl, ◌∙◌, ap, arith, inl, inr}
use Rattle.std.specs.Fn.{iterate}
use Rattle.std.proofs.lemmas.Bool.{cases_lt}
use Rattle.std.proofs.lemmas.Bool.Decides.{nat_tests}
use Rattle.moment_core.specs.declared.bucket.Levels.{Levels}
use Rattle.moment_core.specs.Metering.{State, levels_at, used}
use Rattle.moment_core.specs.Tokens as tokens
use Rattle.moment_core.specs.Tokens.{given, with_tokens}
use Rattle.moment_core.proofs.FillingLaws.{iterated_to, with_tokens_over}
use Rattle.moment_core.proofs.MeteringLaws.{IsFilledAt, newest_le-used}
use Rattle.moment_core.proofs.TokenLaws.{with_token-at, with_token-below, with_tokens-none}
use Rattle.srtcm_core.specs.declared.parameters.SrTcmParameters.{SrTcmParameters}
use Rattle.srtcm_core.specs.SingleRate.{gain, single_rate, with_token}

below : (level size : ℕ) → level < size → ltb level size ≡ true
below level size h = grind (arith, nat_tests)

at : (level size : ℕ) → size ≤ level → ltb level size ≡ false
at level size h = grind (arith, nat_tests)

to_committed : (p : SrTcmParameters) (l : Levels) → l.committed < p.committed_burst → with_token p l ≡ record { committed = l.committed + 1; excess = l.excess }
unfolding with_token
to_committed p l h = rw (below l.committed p.committed_burst h) refl

to_excess : (p : SrTcmParameters) (l : Levels) → p.committed_burst ≤ l.committed → l.excess < p.excess_burst → with_token p l ≡ record { committed = l.committed; excess = l.excess + 1 }
unfolding with_token
to_excess p l full h = rw (at l.committed p.committed_burst full, below l.excess p.excess_burst h) refl

to_none : (p : SrTcmParameters) (l : Levels) → p.committed_burst ≤ l.committed → p.excess_burst ≤ l.excess → with_token p l ≡ l
unfolding with_token
to_none p l full h = rw (at l.committed p.committed_burst full, at l.excess p.excess_burst h) refl

-- some tokens at once: the committed bucket takes what it has room for, and the excess bucket is given the surplus
unfoldable pub closed : SrTcmParameters → ℕ → ℕ → ℕ → Levels
closed p count committed excess = record {
  committed = with_tokens p.committed_burst count committed;
  excess = with_tokens p.excess_burst (committed + count - with_tokens p.committed_burst count committed) excess;
}

one_more : (size count level next : ℕ) → tokens.with_token size level ≡ next → with_tokens size (suc count) level ≡ with_tokens size count next
unfolding with_tokens
one_more size count level next h = rw h refl

-- Tokens one by one into the two buckets come to that.
with_token-closed : (p : SrTcmParameters) (count committed excess : ℕ) → iterate (with_token p) count (record { committed = committed; excess = excess }) ≡ closed p count committed excess
unfolding closed
with_token-closed p zero committed excess =
    let none : committed + 0 - committed ≡ 0 = omega arith in
    rw (with_tokens-none p.committed_burst committed, none, with_tokens-none p.excess_burst excess) refl
with_token-closed p (suc count) committed excess =
    let l : Levels = record { committed = committed; excess = excess } in
    elim (cases_lt committed p.committed_burst) [
      | inl room ↦
          let more = one_more p.committed_burst count committed (committed + 1) (with_token-below p.committed_burst committed room) in
          let all : committed + suc count ≡ committed + 1 + count = omega arith in
          rw (to_committed p l room, more, all) (with_token-closed p count (committed + 1) excess)
      | inr full ↦
          let same = with_tokens_over p.committed_burst count committed full in
          let still = with_tokens_over p.committed_burst (suc count) committed full in
          let surplus : committed + count - committed ≡ count = omega arith in
          let surplus_more : committed + suc count - committed ≡ suc count = omega arith in
          elim (cases_lt excess p.excess_burst) [
            | inl room ↦
                let more = one_more p.excess_burst count excess (excess + 1) (with_token-below p.excess_burst excess room) in
                rw (to_excess p l full room, still, surplus_more, more)
                (with_token-closed p count committed (excess + 1) ∙ rw (same, surplus) refl)
            | inr no_room ↦
                let more = one_more p.excess_burst count excess excess (with_token-at p.excess_burst excess no_room) in
                rw (to_none p l full no_room, still, surplus_more, more)
                (with_token-closed p count committed excess ∙ rw (same, surplus) refl)
          ]
    ]

-- the tokens that the meter is given up to the moment that it meters at
abbrev pub gained : State SrTcmParameters Levels → ℕ → ℕ
gained m moment = given m.parameters.committed_rate m.origin (used m.newest moment) - given m.parameters.committed_rate m.origin m.newest

-- both levels before a packet
pub levels_at-single_rate : (m : State SrTcmParameters Levels) (moment : ℕ)
    → levels_at single_rate m (used m.newest moment) ≡ closed m.parameters (gained m moment) m.levels.committed m.levels.excess
unfolding levels_at single_rate gain
levels_at-single_rate m moment =
    let l = m.levels in
    iterated_to (with_token m.parameters) m.parameters.committed_rate m.origin m.newest (used m.newest moment) l (newest_le-used m.newest moment)
    ∙ with_token-closed m.parameters (gained m moment) l.committed l.excess

-- so the committed bucket has the tokens of its rate
pub committed_filled : IsFilledAt single_rate (λ l. l.committed) (λ p. p.committed_burst) (λ p. p.committed_rate)
unfolding closed
committed_filled m moment = ap (λ (l : Levels). l.committed) (levels_at-single_rate m moment)

-- and the excess bucket those that the committed one had no room for
pub excess_level : (m : State SrTcmParameters Levels) (moment : ℕ)
    → (levels_at single_rate m (used m.newest moment)).excess
    ≡ with_tokens m.parameters.excess_burst (m.levels.committed + gained m moment - with_tokens m.parameters.committed_burst (gained m moment) m.levels.committed) m.levels.excess
unfolding closed
excess_level m moment = ap (λ (l : Levels). l.excess) (levels_at-single_rate m moment)
