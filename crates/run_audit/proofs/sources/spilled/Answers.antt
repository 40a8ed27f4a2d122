use Rattle.std.proofs.Common.{arith, ap, sym, ◌∙◌}
use Rattle.run_audit.specs.Assembled.{passage_of}
use Rattle.moment_core.specs.Columns.{counts}
use Rattle.run_audit.proofs.SpillLaws.{spilled-ended, spilled-over, spilled-passed, spilled-poured}
use Rattle.run_audit.proofs.sources.spilled.Goals.{then-counts+else-level-depth, else-counts}
use Rattle.run_audit.proofs.sources.spilled.Goals as goal

pub returns-then-level-depth : goal.returns-then-level-depth
returns-then-level-depth c =
    sym (spilled-over c.args.envelope c.args.column c.args.contract.now c.loop-trail.level c.loop-trail.since c.filled-level.result (λ trail. passage_of trail.now) c.args.trails.now
    c.loop-trail.trail-index c.trail-item.result c.counts.result c.loop-trail-test.true c.trail-item.is
    (c.counts.ensures ∙ ap (λ came. counts c.args.column came) c.came.ensures) c.if-counts.true c.filled-level.ensures
    (omega (arith, c.if-level-depth.true, c.from-depth.ensures, c.burst.ensures.value)))
    ∙ c.loop-trail.invariant.0

pub loop-trail-preserved : goal.loop-trail-preserved
loop-trail-preserved c = elim c.if-counts.branch [
  | then-counts+else-level-depth w ↦ (
    rw w.level-is
        (rw w.since-is
        (rw w.get-since.ensures.value
        (sym (spilled-poured c.args.envelope c.args.column c.args.contract.now c.loop-trail.level c.loop-trail.since w.filled-level.result (λ trail. passage_of trail.now) c.args.trails.now
        c.loop-trail.trail-index c.trail-item.result c.counts.result c.loop-trail-test.true c.trail-item.is
        (c.counts.ensures ∙ ap (λ came. counts c.args.column came) c.came.ensures) w.if-counts.true w.filled-level.ensures
        (omega (arith, w.if-level-depth.false, c.from-depth.ensures, c.burst.ensures.value)))
        ∙ c.loop-trail.invariant.0))),
    omega (arith, w.level-is, w.if-level-depth.false, c.from-depth.ensures, c.burst.ensures.value),
  )
  | else-counts w ↦ (
    rw w.level-is
        (rw w.since-is
        (sym (spilled-passed c.args.envelope c.args.column c.args.contract.now c.loop-trail.level c.loop-trail.since (λ trail. passage_of trail.now) c.args.trails.now
        c.loop-trail.trail-index c.trail-item.result c.counts.result c.loop-trail-test.true c.trail-item.is
        (c.counts.ensures ∙ ap (λ came. counts c.args.column came) c.came.ensures) w.if-counts.false)
        ∙ c.loop-trail.invariant.0)),
    omega (arith, w.level-is, c.loop-trail.invariant.1),
  )
]

pub returns : goal.returns
returns c =
    sym (spilled-ended c.args.envelope c.args.column c.args.contract.now c.loop-trail.level c.loop-trail.since (λ trail. passage_of trail.now) c.args.trails.now c.loop-trail.trail-index c.loop-trail-test.false)
    ∙ c.loop-trail.invariant.0
