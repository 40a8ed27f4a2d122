use Rattle.std.proofs.Common.{◌≡◌, ◌+◌, ◌<◌, arith, length, take, ap, sym, ◌∙◌, refl}
use Rattle.std.proofs.lemmas.Bool.{false≢true}
use Rattle.envelope_core.specs.Curve.{Curve}
use Rattle.envelope_core.specs.LeakyBucket.{level_with}
use Rattle.envelope_core.proofs.LeakyBuckets.{bucket-take_more, overflows-above, overflows-within, poured-within}
use Rattle.envelope_core.proofs.LinearPass.{Keeps-take_more, Keeps-over, Keeps-take, IsInOrder-next}
use Rattle.envelope_core.proofs.conformance.keeps.Goals as goal

pub returns-then-pour-clause-over : goal.returns-then-pour-clause-over
returns-then-pour-clause-over c =
    let i = c.loop-index.index in
    let items = c.args.items.now in
    let item = c.index-items-index.result in
    let here : i < length items = omega arith in
    let depth : c.loop-index.bucket.curve.burst ≡ c.args.envelope.burst = ap (λ (curve : Curve). curve.burst) c.loop-index.invariant.curve in
    let above = overflows-above c.loop-index.bucket item (sym c.pour.ensures.overflow ∙ c.if-pour.true) in
    Keeps-over c.args.envelope.rate (level_with c.loop-index.bucket item) c.args.envelope.burst item.0 (take (i + 1) items) (omega (arith, above, depth))
    (bucket-take_more c.loop-index.bucket c.args.envelope i items item c.loop-index.invariant.curve here c.index-items-index.is (c.loop-index.invariant.next item here) c.loop-index.invariant.backlog)

pub returns-then-pour-clause-kept : goal.returns-then-pour-clause-kept
returns-then-pour-clause-kept c = (
  λ never. absurd (false≢true never),
  λ kept. absurd (returns-then-pour-clause-over c (Keeps-take c.args.envelope.rate c.args.envelope.burst (c.loop-index.index + 1) c.args.items.now kept)),
)

pub loop-index-preserved : goal.loop-index-preserved
loop-index-preserved c =
    let i = c.loop-index.index in
    let b = c.loop-index.bucket in
    let items = c.args.items.now in
    let item = c.index-items-index.result in
    let here : i < length items = omega arith in
    let fits = sym c.pour.ensures.overflow ∙ c.if-pour.false in
    let depth : b.curve.burst ≡ c.args.envelope.burst = ap (λ (curve : Curve). curve.burst) c.loop-index.invariant.curve in
    let within = overflows-within b item fits in
    let after : c.pour.new.self ≡ record b { level = level_with b item; since = item.0 } = c.pour.ensures.after ∙ poured-within b item fits in
    let backlog = bucket-take_more b c.args.envelope i items item c.loop-index.invariant.curve here c.index-items-index.is (c.loop-index.invariant.next item here) c.loop-index.invariant.backlog in
    rw after (record {
      curve = c.loop-index.invariant.curve;
      backlog = backlog;
      kept = Keeps-take_more c.args.envelope.rate (level_with b item) c.args.envelope.burst i item.0 items item here
          c.index-items-index.is refl (omega (arith, within, depth)) backlog c.loop-index.invariant.kept;
      next = IsInOrder-next items i item.0 item c.requires c.index-items-index.is refl;
    })
