use Rattle.std.proofs.Common.{◌≡◌, ◌<◌, ◌≤◌, length, get_or, ap, ◌∙◌, arith}
use Rattle.dsedge_json.proofs.CertificateLaws.{bounds-ended, bounds-more}
use Rattle.dsedge_json.proofs.certificate.push_bounds.Goals as goal

pub loop-bound-preserved : goal.loop-bound-preserved
loop-bound-preserved c =
    let i = c.loop-bound.bound-index in
    let b = c.bound-item.result in
    let same = c.hops-bound-items.ensures in
    let inside : i < length c.args.bounds.now = omega (arith, ap length same, c.loop-bound-test.true) in
    let is_b : b ≡ get_or c.args.bounds.now i b = c.bound-item.is ∙ ap (λ bounds. get_or bounds i b) same in
    record {
      counted = omega arith;
      tokens = bounds-more c.loop-bound.out.tokens c.push_bound.new.out.tokens c.args.name.now c.loop-bound.hop i b c.args.bounds.now _ inside is_b
          c.in_ok-push_bound.ensures.tokens c.loop-bound.invariant.tokens;
      before = c.in_ok-push_bound.ensures.before ∙ c.loop-bound.invariant.before;
    }

pub returns : goal.returns
returns c =
    let all : length c.args.bounds.now ≤ c.loop-bound.bound-index = omega (arith, ap length c.hops-bound-items.ensures, c.loop-bound-test.false) in
    record {
      tokens = bounds-ended c.loop-bound.out.tokens c.args.name.now c.loop-bound.hop c.loop-bound.bound-index c.args.bounds.now _ all c.loop-bound.invariant.tokens;
      before = c.loop-bound.invariant.before;
    }
