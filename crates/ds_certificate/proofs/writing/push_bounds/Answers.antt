use Rattle.std.proofs.Common.{◌≡◌, ◌<◌, ◌≤◌, length, get_or, ap, ◌∙◌, arith}
use Rattle.ds_certificate.proofs.TextLaws.{lines-ended, lines-more, reads-ended, reads-more}
use Rattle.ds_certificate.proofs.writing.push_bounds.Goals as goal

pub loop-bound-preserved : goal.loop-bound-preserved
loop-bound-preserved c =
    let i = c.loop-bound.bound-index in
    let b = c.bound-item.result in
    let same = c.hops-bound-items.ensures in
    let inside : i < length c.args.bounds.now = omega (arith, ap length same, c.loop-bound-test.true) in
    let is_b : b ≡ get_or c.args.bounds.now i b = c.bound-item.is ∙ ap (λ bounds. get_or bounds i b) same in
    record {
      counted = omega arith;
      lines = lines-more c.args.form c.loop-bound.text.items c.push_bound.new.text.items c.args.name c.loop-bound.hop i b c.args.bounds.now _ inside is_b
          c.in_ok-push_bound.ensures.line c.loop-bound.invariant.lines;
      reads = reads-more c.args.form c.args.name c.loop-bound.hop i b c.args.bounds.now inside is_b c.in_ok-push_bound.ensures.one_line c.in_ok-push_bound.ensures.reads
          c.loop-bound.invariant.reads;
    }

pub returns-clause-lines : goal.returns-clause-lines
returns-clause-lines c =
    let all : length c.args.bounds.now ≤ c.loop-bound.bound-index = omega (arith, ap length c.hops-bound-items.ensures, c.loop-bound-test.false) in
    lines-ended c.args.form c.loop-bound.text.items c.args.name c.loop-bound.hop c.loop-bound.bound-index c.args.bounds.now _ all c.loop-bound.invariant.lines

pub returns-clause-reads : goal.returns-clause-reads
returns-clause-reads c =
    let all : length c.args.bounds.now ≤ c.loop-bound.bound-index = omega (arith, ap length c.hops-bound-items.ensures, c.loop-bound-test.false) in
    reads-ended c.args.form c.args.name c.loop-bound.hop c.loop-bound.bound-index c.args.bounds.now all c.loop-bound.invariant.reads
