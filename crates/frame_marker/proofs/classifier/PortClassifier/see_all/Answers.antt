use Rattle.std.proofs.Common.{rules, ◌≡◌, ◌+◌, ◌<◌, ℕ, get_or, length, ap, ◌∙◌, arith}
use Rattle.std.proofs.iter.runs.Sources.{range_runs}
use Rattle.std.proofs.lemmas.Result.{IfOk-weaker}
use Rattle.std.specs.Option.{option_map}
use Rattle.frame_marker.specs.Ports.{seen_there}
use Rattle.frame_marker.proofs.PieceLaws.{all_there, read_same}
use Rattle.frame_marker.proofs.classifier.PortClassifier.see_all.Goals as goal

pub returns : goal.returns
returns c =
    IfOk-weaker c.collect.result _ _ (λ seen h.
    let p = h tt in
    let q = c.map.ensures.runs p.0 p.0.seen p.1 in
    let up = range_runs q.0 q.0.seen in
    let start : q.0.from.start ≡ 0 = ap (λ r. r.start) q.1 in
    let end : q.0.from.end ≡ length c.args.piece.now = ap (λ r. r.end) q.1 ∙ c.len.ensures in
    let acts = q.2.3 (seen_there c.args.self.now c.args.piece.now) (λ x r f' called. search rules) in
    let long : length q.0.items ≡ length c.args.piece.now = omega (arith, q.0.long, up.1 (q.2.0 ∙ p.2), start, end) in
    let counts : (k d : ℕ) → k < length q.0.items → get_or q.0.items k d ≡ k = λ k d within.
    let inside : k < q.0.len = omega (arith, q.0.long) in
    let same = read_same (option_map (λ y. y) (q.0.at k)) (get_or q.0.items k d) (q.0.from.start + k) (q.0.reads k d inside) (up.3 k inside) in
    omega (arith, same, start) in
    p.3.0 ∙ acts ∙ all_there c.args.self.now c.args.piece.now q.0.items long counts) c.collect.ensures.runs
