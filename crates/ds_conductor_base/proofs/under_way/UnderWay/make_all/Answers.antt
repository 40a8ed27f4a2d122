use Rattle.std.proofs.Common.{◌≡◌, ◌-◌, ◌^◌, ap, sym, ◌∙◌}
use Rattle.std.proofs.lemmas.Result.{OkIff-at_ok}
use Rattle.ds_conductor_base.specs.Streams.{late}
use Rattle.ds_conductor_base.proofs.StreamLaws.{late_none}
use Rattle.ds_conductor_base.proofs.under_way.UnderWay.make_all.Goals as goal

pub returns-clause-none_left : goal.returns-clause-none_left
returns-clause-none_left g c =
    let last = OkIff-at_ok c.new.result _ _ c.unwrap-last.result c.new.ensures c.unwrap-last.ensures in
    let is : c.unwrap-last.result ≡ 2 ^ 63 - 1 = last.1 in
    ap (λ u. u.waiting) c.make_due.ensures.made
    ∙ ap (λ m. late m c.args.self.now.waiting) is
    ∙ ap (λ u. late (2 ^ 63 - 1) u.waiting) (sym c.self.view_is)
    ∙ late_none c.self.inside.waiting c.self.invariant.stream.timed
