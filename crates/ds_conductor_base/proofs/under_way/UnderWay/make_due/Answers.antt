use Rattle.std.proofs.Common.{◌≡◌, ◌<◌, ◌^◌, ap, length, subst, ◌∙◌, sym, arith, All}
use Rattle.ds_conductor_base.specs.KeptStreams.{stream_of}
use Rattle.ds_conductor_base.specs.Streams.{IsStream, colours_left, made_due}
use Rattle.ds_conductor_base.proofs.StreamLaws.{made_comes, made_none}
use Rattle.ds_conductor_base.proofs.UnderWayLaws.{made_count, made_counted, made_from, made_is, made_left, made_same, made_within, stream}
use Rattle.ds_conductor_base.proofs.under_way.UnderWay.make_due.Goals as goal

pub pass-requires-clause-behind : goal.pass-requires-clause-behind
pass-requires-clause-behind g c =
    let u = c.loop-visit.self-inside in
    let kept = c.loop-visit.invariant.kept in
    made_from u.accepted.now u.meters.items u.first u.packets.items u.waiting c.in-Some.visit c.pop_due.new.self c.in-Some.ensures.1 kept.stream kept.counted

pub pass-requires-clause-within : goal.pass-requires-clause-within
pass-requires-clause-within g c =
    let u = c.loop-visit.self-inside in
    let kept = c.loop-visit.invariant.kept in
    made_within u.accepted.now u.meters.items u.first u.packets.items u.waiting c.in-Some.visit c.pop_due.new.self c.in-Some.ensures.1 kept.stream kept.counted

pub pass-requires-clause-left : goal.pass-requires-clause-left
pass-requires-clause-left g c =
    let u = c.loop-visit.self-inside in
    let kept = c.loop-visit.invariant.kept in
    made_left u.accepted.now u.meters.items u.first u.packets.items u.waiting c.in-Some.visit c.pop_due.new.self c.in-Some.ensures.1 kept.stream kept.counted

pub loop-visit-preserved : goal.loop-visit-preserved
loop-visit-preserved g c =
    let u = c.loop-visit.self-inside in
    let kept = c.loop-visit.invariant.kept in
    let count = made_count u.accepted.now u.meters.items u.first u.packets.items u.waiting c.in-Some.visit c.pop_due.new.self c.in-Some.ensures.1 kept.stream kept.counted
    c.pass.new.meters.items c.pass.new.packets.items c.pass.ensures.traffic c.pass.ensures.lefts in
    record {
      kept = record {
        ways = kept.ways;
        stream = made_is u.accepted.now u.meters.items u.first u.packets.items u.waiting c.in-Some.visit c.pop_due.new.self c.in-Some.ensures.1 kept.stream kept.counted
            c.pass.new.meters.items c.pass.new.packets.items c.pass.ensures.traffic c.pass.ensures.lefts;
        counted = made_counted u.accepted.now u.meters.items u.first u.packets.items u.waiting c.in-Some.visit c.pop_due.new.self c.in-Some.ensures.1 kept.stream kept.counted
            c.pass.new.meters.items c.pass.new.packets.items c.pass.ensures.traffic c.pass.ensures.lefts;
        numbered = let numbered = kept.numbered in omega (arith, count, numbered);
      };
      made = made_same u.accepted.now u.meters.items u.first u.packets.items u.waiting c.in-Some.visit c.pop_due.new.self c.in-Some.ensures.1 kept.stream kept.counted
          c.pass.new.meters.items c.pass.new.packets.items c.pass.ensures.traffic c.pass.ensures.lefts c.args.moment
          (let up = c.in-Some.ensures.0 in let is = c.get-end.ensures.value in omega (arith, up, is))
          ∙ c.loop-visit.invariant.made;
    }

pub loop-visit-smaller : goal.loop-visit-smaller
loop-visit-smaller g c = omega (arith, ap length c.in-Some.ensures.1)

pub returns-clause-made : goal.returns-clause-made
returns-clause-made g c =
    let u = c.loop-visit.self-inside in
    let later : All (λ v. c.args.moment < v.moment) u.waiting = subst (λ m. All (λ v. m < v.moment) u.waiting) c.get-end.ensures.value c.in_default.ensures.1 in
    ap (λ vs. stream u.accepted.now u.meters.items u.first u.packets.items vs) c.in_default.ensures.0
    ∙ sym (made_none c.args.moment (stream_of u) later) ∙ c.loop-visit.invariant.made

pub returns-clause-comes : goal.returns-clause-comes
returns-clause-comes g c back from =
    let u = c.loop-visit.self-inside in
    let later : All (λ v. c.args.moment < v.moment) u.waiting = subst (λ m. All (λ v. m < v.moment) u.waiting) c.get-end.ensures.value c.in_default.ensures.1 in
    let made : stream u.accepted.now u.meters.items u.first u.packets.items c.pop_due.new.self ≡ made_due c.args.moment c.args.self.now =
    ap (λ vs. stream u.accepted.now u.meters.items u.first u.packets.items vs) c.in_default.ensures.0
    ∙ sym (made_none c.args.moment (stream_of u) later) ∙ c.loop-visit.invariant.made in
    let short : c.args.moment < 2 ^ 63 = let is = c.get-end.ensures.value in let range = c.get-end.ensures.range in omega (arith, is, range) in
    ap (λ w. colours_left w back) made
    ∙ made_comes c.args.moment c.args.self.now back short from (subst IsStream c.self.view_is c.self.invariant.stream)
