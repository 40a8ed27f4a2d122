use Rattle.std.proofs.Common.{refl, sym, ◌∙◌}
use Rattle.moment_core.proofs.KindLaws.{gives-back, stands-for}
use Rattle.moment_core.proofs.MeteringLaws.{admitted-after, admitted-colour}
use Rattle.moment_core.specs.Fillings.{state_at}
use Rattle.moment_core.specs.Metering.{filled}
use Rattle.moment_core.proofs.meter.TokenMeter.admit.Goals as goal

pub invariant_of-self : goal.invariant_of-self
invariant_of-self g c =
    let i = c.self.inside in
    let k = g.K.Kind in
    let law = g.met.K.Kind in
    let before = state_at i.mode i.clock (k.parameters_of i.buckets) (k.levels_of i.buckets) in (
      c.self.invariant.0,
      gives-back k.buckets_of k.parameters_of k.levels_of law.gives_parameters law.gives_levels (record before { levels = k.rules.without before.levels c.args.size c.take.result })
          i.clock c.take.new.self (c.take.ensures.taken before (sym c.self.invariant.1)) refl refl,
    )

pub returns-clause-colour : goal.returns-clause-colour
returns-clause-colour g c =
    let i = c.self.inside in
    let k = g.K.Kind in
    let before = state_at i.mode i.clock (k.parameters_of i.buckets) (k.levels_of i.buckets) in
    admitted-colour k.rules c.args.self.now before _ c.take.result (◌∙◌ {c = filled k.rules c.args.self.now c.args.moment} c.self.view_is c.fill_to.ensures)
    (rw (← c.seen-seen.ensures) (c.take.ensures.colour before (sym c.self.invariant.1)))

pub returns-clause-after : goal.returns-clause-after
returns-clause-after g c =
    let i = c.self.inside in
    let k = g.K.Kind in
    let law = g.met.K.Kind in
    let before = state_at i.mode i.clock (k.parameters_of i.buckets) (k.levels_of i.buckets) in
    let taken = c.take.ensures.taken before (sym c.self.invariant.1) in
    stands-for k.buckets_of k.parameters_of k.levels_of law.gives_parameters law.gives_levels (record before { levels = k.rules.without before.levels c.args.size c.take.result }) i.clock
    c.take.new.self taken refl refl
    ∙ admitted-after k.rules c.args.self.now before _ c.take.result _ (◌∙◌ {c = filled k.rules c.args.self.now c.args.moment} c.self.view_is c.fill_to.ensures)
    (rw (← c.seen-seen.ensures) (c.take.ensures.colour before (sym c.self.invariant.1))) refl
