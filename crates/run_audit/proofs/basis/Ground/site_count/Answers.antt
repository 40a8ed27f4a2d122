use Rattle.std.proofs.Common.{length, ap, ◌∙◌, arith}
use Rattle.run_audit.specs.Bases.{basis_of}
use Rattle.run_audit.proofs.BasisLaws.{opening_below}
use Rattle.run_audit.proofs.basis.Ground.site_count.Goals as goal

pub returns-clause-range : goal.returns-clause-range
returns-clause-range c =
    omega (arith, c.len.ensures.len ∙ ap length c.meters.ensures.entries, c.meters.ensures.kept.few_meters, c.flow_count.ensures.range, c.from.ensures)

pub returns-clause-all : goal.returns-clause-all
returns-clause-all c site some =
    let g = basis_of c.args.self.now in
    let meters = c.len.ensures.len ∙ ap length (c.meters.ensures.entries ∙ ap (λ d. d.meters) c.domain.ensures.value) in
    omega (arith, opening_below g site c.flow_count.ensures.counted some, meters, c.flow_count.ensures.value, c.from.ensures)
