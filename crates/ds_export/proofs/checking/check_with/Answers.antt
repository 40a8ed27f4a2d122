use Rattle.std.proofs.Common.{◌∙◌, ap}
use Rattle.std.specs.List.{list_all}
use Rattle.ds_certificate.specs.Bounds.{fits}
use Rattle.ds_export.specs.Remade.{with_parameters}
use Rattle.ds_export.proofs.FittingLaws.{fitting-all}
use Rattle.ds_export.proofs.checking.check_with.Goals as goal

pub least_certificate-requires : goal.least_certificate-requires
least_certificate-requires c =
    let changed = with_parameters c.args.domain.now c.args.name c.args.parameters in
    ap (λ d. list_all (fits d) c.as_slice.result.now) c.in-Ok.ensures
    ∙ (ap (list_all (fits changed)) c.as_slice.ensures.value
    ∙ (fitting-all c.args.domain.now c.args.name c.args.parameters c.args.contracts.items ∙ c.requires))
