use Rattle.std.proofs.Common.{ap, ◌∙◌}
use Rattle.std.specs.List.{list_all}
use Rattle.ds_certificate.specs.Bounds.{fits}
use Rattle.ds_checker.specs.Changes.{on_terms}
use Rattle.dsedge_texts.proofs.QuoteLemmas.{all_inserted}
use Rattle.dsedge_texts.proofs.quoting.none_of.Goals as goal

pub none_with-requires : goal.none_with-requires
none_with-requires c =
    ap (list_all (fits c.args.domain)) (rw c.set_terms.ensures at c.in-Ok.ensures.items)
    ∙ all_inserted (fits c.args.domain) c.args.others.items c.args.place (on_terms c.args.terms c.args.contract) c.requires.fit c.requires.own c.requires.place
