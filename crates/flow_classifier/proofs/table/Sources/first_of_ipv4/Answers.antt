use Rattle.std.proofs.Common.{sym}
use Rattle.std.proofs.Math.Facts.{Fits-lt-pow}
use Rattle.std.proofs.lemmas.Bool.{cond-true, cond-false, eq-eqb, ne_eqb}
use Rattle.flow_classifier.proofs.TableLaws.{none_held}
use Rattle.flow_classifier.proofs.table.Sources.first_of_ipv4.Goals as goal

pub returns-then-places-eq0 : goal.returns-then-places-eq0
returns-then-places-eq0 c =
    none_held c.args.self.now c.args.address _ (Fits-lt-pow c.ranges.address) c.requires.masks c.requires.networks
    (sym (cond-true _ _ _ (eq-eqb _ _ c.if-places-eq0.true)))

pub returns-else-places-eq0 : goal.returns-else-places-eq0
returns-else-places-eq0 c =
    none_held c.args.self.now c.args.address _ (Fits-lt-pow c.ranges.address) c.requires.masks c.requires.networks
    (sym (cond-false _ _ _ (ne_eqb _ _ c.if-places-eq0.false)))
