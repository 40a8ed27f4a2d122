use Rattle.std.proofs.Common.{IsTrue, subst, arith}
use Rattle.ds_domain_base.specs.Names.{is_name}
use Rattle.ds_certificate.proofs.TextLaws.{bound_in-line, one_line}
use Rattle.ds_certificate.proofs.writing.push_bound.Goals as goal

pub returns-clause-one_line : goal.returns-clause-one_line
returns-clause-one_line c =
    let named : IsTrue (is_name c.args.name) = subst (λ name. IsTrue (is_name name)) c.bytes.ensures.value c.bytes.ensures.named in
    one_line c.args.form c.args.name c.args.hop c.args.bound (record { named = named; at_hop = c.ranges.hop.fits; green = omega arith; all = omega arith; excess = omega arith })

pub returns-clause-reads : goal.returns-clause-reads
returns-clause-reads c says =
    let named : IsTrue (is_name c.args.name) = subst (λ name. IsTrue (is_name name)) c.bytes.ensures.value c.bytes.ensures.named in
    bound_in-line c.args.form c.args.name c.args.hop c.args.bound (record { named = named; at_hop = c.ranges.hop.fits; green = omega arith; all = omega arith; excess = omega arith }) says
