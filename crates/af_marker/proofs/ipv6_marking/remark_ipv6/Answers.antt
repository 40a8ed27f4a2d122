use Rattle.std.proofs.Common.{◌/◌, ◌%◌, List, ℕ, slice_index, Result, Ok, ap, sym, ◌∙◌, arith}
use Rattle.af_marker.specs.Ipv6Headers.{ipv6_header_of, ipv6_marked}
use Rattle.af_marker.specs.declared.ipv4.HeaderFault.{HeaderFault}
use Rattle.af_marker.specs.declared.ipv6.Ipv6Header.{Ipv6Header}
use Rattle.af_marker.proofs.Ipv6Laws.{behind_kept, header_of_marked, is_fields, marked_apart, marked_twice, passed, version_kept}
use Rattle.af_marker.proofs.ipv6_marking.remark_ipv6.Goals as goal

abbrev ok_header : Ipv6Header → Result Ipv6Header HeaderFault
ok_header h = Ok h

pub returns-clause-reads_back : goal.returns-clause-reads_back
returns-clause-reads_back c =
    let old = c.args.bytes.now in
    let read = c.in_ok-before.before in
    ap ipv6_header_of c.set_ipv6_dscp.ensures
    ∙ header_of_marked c.args.dscp old (omega arith) (passed old read c.in_ok-before.ensures.value)
    ∙ ap (λ (h : Ipv6Header). ok_header (record h { dscp = c.args.dscp })) (sym (is_fields old read c.in_ok-before.ensures.value))

pub returns-clause-apart : goal.returns-clause-apart
returns-clause-apart c k zeroth first =
    ap (λ (b : List ℕ). slice_index b k) c.set_ipv6_dscp.ensures ∙ marked_apart c.args.dscp k c.args.bytes.now zeroth first

pub returns-clause-version : goal.returns-clause-version
returns-clause-version c =
    ap (λ (b : List ℕ). slice_index b 0 / 16) c.set_ipv6_dscp.ensures
    ∙ version_kept c.args.dscp c.args.bytes.now (omega arith) (omega (arith, c.in_ok-before.ensures.whole.0))

pub returns-clause-behind : goal.returns-clause-behind
returns-clause-behind c =
    ap (λ (b : List ℕ). slice_index b 1 % 64) c.set_ipv6_dscp.ensures
    ∙ behind_kept c.args.dscp c.args.bytes.now (omega (arith, c.in_ok-before.ensures.whole.0))

pub returns-clause-last_counts : goal.returns-clause-last_counts
returns-clause-last_counts c last =
    ap (ipv6_marked last) c.set_ipv6_dscp.ensures
    ∙ marked_twice c.args.dscp last c.args.bytes.now (omega arith) (omega (arith, c.in_ok-before.ensures.whole.0))
