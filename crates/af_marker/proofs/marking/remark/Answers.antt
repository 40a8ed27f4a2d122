use Rattle.std.proofs.Common.{◌≡◌, Bool, true, IsTrue, Result, Ok, ap, rules, sym, ◌∙◌, subst}
use Rattle.std.proofs.Math.Facts.{Fits-lt-pow}
use Rattle.af_marker.specs.Headers.{header_of, is_verified}
use Rattle.af_marker.specs.Marks.{marked}
use Rattle.af_marker.specs.declared.ipv4.Ipv4Header.{Ipv4Header}
use Rattle.af_marker.specs.declared.ipv4.HeaderFault.{HeaderFault}
use Rattle.af_marker.proofs.ByteLaws.{Bytes, Bytes-of_items}
use Rattle.af_marker.proofs.HeaderLaws.{is_fields, passed, verified_of}
use Rattle.af_marker.proofs.MarkLaws.{header_of_marked, marked_apart, marked_twice, whole}
use Rattle.af_marker.proofs.marking.remark.Goals as goal

is_true : (b : Bool) → IsTrue b → b ≡ true
is_true b h = search rules

abbrev ok_header : Ipv4Header → Result Ipv4Header HeaderFault
ok_header h = Ok h

pub returns-clause-verifies : goal.returns-clause-verifies
returns-clause-verifies c right =
    let old = c.args.bytes.now in
    let read = c.in_ok-before.before in
    let passes = passed old read c.in_ok-before.ensures.value in
    let all : Bytes (marked c.args.dscp old) = subst Bytes c.set_dscp.ensures (Bytes-of_items c.set_dscp.new.bytes (λ k. Fits-lt-pow (c.type_inv.bytes k))) in
    let verified : is_verified old ≡ true = sym (verified_of old read c.in_ok-before.ensures.value) ∙ is_true read.verified right in
    ap header_of c.set_dscp.ensures ∙ header_of_marked c.args.dscp old all passes verified
    ∙ ap (λ (h : Ipv4Header). ok_header (record h { dscp = c.args.dscp })) (sym (is_fields old read c.in_ok-before.ensures.value))

pub returns-clause-apart : goal.returns-clause-apart
returns-clause-apart c k one ten eleven =
    let passes = passed c.args.bytes.now c.in_ok-before.before c.in_ok-before.ensures.value in
    rw c.set_dscp.ensures (marked_apart c.args.dscp k c.args.bytes.now (whole c.args.bytes.now passes) one ten eleven)

pub returns-clause-last_counts : goal.returns-clause-last_counts
returns-clause-last_counts c right last =
    let old = c.args.bytes.now in
    let passes = passed old c.in_ok-before.before c.in_ok-before.ensures.value in
    let all : Bytes (marked c.args.dscp old) = subst Bytes c.set_dscp.ensures (Bytes-of_items c.set_dscp.new.bytes (λ k. Fits-lt-pow (c.type_inv.bytes k))) in
    let verified : is_verified old ≡ true = sym (verified_of old c.in_ok-before.before c.in_ok-before.ensures.value) ∙ is_true c.in_ok-before.before.verified right in
    ap (marked last) c.set_dscp.ensures ∙ marked_twice c.args.dscp last old all (whole old passes) verified
