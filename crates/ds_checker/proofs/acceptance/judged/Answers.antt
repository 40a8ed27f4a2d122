use Rattle.std.proofs.Common.{inl, inr, ◌∙◌}
use Rattle.ds_checker.specs.Acceptance.{table_of}
use Rattle.ds_checker.proofs.AcceptanceLaws.{acceptable}
use Rattle.ds_checker.proofs.CheckLaws.{bounds_found, shape_passed, table_found}
use Rattle.ds_checker.proofs.acceptance.judged.Goals as goal

pub gathered-requires-clause-shaped : goal.gathered-requires-clause-shaped
gathered-requires-clause-shaped c = shape_passed (table_of c.args.candidate.now) c.in-Ok.ensures.unrefused

pub returns-in-Err-clause-refused : goal.returns-in-Err-clause-refused
returns-in-Err-clause-refused c = elim c.in-Err.ensures.refused [
  | inl lacking ↦ inl lacking
  | inr found ↦ inr (bounds_found (table_of c.args.candidate.now) c.in-Err.refusal found)
]

pub returns-in-None-clause-unrefused : goal.returns-in-None-clause-unrefused
returns-in-None-clause-unrefused c =
    table_found (table_of c.args.candidate.now) c.table_refusal.result c.as_slice-2.result.now c.in_ok-sums.sums.items c.in-Ok.ensures.unrefused c.as_slice-2.ensures.value
    c.in_ok-sums.ensures.sums c.table_refusal.ensures ∙ c.in-None.is

pub returns-in-None-clause-held : goal.returns-in-None-clause-held
returns-in-None-clause-held c =
    let t = table_of c.args.candidate.now in
    let unrefused = table_found t c.table_refusal.result c.as_slice-2.result.now c.in_ok-sums.sums.items c.in-Ok.ensures.unrefused c.as_slice-2.ensures.value
    c.in_ok-sums.ensures.sums c.table_refusal.ensures ∙ c.in-None.is in
    record { sound = record { acceptable = acceptable t unrefused; kept = c.in_ok-sums.ensures }; routes = c.in-Ok.ensures.routes }

pub returns-in-Some-clause-refused : goal.returns-in-Some-clause-refused
returns-in-Some-clause-refused c =
    inr (table_found (table_of c.args.candidate.now) c.table_refusal.result c.as_slice-2.result.now c.in_ok-sums.sums.items c.in-Ok.ensures.unrefused c.as_slice-2.ensures.value
    c.in_ok-sums.ensures.sums c.table_refusal.ensures ∙ c.in-Some.is)
