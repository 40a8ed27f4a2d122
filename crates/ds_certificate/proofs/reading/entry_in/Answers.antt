use Rattle.std.proofs.Common.{true, false, ap, sym, ◌∙◌}
use Rattle.ds_certificate.specs.Readings.{entry_of_fields, has_form}
use Rattle.ds_certificate.specs.declared.reading.Entry.{Entry}
use Rattle.ds_certificate.proofs.ReadingLaws.{long_none, long_said, short_none, short_said}
use Rattle.ds_certificate.proofs.reading.entry_in.Goals as goal
use Rattle.ds_certificate.proofs.reading.entry_in.Goals.{in-Short+in_ok-entry-in-Short, in-Long+in_ok-entry-in-Long}

pub returns-in_err-entry-in-Short-clause-fields : goal.returns-in_err-entry-in-Short-clause-fields
returns-in_err-entry-in-Short-clause-fields c =
    rw c.from_residual.ensures (short_none c.args.form c.args.line.now c.in-Short.is c.in_err-entry-in-Short.ensures)

pub returns-in_err-entry-in-Long-clause-fields : goal.returns-in_err-entry-in-Long-clause-fields
returns-in_err-entry-in-Long-clause-fields c =
    rw c.from_residual-in_err-entry-in-Long.ensures (long_none c.args.form c.args.line.now c.in-Long.is c.in_err-entry-in-Long.ensures)

pub returns-then-has_form-clause-fields : goal.returns-then-has_form-clause-fields
returns-then-has_form-clause-fields c = elim c.match-form.branch [
  | in-Short+in_ok-entry-in-Short w ↦
      let formed = sym (ap (λ (e : Entry). has_form (entry_of_fields e.name.now e.hop.now e.green.now e.all.now e.excess.now)) w.entry-is) ∙ sym c.has_form.ensures ∙ c.if-has_form.true in
      rw w.entry-is (short_said c.args.form c.args.line.now (entry_of_fields w.in_ok-entry-in-Short.entry.name.now w.in_ok-entry-in-Short.entry.hop.now w.in_ok-entry-in-Short.entry.green.now w.in_ok-entry-in-Short.entry.all.now w.in_ok-entry-in-Short.entry.excess.now) true w.in-Short.is w.in_ok-entry-in-Short.ensures.0 w.in_ok-entry-in-Short.ensures.1 formed)
  | in-Long+in_ok-entry-in-Long w ↦
      let formed = sym (ap (λ (e : Entry). has_form (entry_of_fields e.name.now e.hop.now e.green.now e.all.now e.excess.now)) w.entry-is) ∙ sym c.has_form.ensures ∙ c.if-has_form.true in
      rw w.entry-is (long_said c.args.form c.args.line.now (entry_of_fields w.in_ok-entry-in-Long.entry.name.now w.in_ok-entry-in-Long.entry.hop.now w.in_ok-entry-in-Long.entry.green.now w.in_ok-entry-in-Long.entry.all.now w.in_ok-entry-in-Long.entry.excess.now) true w.in-Long.is w.in_ok-entry-in-Long.ensures formed)
]

pub returns-else-has_form-clause-fields : goal.returns-else-has_form-clause-fields
returns-else-has_form-clause-fields c = elim c.match-form.branch [
  | in-Short+in_ok-entry-in-Short w ↦
      let formed = sym (ap (λ (e : Entry). has_form (entry_of_fields e.name.now e.hop.now e.green.now e.all.now e.excess.now)) w.entry-is) ∙ sym c.has_form.ensures ∙ c.if-has_form.false in
      short_said c.args.form c.args.line.now (entry_of_fields w.in_ok-entry-in-Short.entry.name.now w.in_ok-entry-in-Short.entry.hop.now w.in_ok-entry-in-Short.entry.green.now w.in_ok-entry-in-Short.entry.all.now w.in_ok-entry-in-Short.entry.excess.now) false w.in-Short.is w.in_ok-entry-in-Short.ensures.0 w.in_ok-entry-in-Short.ensures.1 formed
  | in-Long+in_ok-entry-in-Long w ↦
      let formed = sym (ap (λ (e : Entry). has_form (entry_of_fields e.name.now e.hop.now e.green.now e.all.now e.excess.now)) w.entry-is) ∙ sym c.has_form.ensures ∙ c.if-has_form.false in
      long_said c.args.form c.args.line.now (entry_of_fields w.in_ok-entry-in-Long.entry.name.now w.in_ok-entry-in-Long.entry.hop.now w.in_ok-entry-in-Long.entry.green.now w.in_ok-entry-in-Long.entry.all.now w.in_ok-entry-in-Long.entry.excess.now) false w.in-Long.is w.in_ok-entry-in-Long.ensures formed
]
