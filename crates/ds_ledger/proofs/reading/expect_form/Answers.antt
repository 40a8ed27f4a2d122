use Rattle.std.proofs.Common.{inl, refl}
use Rattle.ds_ledger.proofs.reading.expect_form.Goals as goal

pub returns-in-Ok-false-clause-refused : goal.returns-in-Ok-false-clause-refused
returns-in-Ok-false-clause-refused g c clean = inl (rw c.in-Ok-false.field-0-test at (c.in-Ok-false.ensures.form clean), refl)
