use Rattle.std.proofs.Common.{◌≡◌, ◌++◌, true}
use Rattle.std.specs.Iterator.Adapters.{zip_first, zip_second}
use Rattle.std.specs.Slice.Iter.{iter_rest}
use Rattle.ds_certificate.specs.Texts.{ended, is_shaped, lines_for, text_in}
use Rattle.ds_certificate.proofs.TextLaws.{RowsBack}
use Rattle.ds_certificate.proofs.writing.write.Given as goal

-- the lines so far, and those of the contracts that are left
abbrev pub invariant-loop-contract : goal.invariant-loop-contract
invariant-loop-contract l =
    let contracts = iter_rest (zip_first l.contract-iterator) in
    let rows = iter_rest (zip_second l.contract-iterator) in
    record {
      lines : l.text.items ++ ended (lines_for l.form contracts rows) ≡ text_in l.form l.contracts l.certificate;
      shape : is_shaped contracts rows ≡ true;
      reads : RowsBack l.form contracts rows → RowsBack l.form l.contracts l.certificate;
    }
