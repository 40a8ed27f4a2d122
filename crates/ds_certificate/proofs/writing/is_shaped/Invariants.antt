use Rattle.std.proofs.Common.{◌≡◌, ◌+◌, length}
use Rattle.std.specs.Iterator.Adapters.{zip_first, zip_second}
use Rattle.std.specs.Slice.Iter.{iter_rest}
use Rattle.ds_certificate.specs.Texts.{is_shaped}
use Rattle.ds_certificate.proofs.writing.is_shaped.Given as goal

-- what is left has the shape where the whole has it, and is shorter by as many contracts as rows
abbrev pub invariant-loop-contract : goal.invariant-loop-contract
invariant-loop-contract l =
    let contracts = iter_rest (zip_first l.contract-iterator) in
    let rows = iter_rest (zip_second l.contract-iterator) in
    record {
      shape : is_shaped contracts rows ≡ is_shaped l.contracts l.rows;
      lengths : length contracts + length l.rows ≡ length rows + length l.contracts;
    }
