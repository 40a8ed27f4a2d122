use Rattle.std.proofs.Common.{◌≡◌, ◌++◌}
use Rattle.std.specs.Iterator.Adapters.{zip_first, zip_second}
use Rattle.std.specs.Slice.Iter.{iter_rest}
use Rattle.dsedge_json.specs.Certificates.{bounds_for, tokens_of}
use Rattle.dsedge_json.proofs.certificate.push_rows.Given as goal

-- the tokens so far, and those of the contracts that are left
abbrev pub invariant-loop-contract : goal.invariant-loop-contract
invariant-loop-contract l =
    let contracts = iter_rest (zip_first l.contract-iterator) in
    let rows = iter_rest (zip_second l.contract-iterator) in
    record {
      tokens : l.out.tokens ++ tokens_of (bounds_for contracts rows) ≡ l.fn.out.tokens ++ tokens_of (bounds_for l.contracts l.rows);
      before : l.out.before ≡ l.fn.out.before;
    }
