use Rattle.std.proofs.Common.{arith}
use Rattle.ds_checker.proofs.CopyLaws.{one-copied}
use Rattle.ds_checker.proofs.candidate.copied.Goals as goal

pub bounds-contracts-contract-index : goal.bounds-contracts-contract-index
bounds-contracts-contract-index c = c.loop-contract-test.true

pub offset_bounds-contracts-contract-index : goal.offset_bounds-contracts-contract-index
offset_bounds-contracts-contract-index c = omega (arith, c.loop-contract-test.true)

pub loop-contract-smaller : goal.loop-contract-smaller
loop-contract-smaller c = omega (arith, c.loop-contract-test.true)

pub loop-contract-preserved : goal.loop-contract-preserved
loop-contract-preserved c =
    one-copied c.loop-contract.copied.items c.push.new.self.items c.args.contracts.now c.in-Ok.contract c.contract-item.result c.loop-contract.contract-index c.loop-contract-test.true
    c.in-Ok.ensures.copied c.contract-item.is c.in_ok-push.ensures.items c.loop-contract.invariant
