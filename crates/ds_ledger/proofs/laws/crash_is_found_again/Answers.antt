use Rattle.std.proofs.Math.Logic.{∥∥₁_map}
use Rattle.sqlite.specs.Files.{file_state}
use Rattle.sqlite.proofs.Theorems.{next_run}
use Rattle.ds_ledger.proofs.laws.crash_is_found_again.Goals as goal

pub returns : goal.returns
returns g c clean left may found was =
    let kept = c.into_store in
    let last = kept.result in
    let now = file_state c.args.ledger.conn in
    let again = next_run last (kept.ensures.numbered clean) (kept.ensures.sound clean) left may (record now { committed = was.db })
    (record { holds = was.finds.holds; reads = was.finds.reads }) in
    ∥∥₁_map again (λ recovers. (was.db.trees, kept.ensures.quiet.outcomes was.db.trees recovers, was.are))
