use Rattle.meter_fabric_base.specs.Sites.{hops_of}
use Rattle.meter_fabric_base.specs.Trails.{IsTrail, packet_of}
use Rattle.ds_domain_base.specs.Sent.{came}
use Rattle.run_audit.proofs.TrailTests.{IsLeft}
use Rattle.run_audit.proofs.soundness.is_trail.Given as goal

-- the whole is a trail exactly where what is left is one
abbrev pub invariant-loop-place : goal.invariant-loop-place
invariant-loop-place l =
    let p = packet_of l.trail in
    let hops = hops_of l.domain l.trail.flow l.contract in
    let whole = IsTrail p l.trail.begun (came l.contract l.trail.dscp) hops l.trail.receipts.items in
    (whole → IsLeft p l.since l.came hops l.trail.receipts.items l.place) × (IsLeft p l.since l.came hops l.trail.receipts.items l.place → whole)
