use Rattle.std.proofs.Common.{map, take}
use Rattle.run_audit.specs.Assembled.{passage_of}
use Rattle.run_audit.specs.Bases.{basis_of}
use Rattle.run_audit.specs.Hops.{delayed_hop}
use Rattle.run_audit.specs.Verdicts.{against_sent, outside}
use Rattle.run_audit.proofs.LeastLaws.{IsLeast}
use Rattle.run_audit.proofs.packets.found_in.Given as goal

-- what was found against the trails so far
abbrev pub invariant-loop-trail : goal.invariant-loop-trail
invariant-loop-trail l =
    let g = basis_of l.basis in
    let passages = map passage_of (take l.trail-index l.trails) in record {
      outside : IsLeast (λ p. p.packet.number) (λ p. against_sent g (outside p.packet.number) p) passages l.outside;
      delayed : IsLeast (λ p. p.packet.number) (λ p. against_sent g (delayed_hop g.domain p.packet.number) p) passages l.delayed;
    }
