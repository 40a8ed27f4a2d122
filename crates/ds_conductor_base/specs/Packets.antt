-- Packets as they are kept on their way.
use Rattle.std.specs.Prelude.{ℕ, List, map}
use Rattle.ds_conductor_base.specs.Passing.{Carried}
use Rattle.ds_conductor_base.specs.declared.passing.OnTheWay.{OnTheWay}

abbrev pub carried_of : OnTheWay → Carried
carried_of p = record { size = p.size; colour = p.colour }

abbrev pub carried_in : List OnTheWay → List Carried
carried_in packets = map carried_of packets

-- how many visits each packet still makes
abbrev pub lefts_of : List OnTheWay → List ℕ
lefts_of packets = map (λ p. p.left) packets
