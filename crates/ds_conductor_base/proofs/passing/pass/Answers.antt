use Rattle.std.proofs.Common.{refl}
use Rattle.ds_conductor_base.proofs.PacketLaws.{lefts_made, pass_made}
use Rattle.ds_conductor_base.proofs.passing.pass.Goals as goal

pub returns-clause-traffic : goal.returns-clause-traffic
returns-clause-traffic c =
    pass_made c.args.meters.now.items c.args.first c.args.packets.now.items c.args.visit c.index_mut-packet.result.now c.requires.within c.index_mut-packet.ensures.value
    c.colour_left-packet.new.meters.items c.colour_left-packet.result _ c.colour_left-packet.ensures.meters c.colour_left-packet.ensures.colour

pub returns-clause-lefts : goal.returns-clause-lefts
returns-clause-lefts c =
    lefts_made c.args.packets.now.items _ c.index_mut-packet.result.now _ c.requires.within c.index_mut-packet.ensures.value refl
