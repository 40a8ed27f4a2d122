use Rattle.ds_conditioner.proofs.NoteLaws.{is_first_packet, next_noted}
use Rattle.std.proofs.Common.{arith}
use Rattle.ds_conditioner.specs.Notes.{shared_frames}
use Rattle.ds_conditioner.proofs.held_piece.HeldPiece.first_packet.Goals as goal

pub index-requires : goal.index-requires
index-requires c =
    let there = next_noted (shared_frames c.self.inside.piece) c.self.inside.notes.items c.self.inside.next _ c.args.self.now c.self.invariant c.self.view_is c.requires in
    omega (arith, there, c.self.inside.notes.ok.0)

pub returns : goal.returns
returns c =
    is_first_packet (shared_frames c.self.inside.piece) c.self.inside.notes.items c.self.inside.next _ c.args.self.now c.self.invariant c.self.view_is c.requires c.index.result.now c.index.ensures
