use Rattle.std.proofs.Common.{arith}
use Rattle.ds_conditioner.proofs.NoteLaws.{is_first_frame, marked_at, next_framed, next_noted}
use Rattle.ds_conditioner.specs.Notes.{shared_frames}
use Rattle.ds_conditioner.proofs.held_piece.HeldPiece.first_frame.Goals as goal

pub frame_in-requires : goal.frame_in-requires
frame_in-requires c =
    next_framed (shared_frames c.self.inside.piece) c.self.inside.notes.items c.self.inside.next _ c.args.self.now c.self.invariant c.self.view_is c.requires

pub index-requires : goal.index-requires
index-requires c =
    let there = next_noted (shared_frames c.self.inside.piece) c.self.inside.notes.items c.self.inside.next _ c.args.self.now c.self.invariant c.self.view_is c.requires in
    omega (arith, there, c.self.inside.notes.ok.0)

pub new-requires : goal.new-requires
new-requires c =
    let there = next_noted (shared_frames c.self.inside.piece) c.self.inside.notes.items c.self.inside.next _ c.args.self.now c.self.invariant c.self.view_is c.requires in
    marked_at (shared_frames c.self.inside.piece) c.self.inside.notes.items c.self.inside.next _ c.self.inside.next c.frame_in.result c.index.result.now c.self.invariant there c.frame_in.ensures c.index.ensures

pub returns : goal.returns
returns c =
    is_first_frame (shared_frames c.self.inside.piece) c.self.inside.notes.items c.self.inside.next _ c.args.self.now c.self.invariant c.self.view_is c.requires c.index.result.now c.index.ensures c.frame_in.result c.new.result c.frame_in.ensures c.new.ensures
