use Rattle.std.proofs.Common.{refl}
use Rattle.ds_conditioner.proofs.NoteLaws.{is_let_go, let_go_still}
use Rattle.ds_conditioner.specs.Notes.{shared_frames}
use Rattle.ds_conditioner.proofs.held_piece.HeldPiece.let_go_first.Goals as goal

pub invariant_of-self : goal.invariant_of-self
invariant_of-self c =
    let_go_still (shared_frames c.self.inside.piece) c.self.inside.notes.items c.self.inside.next _ c.args.self.now c.self.invariant c.self.view_is c.requires _ refl

pub returns : goal.returns
returns c =
    is_let_go (shared_frames c.self.inside.piece) c.self.inside.notes.items c.self.inside.next _ c.args.self.now c.self.invariant c.self.view_is c.requires _ refl
