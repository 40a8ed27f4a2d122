use Rattle.std.proofs.Common.{◌≡◌, ◌+◌, ℕ, nat_eq, length, arith}
use Rattle.std.proofs.lemmas.Bool.Decides.{nat_tests}
use Rattle.ds_conditioner.proofs.NoteLaws.{none_held}
use Rattle.ds_conditioner.specs.Notes.{shared_frames}
use Rattle.ds_conditioner.proofs.held_piece.HeldPiece.is_empty.Goals as goal

same_test : (next noted held : ℕ) → held + next ≡ noted → nat_eq next noted ≡ nat_eq held 0
same_test next noted held all = grind (arith, nat_tests)

pub returns : goal.returns
returns c =
    let all = none_held (shared_frames c.self.inside.piece) c.self.inside.notes.items c.self.inside.next _ c.args.self.now c.self.invariant c.self.view_is in
    same_test c.self.inside.next c.len.result (length c.args.self.now.held) (omega (arith, all, c.len.ensures, c.self.inside.notes.ok.0))
