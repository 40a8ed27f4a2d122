use Rattle.std.proofs.Common.{◌≡◌, [], ◌∷◌, ◌++◌, if◌then◌else◌, is_ok, ap, ◌∙◌}
use Rattle.ds_conditioner.specs.declared.held_piece.Note.{Note}
use Rattle.ds_conditioner.proofs.NoteLaws.{is_noted, noted_still}
use Rattle.ds_conditioner.specs.Notes.{shared_frames}
use Rattle.ds_conditioner.proofs.held_piece.HeldPiece.note.Goals as goal

pub invariant_of-self : goal.invariant_of-self
invariant_of-self c =
    let n : Note = record { mark = c.args.mark; packet = c.args.packet } in
    let before = c.self.inside.notes.items in
    let there : c.push.new.self.items ≡ (if is_ok c.push.result then before ++ c.note_of.result ∷ [] else before) = c.push.ensures.items in
    let pushed : c.push.new.self.items ≡ before ++ c.note_of.result ∷ [] = there ∙ ap (λ ok. if ok then before ++ c.note_of.result ∷ [] else before) (ap is_ok c.unwrap.ensures) in
    let push : c.push.new.self.items ≡ before ++ n ∷ [] = pushed ∙ ap (λ (noted : Note). before ++ noted ∷ []) c.note_of.ensures in
    noted_still (shared_frames c.self.inside.piece) before c.self.inside.next _ c.args.self.now c.self.invariant c.self.view_is n c.push.new.self.items push c.requires.there _ c.push.ensures.capacity c.requires.marked

pub returns : goal.returns
returns c =
    let n : Note = record { mark = c.args.mark; packet = c.args.packet } in
    let before = c.self.inside.notes.items in
    let there : c.push.new.self.items ≡ (if is_ok c.push.result then before ++ c.note_of.result ∷ [] else before) = c.push.ensures.items in
    let pushed : c.push.new.self.items ≡ before ++ c.note_of.result ∷ [] = there ∙ ap (λ ok. if ok then before ++ c.note_of.result ∷ [] else before) (ap is_ok c.unwrap.ensures) in
    let push : c.push.new.self.items ≡ before ++ n ∷ [] = pushed ∙ ap (λ (noted : Note). before ++ noted ∷ []) c.note_of.ensures in
    is_noted (shared_frames c.self.inside.piece) before c.self.inside.next _ c.args.self.now c.self.invariant c.self.view_is n c.push.new.self.items push c.requires.there
