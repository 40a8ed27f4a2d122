use Rattle.std.proofs.Common.{◌≡◌, List, ◌++◌, length-append, append_assoc, Some, Ok, sym, subst, ap, refl, ◌∙◌, inl, inr, arith}
use Rattle.std.proofs.lemmas.Bool.{le-leb, leb-true}
use Rattle.pcap_capture.specs.Frames.{FrameValue}
use Rattle.pcap_capture.specs.declared.fault.PcapFault.TheVariants.{WriteFault}
use Rattle.capture_reader.proofs.OwnLaws.{taken_unread}
use Rattle.capture_reader.specs.Readings.{IsReading, IsUnderway}
use Rattle.capture_reader.proofs.ReadFaultLaws.{asked_once, own_written}
use Rattle.capture_reader.proofs.ReadingLaws.{failed, fed, stays_opened, still, stopped}
use Rattle.capture_reader.proofs.SizeLaws.{full_piece}
use Rattle.capture_reader.proofs.reading.take_piece.Goals as goal

pub returns-in-Err-clause-piece : goal.returns-in-Err-clause-piece
returns-in-Err-clause-piece g c =
    let before = c.args.progress.now in
    let more = g.I.Intake.left c.take_from.new.intake in
    let fault = c.in-Err.fault in record {
      missing = omega arith;
      fewer = tt;
      stays = λ opening there known. known;
      told = c.in-Err.ensures.told;
      read = λ gone bytes tells at.
          elim c.in-Err.ensures.err [
            | inl unread ↦
                subst (λ (frames : List FrameValue). IsReading bytes more before.opening (gone ++ frames) (Some fault)) (sym {A = List FrameValue} unread.2)
                (failed gone bytes _ more before fault at (unread.3 tells) unread.0)
            | inr it ↦
                stopped gone bytes it.piece more before c.take_from.new.out fault (subst (λ left. IsUnderway gone bytes left before) (it.given tells) at)
                (λ some. let most = c.wanted-most.ensures.heading some in omega (arith, it.few, most)) it.read.1
          ];
      size = tt;
      full = tt;
      reads = c.in-Err.ensures.reads;
      no_write = λ is.
          let same : fault ≡ WriteFault = cc in
          elim c.in-Err.ensures.err [
            | inl unread ↦ let no = sym unread.0 ∙ same in absurd cc
            | inr it ↦ absurd (own_written fault (taken_unread _ _ _ _ before.capture c.take_from.new.self before.piece c.take_from.new.out fault it) same)
          ];
    }

pub returns-clause-piece : goal.returns-clause-piece
returns-clause-piece g c =
    let before = c.args.progress.now in
    let it = c.in-Ok.ensures.ok.0 in
    let most = c.wanted-most.ensures.most c.requires.missing in record {
      missing = omega (arith, c.saturating_sub-progress.ensures);
      fewer = asked_once _ _ c.in-Ok.taken c.in-Ok.ensures.fewer;
      stays = λ opening there known.
          c.opening-progress.ensures ∙ stays_opened opening before.capture c.take_from.new.self it.piece before.piece c.take_from.new.out there it.read;
      told = c.in-Ok.ensures.told;
      read = λ gone bytes tells at. record {
        read = at.read ++ it.piece;
        front = at.front ∙ ap (λ left. at.read ++ left) (it.given tells) ∙ sym (append_assoc at.read it.piece (g.I.Intake.left c.take_from.new.intake));
        so_far = fed gone at.read it.piece before.capture c.take_from.new.self before.piece c.take_from.new.out at.so_far it.read;
        known = c.opening-progress.ensures;
        to_come = omega (arith, c.saturating_sub-progress.ensures, at.to_come, length-append at.read it.piece, c.in-Ok.ensures.ok.1);
      };
      size = λ tells. full_piece _ _ it.piece c.in-Ok.taken _ (leb-true 65536 c.in-Ok.taken, le-leb 65536 c.in-Ok.taken) (it.given tells) c.in-Ok.ensures.ok.1 (omega (arith, it.few, most));
      full = refl;
      reads = c.in-Ok.ensures.reads;
      no_write = λ is. absurd cc;
    }

pub returns-clause-end : goal.returns-clause-end
returns-clause-end g c = λ tells is. c.in-Ok.ensures.end tells (ap Ok (let none : c.in-Ok.taken ≡ 0 = cc in none)) c.wanted-most.ensures.some

pub returns-clause-still : goal.returns-clause-still
returns-clause-still g c = λ is gone bytes more at.
    let it = c.in-Ok.ensures.ok.0 in
    let none : c.in-Ok.taken ≡ 0 = cc in
    c.opening-progress.ensures
    ∙ still gone bytes more it.piece c.args.progress.now c.take_from.new.self c.take_from.new.out (c.in-Ok.ensures.ok.1 ∙ none) it.read at
