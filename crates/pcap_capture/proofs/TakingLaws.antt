-- What a piece that was taken from a device makes of a capture.
use Rattle.std.proofs.Common.{◌≡◌, ℕ, ◌≤◌, List, [], ◌++◌, length, true, Option, Some, refl, subst, sym, ap, ◌∙◌, arith}
use Rattle.pcap_capture.specs.Frames.{FrameValue}
use Rattle.pcap_capture.specs.Grammar.{CaptureState, IsSettled, Reading, broken, prepend, read_on, reading}
use Rattle.pcap_capture.specs.Takings.{IsRead, IsTaken, is_own}
use Rattle.pcap_capture.specs.declared.fault.PcapFault.{PcapFault}
use Rattle.pcap_capture.specs.declared.fault.PcapFault.TheVariants.{Failed}
use Rattle.pcap_capture.specs.declared.stage.Stage.{Stage}
use Rattle.pcap_capture.specs.declared.stage.Stage.TheVariants.{Opening, Records, Broken}
use Rattle.pcap_capture.proofs.CutLaws.{so_far}
use Rattle.pcap_capture.proofs.HeadingLaws.{kept_stopped}
use Rattle.pcap_capture.proofs.OwnLaws.{stops_own}

-- a piece that was read, and so what is read of the bytes up to its end
taken : (tells : Type 0) (most : ℕ) (left more piece : List ℕ) (old new : CaptureState) (there frames : List FrameValue) (fault : Option PcapFault) → length piece ≤ most
    → (tells → left ≡ piece ++ more) → IsRead (prepend there (reading old piece)) new frames fault → IsTaken tells most left more old new there frames fault
taken tells most left more piece old new there frames fault few given read = record {
  piece = piece;
  few = few;
  given = given;
  read = read;
  so_far = λ bytes before at. subst (λ (r : Reading). IsRead r new frames fault) (sym (so_far bytes piece before there old at)) read;
}

-- the same by what was read behind what was left over
pub gone_on : (tells : Type 0) (most : ℕ) (left more piece rest text : List ℕ) (stage : Stage) (old new : CaptureState) (there frames : List FrameValue) (fault : Option PcapFault)
    → record { stage = stage; rest = rest } ≡ old → text ≡ rest ++ piece → length piece ≤ most → (tells → left ≡ piece ++ more) → IsRead (prepend there (read_on stage text)) new frames fault
    → (it : IsTaken tells most left more old new there frames fault) × (it.piece ≡ piece)
unfolding taken
gone_on tells most left more piece rest text stage old new there frames fault was behind few given read = (
  taken tells most left more piece old new there frames fault few given
      (subst (λ (s : CaptureState). IsRead (prepend there (reading s piece)) new frames fault) was
      (subst (λ (t : List ℕ). IsRead (prepend there (read_on stage t)) new frames fault) behind read)),
  refl,
)

-- and of how many bytes the piece is
pub gone_on_by : (tells : Type 0) (most taken : ℕ) (left more piece rest text : List ℕ) (stage : Stage) (old new : CaptureState) (there frames : List FrameValue) (fault : Option PcapFault)
    → record { stage = stage; rest = rest } ≡ old → text ≡ rest ++ piece → length piece ≡ taken → taken ≤ most → (tells → left ≡ piece ++ more)
    → IsRead (prepend there (read_on stage text)) new frames fault → (it : IsTaken tells most left more old new there frames fault) × (length it.piece ≡ taken)
gone_on_by tells most taken left more piece rest text stage old new there frames fault was behind count few given read =
    let it = gone_on tells most left more piece rest text stage old new there frames fault was behind (omega (arith, count, few)) given read in
    (it.0, ap length it.1 ∙ count)

-- no device is told to have failed by a fault that stands in a piece
pub taken_unread : (tells : Type 0) (most : ℕ) (left more : List ℕ) (old new : CaptureState) (there frames : List FrameValue) (fault : PcapFault)
    → IsTaken tells most left more old new there frames (Some fault) → is_own fault ≡ true
taken_unread tells most left more old new there frames fault it = stops_own old it.piece there frames fault it.read.1

broken_at : (stage : Stage) (rest : List ℕ) → IsSettled stage rest → stage ≡ Broken → record { stage = stage; rest = rest } ≡ broken
broken_at Opening rest settled is = absurd cc
broken_at (Records heading) rest settled is = absurd cc
broken_at Broken rest settled is = ap (λ (r : List ℕ). record { stage = Broken; rest = r }) settled

-- no piece is taken for a capture in which a fault was found
pub failed_again : (tells : Type 0) (most : ℕ) (left : List ℕ) (state : CaptureState) (there : List FrameValue) → IsSettled state.stage state.rest → state.stage ≡ Broken
    → IsTaken tells most left left state state there there (Some Failed)
failed_again tells most left state there settled is =
    taken tells most left left [] state state there there (Some Failed) (omega arith) (λ _. refl)
    (broken_at state.stage state.rest settled is, kept_stopped Failed there (reading state []) (ap (λ s. read_on s (state.rest ++ [])) is))
