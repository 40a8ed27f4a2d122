-- What a piece that was taken from a device makes of a capture.
use Rattle.std.proofs.Common.{◌≡◌, ℕ, ◌≤◌, Bool, false, List, [], ◌++◌, length, Option, Some, refl, subst, sym, ap, ◌∙◌, arith}
use Rattle.pcap_capture.specs.Frames.{FrameValue}
use Rattle.pcapng_capture.specs.Grammar.{CaptureState, Reading, blocks, broken, prepend, reading}
use Rattle.pcapng_capture.specs.Packets.{SectionValue}
use Rattle.pcapng_capture.specs.Readings.{IsRead, IsTaken}
use Rattle.pcap_capture.specs.declared.fault.PcapFault.{PcapFault}
use Rattle.pcap_capture.specs.declared.fault.PcapFault.TheVariants.{Failed, NoMemory}
use Rattle.pcapng_capture.proofs.CutLaws.{so_far}
use Rattle.pcapng_capture.proofs.ReadingLaws.{kept_stopped, starved}

-- a piece that was read, and so what is read of the bytes up to its end
taken : (tells : Type 0) (most : ℕ) (left more piece : List ℕ) (old new : CaptureState) (there now : List FrameValue) (fault : Option PcapFault) → length piece ≤ most
    → (tells → left ≡ piece ++ more) → IsRead (prepend there (reading old piece)) new now fault → IsTaken tells most left more old new there now fault
taken tells most left more piece old new there now fault few given read = record {
  piece = piece;
  few = few;
  given = given;
  read = read;
  so_far = λ bytes before at. subst (λ (r : Reading). IsRead r new now fault) (sym (so_far bytes piece before there old at)) read;
}

-- the same by what was read behind what was left over
pub gone_on : (tells : Type 0) (most count : ℕ) (left more piece rest text : List ℕ) (section : SectionValue) (is_broken : Bool) (old new : CaptureState) (there now : List FrameValue) (fault : Option PcapFault)
    → record { section = section; rest = rest; is_broken = is_broken } ≡ old → old.is_broken ≡ false → text ≡ rest ++ piece → length piece ≡ count → count ≤ most → (tells → left ≡ piece ++ more)
    → IsRead (prepend there (blocks section text)) new now fault → (it : IsTaken tells most left more old new there now fault) × (length it.piece ≡ count)
unfolding taken
gone_on tells most count left more piece rest text section is_broken old new there now fault was whole behind counted few given read =
    let unbroken : is_broken ≡ false = ap (λ (s : CaptureState). s.is_broken) was ∙ whole in
    let is : record { section = section; rest = rest; is_broken = false } ≡ old = sym (ap (λ b. record { section = section; rest = rest; is_broken = b }) unbroken) ∙ was in (
      taken tells most left more piece old new there now fault (omega (arith, counted, few)) given
          (subst (λ (s : CaptureState). IsRead (prepend there (reading s piece)) new now fault) is
          (subst (λ (t : List ℕ). IsRead (prepend there (blocks section t)) new now fault) behind read)),
      counted,
    )

-- no piece is taken for a capture in which a fault was found
pub failed_again : (tells : Type 0) (most : ℕ) (left : List ℕ) (state : CaptureState) (there : List FrameValue) → state ≡ broken
    → IsTaken tells most left left state state there there (Some Failed)
failed_again tells most left state there is =
    taken tells most left left [] state state there there (Some Failed) (omega arith) (λ _. refl)
    (is, kept_stopped Failed there (reading state []) (prepend there (reading state [])) (ap (λ (s : CaptureState). reading s []) is) refl)

-- nothing is taken where there is no memory for it
pub starved_first : (tells : Type 0) (most : ℕ) (left : List ℕ) (state now : CaptureState) (there : List FrameValue) → now ≡ broken
    → IsTaken tells most left left state now there there (Some NoMemory)
starved_first tells most left state now there is =
    taken tells most left left [] state now there there (Some NoMemory) (omega arith) (λ _. refl)
    (is, starved NoMemory there (reading state []) (prepend there (reading state [])) refl refl)
