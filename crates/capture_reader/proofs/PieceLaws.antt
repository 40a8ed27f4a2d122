-- What reading a piece comes to.
use Rattle.std.proofs.Common.{◌≡◌, ℕ, Bool, true, List, [], Result, Ok, Err, IfErr, OnOk, subst, ◌∙◌, arith}
use Rattle.pcap_capture.specs.Frames.{FrameValue}
use Rattle.pcap_capture.specs.Takings.{is_own}
use Rattle.pcap_capture.specs.declared.fault.PcapFault.{PcapFault}
use Rattle.capture_reader.specs.Readings.{IsPieceOf, IsPieceRead, IsReadOn, IsUnderway}
use Rattle.capture_reader.specs.declared.reading.Progress.{Progress}
use Rattle.capture_reader.proofs.ReadFaultLaws.{ended_reads, own_unwritten}

all_ok : {T E : Type 0} (result : Result T E) (P : Type 0) → P → OnOk result P
all_ok (Ok value) P p = p
all_ok (Err fault) P p = tt

-- where reading failed, nothing is said of a piece
pub piece_failed : {A : Type 0} (tells : A → Type 0) (left : A → List ℕ) (calls failed : A → ℕ) (old new : A) (before after : Progress) (fault : PcapFault) (some other : Bool)
    → IsPieceRead tells left calls failed old new before after (Err fault) some → IsPieceRead tells left calls failed old new before after (Err fault) other
piece_failed tells left calls failed old new before after fault some other piece = record {
  missing = piece.missing;
  fewer = tt;
  stays = piece.stays;
  told = piece.told;
  read = piece.read;
  size = tt;
  full = tt;
  reads = piece.reads;
  no_write = piece.no_write;
}

-- behind a piece of no byte, where no byte is left, the capture ended
pub piece_ended : {A : Type 0} (tells : A → Type 0) (left : A → List ℕ) (calls failed : A → ℕ) (old new : A) (before there after : Progress) (result : Result Bool PcapFault) (is_full : Bool)
    → IsPieceRead tells left calls failed old new before there (Ok true) there.is_full → (tells old → left new ≡ [])
    → ((gone : List FrameValue) (bytes : List ℕ) → IsUnderway gone bytes [] there → IsReadOn gone bytes [] after result)
    → after.missing ≡ there.missing → after.opening ≡ there.opening → after.is_full ≡ there.is_full → IfErr result (λ fault. is_own fault ≡ true)
    → there.is_full ≡ is_full → IsPieceRead tells left calls failed old new before after result is_full
piece_ended tells left calls failed old new before there after result is_full piece over read missing opening full fault is = record {
  missing = let n = piece.missing in omega (arith, n, missing);
  fewer = all_ok result _ piece.fewer;
  stays = λ known records headed. opening ∙ piece.stays known records headed;
  told = piece.told;
  read = λ gone bytes given at. rw (over given) (read gone bytes (rw (over given) at (piece.read gone bytes given at)));
  size = all_ok result _ (subst (λ full. tells old → IsPieceOf (left old) (left new) full) is piece.size);
  full = all_ok result _ (full ∙ is);
  reads = ended_reads result _ _ _ fault piece.reads;
  no_write = own_unwritten result fault;
}
