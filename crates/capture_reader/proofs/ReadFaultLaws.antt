-- How a reading ended, and what the device that gave the bytes counted.
use Rattle.std.proofs.Common.{◌≡◌, ◌⊎◌, ℕ, true, false, Result, Ok, Err, IfErr, IsErr, inl, inr, sym, ap, subst, ◌∙◌, OnOk}
use Rattle.pcap_capture.specs.Counts.{IsOfReads}
use Rattle.pcap_capture.specs.declared.fault.PcapFault.{PcapFault}
use Rattle.pcap_capture.specs.declared.fault.PcapFault.TheVariants.{WriteFault}
use Rattle.pcap_capture.proofs.OwnLaws.{own_unread}
use Rattle.pcap_capture.specs.Takings.{is_own, is_read_fault}

abbrev gave : ℕ → Result ℕ PcapFault
gave taken = Ok taken

-- a device that gave a piece was asked
pub asked_once : (P Q : Type 0) (taken : ℕ) → P ⊎ (IsErr (gave taken) × Q) → P
asked_once P Q taken (inl once) = once
asked_once P Q taken (inr unasked) = let no : false ≡ true = unasked.0 in absurd cc

-- a fault of a capture is none of the device that takes bytes
pub own_written : (fault : PcapFault) → is_own fault ≡ true → ¬ (fault ≡ WriteFault)
own_written fault own is = let no : false ≡ true = sym (ap is_own is) ∙ own in cc

-- a reading that ended, by itself or by a fault of the capture
pub ended_reads : {T : Type 0} (result : Result T PcapFault) (failed now calls : ℕ) → IfErr result (λ fault. is_own fault ≡ true) → now ≡ failed
    → IsOfReads (is_read_fault result) failed now calls
ended_reads (Ok value) failed now calls own is = is
ended_reads (Err fault) failed now calls own is = subst (λ unread. IsOfReads unread failed now calls) (sym (own_unread fault own)) is

pub own_unwritten : {T : Type 0} (result : Result T PcapFault) → IfErr result (λ fault. is_own fault ≡ true) → ¬ (result ≡ Err WriteFault)
own_unwritten (Ok value) own is = cc
own_unwritten (Err fault) own is = own_written fault own cc

-- what is known of a reading that came to something, where more follows from it
pub on_ok : {T E : Type 0} (result : Result T E) (P Q : Type 0) → (P → Q) → OnOk result P → OnOk result Q
on_ok (Ok value) P Q from p = from p
on_ok (Err fault) P Q from p = tt
