-- What a device counts that was asked.
use Rattle.std.proofs.Common.{◌≡◌, ℕ, ◌≤◌, ◌↔◌, Bool, Result, Ok, Err, refl, subst, inl, inr, is_err, if◌then◌else◌, arith}
use Rattle.pcap_capture.specs.Counts.{IsOfReads, is_failed, next_count}
use Rattle.pcap_capture.specs.declared.device.DeviceFault.{DeviceFault}
use Rattle.pcap_capture.specs.declared.device.DeviceFault.TheVariants.{Failed, Spent}

-- by what it answered
pub answer_reads : {T : Type 0} (answer : Result T DeviceFault) (failed now before calls : ℕ) → now ≡ (if is_failed answer then next_count failed else failed)
    → (answer ≡ Err Spent) ↔ (before ≡ 0) → calls ≤ before → IsOfReads (is_err answer) failed now calls
answer_reads (Ok taken) failed now before calls is spent most = is
answer_reads (Err Failed) failed now before calls is spent most = inl is
answer_reads (Err Spent) failed now before calls is spent most = inr (is, let none = spent.0 refl in omega (arith, most, none))

-- and from a count that stayed so far
pub reads_from : (unread : Bool) (before failed now calls : ℕ) → before ≡ failed → IsOfReads unread before now calls → IsOfReads unread failed now calls
reads_from unread before failed now calls same reads = subst (λ count. IsOfReads unread count now calls) same reads
