-- The heading of a capture, and what comes behind it.
use Rattle.std.proofs.Common.{◌≡◌, ℕ, ◌%◌, ◌<◌, ◌≤◌, cond, List, ◌++◌, length, Option, None, Some, Result, Ok, Err, append-nil, length-append, refl, sym, ◌∙◌, ap, inl, inr, arith}
use Rattle.std.proofs.lemmas.Bool.{cases_lt}
use Rattle.std.proofs.lemmas.List.{take-append-le}
use Rattle.byteorder.specs.Numbers.{big_from-append, little_from-append}
use Rattle.pcap_capture.specs.Frames.{FrameValue}
use Rattle.pcap_capture.specs.Grammar.{Reading, Stops, after_heading, after_magic, capture, has_version, heading_of, link_number, link_of, linked, magic_of, prepend, stopped, versioned, waiting}
use Rattle.pcap_capture.specs.declared.fault.PcapFault.{PcapFault}
use Rattle.pcap_capture.specs.declared.fault.PcapFault.TheVariants as pcaps
use Rattle.pcap_capture.specs.declared.fault.PcapFault.TheVariants.{BadVersion}
use Rattle.pcap_capture.specs.declared.heading.Endianness.{Endianness}
use Rattle.pcap_capture.specs.declared.heading.Heading.{Heading}
use Rattle.pcap_capture.specs.declared.heading.LinkType.{LinkType}
use Rattle.pcap_capture.specs.declared.heading.TimeUnit.{TimeUnit}
use Rattle.pcap_capture.specs.declared.stage.Stage.{Stage}
use Rattle.pcap_capture.proofs.GrammarLaws.{is_less, is_not_less, number-append_at}

-- a reading that waits for more, with all its frames
pub kept_waiting : (stage : Stage) (bytes : List ℕ) (frames : List FrameValue) (read wanted : Reading)
    → read ≡ waiting stage bytes → prepend frames read ≡ wanted
    → record { frames = frames; fault = None; state = record { stage = stage; rest = bytes } } ≡ wanted
kept_waiting stage bytes frames read wanted w e =
    sym (ap (prepend frames) w ∙ ap (λ (all : List FrameValue). record (waiting stage bytes) { frames = all }) (append-nil frames)) ∙ e

-- a fault stops the reading, with all its frames
pub kept_stopped : (fault : PcapFault) (frames : List FrameValue) (read : Reading) → read ≡ stopped fault → Stops (prepend frames read) frames fault
kept_stopped fault frames read e =
    inl (sym (ap (prepend frames) e ∙ ap (λ (all : List FrameValue). record (stopped fault) { frames = all }) (append-nil frames)))

abbrev heading_ok : Heading → Result Heading PcapFault
heading_ok heading = Ok heading

abbrev heading_err : PcapFault → Result Heading PcapFault
heading_err fault = Err fault

magic-append : (xs ys : List ℕ) → 4 ≤ length xs → magic_of (xs ++ ys) ≡ magic_of xs
unfolding magic_of
magic-append xs ys h =
    let big = big_from-append 4 xs ys h in
    let little = little_from-append 4 xs ys h in
    rw (big, little) refl

link-append : (order : Endianness) (xs ys : List ℕ) → 24 ≤ length xs → link_number order (xs ++ ys) ≡ link_number order xs
link-append order xs ys h = ap (λ n. n % 65536) (number-append_at order 4 20 xs ys (omega arith))

linked-append : (order : Endianness) (unit : TimeUnit) (link : Option LinkType) (xs ys : List ℕ) → 24 ≤ length xs → linked order unit (xs ++ ys) link ≡ linked order unit xs link
linked-append order unit None xs ys h = ap (λ n. heading_err (pcaps.LinkType n)) (link-append order xs ys h)
linked-append order unit (Some link) xs ys h =
    ap (λ (front : List ℕ). heading_ok (record { bytes = front; order = order; unit = unit; link = link })) (take-append-le 24 xs ys h)

version-append : (order : Endianness) (xs ys : List ℕ) → 24 ≤ length xs → has_version order (xs ++ ys) ≡ has_version order xs
version-append order xs ys h =
    let major = number-append_at order 2 4 xs ys (omega arith) in
    let minor = number-append_at order 2 6 xs ys (omega arith) in
    rw (major, minor) refl

versioned-append : (order : Endianness) (unit : TimeUnit) (xs ys : List ℕ) → 24 ≤ length xs → versioned order unit (xs ++ ys) ≡ versioned order unit xs
versioned-append order unit xs ys h =
    ap (λ b. cond b (linked order unit (xs ++ ys) (link_of (link_number order (xs ++ ys)))) (heading_err BadVersion)) (version-append order xs ys h)
    ∙ ap (λ n. cond (has_version order xs) (linked order unit (xs ++ ys) (link_of n)) (heading_err BadVersion)) (link-append order xs ys h)
    ∙ ap (λ r. cond (has_version order xs) r (heading_err BadVersion)) (linked-append order unit (link_of (link_number order xs)) xs ys h)

magic_stays : (magic : Option (Endianness × TimeUnit)) (r : Result Heading PcapFault) (xs ys : List ℕ) → 4 ≤ length xs
    → after_magic xs magic ≡ Some r → after_magic (xs ++ ys) magic ≡ Some r
magic_stays None r xs ys h e = rw (big_from-append 4 xs ys h) e
magic_stays (Some magic) r xs ys h e = elim (cases_lt (length xs) 24) [
  | inl short ↦ let none : after_magic xs (Some magic) ≡ None = rw (is_less (length xs) 24 short) refl in cc
  | inr long ↦
      let was : after_magic xs (Some magic) ≡ Some (versioned magic.0 magic.1 xs) = rw (is_not_less (length xs) 24 long) refl in
      let is : after_magic (xs ++ ys) (Some magic) ≡ Some (versioned magic.0 magic.1 (xs ++ ys)) =
      rw (is_not_less (length (xs ++ ys)) 24 (omega (arith, length-append xs ys))) refl in
      is ∙ ap Some (versioned-append magic.0 magic.1 xs ys long) ∙ sym was ∙ e
]

heading_short : (bytes : List ℕ) → length bytes < 4 → heading_of bytes ≡ None
unfolding heading_of
heading_short bytes h = rw (is_less (length bytes) 4 h) refl

heading_long : (bytes : List ℕ) → 4 ≤ length bytes → heading_of bytes ≡ after_magic bytes (magic_of bytes)
unfolding heading_of
heading_long bytes h = rw (is_not_less (length bytes) 4 h) refl

-- what is said of a heading stays when bytes come behind it
pub heading-append : (xs ys : List ℕ) (r : Result Heading PcapFault) → heading_of xs ≡ Some r → heading_of (xs ++ ys) ≡ Some r
heading-append xs ys r h = elim (cases_lt (length xs) 4) [
  | inl short ↦ let none = heading_short xs short in cc
  | inr long ↦
      heading_long (xs ++ ys) (omega (arith, length-append xs ys)) ∙ ap (after_magic (xs ++ ys)) (magic-append xs ys long)
      ∙ magic_stays (magic_of xs) r xs ys long (sym (heading_long xs long) ∙ h)
]

magic_waits : (magic : Option (Endianness × TimeUnit)) (bytes : List ℕ) → 24 ≤ length bytes → after_magic bytes magic ≡ None → ⊥
magic_waits None bytes h e = cc
magic_waits (Some magic) bytes h e =
    let some : after_magic bytes (Some magic) ≡ Some (versioned magic.0 magic.1 bytes) = rw (is_not_less (length bytes) 24 h) refl in
    cc

-- a heading of which more is to come is not there whole
pub heading_waits : (bytes : List ℕ) → heading_of bytes ≡ None → length bytes < 24
heading_waits bytes h = elim (cases_lt (length bytes) 24) [
  | inl short ↦ short
  | inr long ↦ absurd (magic_waits (magic_of bytes) bytes long (sym (heading_long bytes (omega arith)) ∙ h))
]

magic_read : (magic : Option (Endianness × TimeUnit)) (bytes : List ℕ) (heading : Heading) → after_magic bytes magic ≡ Some (Ok heading) → 24 ≤ length bytes
magic_read None bytes heading e = cc
magic_read (Some magic) bytes heading e = elim (cases_lt (length bytes) 24) [
  | inl short ↦ let none : after_magic bytes (Some magic) ≡ None = rw (is_less (length bytes) 24 short) refl in cc
  | inr long ↦ long
]

-- a heading that is read is there whole
pub heading_read : (bytes : List ℕ) (heading : Heading) → heading_of bytes ≡ Some (Ok heading) → 24 ≤ length bytes
heading_read bytes heading h = elim (cases_lt (length bytes) 4) [
  | inl short ↦ let none = heading_short bytes short in cc
  | inr long ↦ magic_read (magic_of bytes) bytes heading (sym (heading_long bytes long) ∙ h)
]

-- a capture, by what stands at its front
pub capture_by : (bytes : List ℕ) (read : Option (Result Heading PcapFault)) → read ≡ heading_of bytes → capture bytes ≡ after_heading bytes read
unfolding capture
capture_by bytes read h = ap (after_heading bytes) (sym h)
