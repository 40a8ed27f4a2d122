-- A record behind what stands in a text, whose packet is marked there.
use Rattle.std.proofs.Common.{◌≡◌, ℕ, ◌+◌, ◌-◌, ◌≤◌, Bool, true, false, nat_eq, List, ◌++◌, length, take, drop, refl, ap, sym, ◌∙◌, append_assoc, length-append, length-drop, arith, take_at, drop_at}
use Rattle.std.specs.List.{slice_range}
use Rattle.std.proofs.lemmas.List.{length-take-le}
use Rattle.pcap_capture.specs.Frames.{FrameValue}
use Rattle.pcap_capture.specs.declared.content.Content.{Content}
use Rattle.pcap_capture.specs.declared.content.Content.TheVariants.{Other, Record, Block}
use Rattle.pcap_capture.specs.declared.heading.Endianness.{Endianness}
use Rattle.pcap_capture.specs.declared.heading.Endianness.TheVariants.{Big, Little}
use Rattle.pcapng_capture.specs.Marks.{hash_size, hashless_size, marked_by, marked_in, marked_text, number_bytes, packet_options, padding}
use Rattle.pcapng_capture.specs.Options.{hashless}

-- what stands before and behind the packet of a record whose packet is marked
pub record AreParts (f : FrameValue) (head tail : List ℕ) : Type 0 where
  pub long : length head ≡ length f.head
  pub text : (bytes : List ℕ) → marked_text f bytes ≡ head ++ (bytes ++ tail)

four_long : (order : Endianness) (value : ℕ) → length (number_bytes order 4 value) ≡ 4
four_long Big value = refl
four_long Little value = refl

pub parts_of : (f : FrameValue) → 12 ≤ length f.head → (head : List ℕ) × (tail : List ℕ) × AreParts f head tail
unfolding marked_text
parts_of f long = by_content f.content refl
  where
    by_hash : (order : Endianness) (none : Bool) → nat_eq (hash_size order f) 0 ≡ none
        → (head : List ℕ) × (tail : List ℕ) × (length head ≡ length f.head) × ((bytes : List ℕ) → marked_by order f bytes ≡ head ++ (bytes ++ tail))
    by_hash order true is = (f.head, f.tail, refl, λ bytes. rw is refl)
    by_hash order false is =
        let size = number_bytes order 4 (hashless_size order f) in
        let four = four_long order (hashless_size order f) in (
          take 4 f.head ++ (size ++ drop 8 f.head),
          take (padding f) f.tail ++ (hashless order (packet_options f) ++ size),
          omega (arith, long, four, length-append (take 4 f.head) (size ++ drop 8 f.head), length-append size (drop 8 f.head), length-take-le 4 f.head (omega (arith, long)), length-drop 8 f.head),
          λ bytes. rw is refl,
        )

    by_content : (content : Content) → f.content ≡ content → (head : List ℕ) × (tail : List ℕ) × AreParts f head tail
    by_content Other is = (f.head, f.tail, record { long = refl; text = λ bytes. ap (λ c. marked_in c f bytes) is })
    by_content (Record link) is = (f.head, f.tail, record { long = refl; text = λ bytes. ap (λ c. marked_in c f bytes) is })
    by_content (Block link order) is =
        let parts = by_hash order (nat_eq (hash_size order f) 0) refl in
        (parts.0, parts.1, record { long = parts.2; text = λ bytes. ap (λ c. marked_in c f bytes) is ∙ parts.3 bytes })

-- behind what stood there, and what stands before the packet, stands the packet
module _ (out head bytes tail text : List ℕ) (start end : ℕ) (same : text ≡ out ++ (head ++ (bytes ++ tail))) (first : start ≡ length out + length head) (last : end ≡ start + length bytes) where
  whole : text ≡ (out ++ head) ++ (bytes ++ tail)
  whole = same ∙ sym (append_assoc out head (bytes ++ tail))

  front : length (out ++ head) ≡ start
  front = omega (arith, length-append out head, first)

  pub before : take start text ≡ out ++ head
  before = ap (take start) whole ∙ take_at (out ++ head) (bytes ++ tail) start front

  from : drop start text ≡ bytes ++ tail
  from = ap (drop start) whole ∙ drop_at (out ++ head) (bytes ++ tail) start front

  pub there : slice_range text start end ≡ bytes
  there = ap (take (end - start)) from ∙ take_at bytes tail (end - start) (omega (arith, last))

  behind_all : text ≡ ((out ++ head) ++ bytes) ++ tail
  behind_all = whole ∙ sym (append_assoc (out ++ head) bytes tail)

  pub behind : drop end text ≡ tail
  behind = ap (drop end) behind_all ∙ drop_at ((out ++ head) ++ bytes) tail end (omega (arith, length-append (out ++ head) bytes, front, last))

  pub within : end ≤ length text
  within = omega (arith, ap length behind_all, length-append ((out ++ head) ++ bytes) tail, length-append (out ++ head) bytes, front, last)
