-- What reading records comes to, in the words of the functions that do it.
use Rattle.std.proofs.Common.{◌≡◌, ℕ, ◌+◌, ◌-◌, ◌≤◌, List, [], ◌∷◌, ◌++◌, length, drop, Result, Ok, Err, append_assoc, append-nil, length-drop, refl, sym, ◌∙◌, ap, inl, arith}
use Rattle.std.specs.List.{slice_range}
use Rattle.std.proofs.lemmas.List.{length-take}
use Rattle.std.proofs.lemmas.List.Folds.{drop_split}
use Rattle.std.proofs.Math.Seq.{drop-length}
use Rattle.pcap_capture.specs.Frames.{FrameValue, frame_at}
use Rattle.pcap_capture.specs.Grammar.{Reading, Stops, captured, frame_of, place_of, prepend, record_size, records, stopped}
use Rattle.pcap_capture.specs.declared.fault.PcapFault.{PcapFault}
use Rattle.pcap_capture.specs.declared.heading.Heading.{Heading}
use Rattle.pcap_capture.specs.Pieces.{AreCut, IsPlaced, frames_between}
use Rattle.pcap_capture.specs.declared.content.Place.{Place}
use Rattle.pcap_capture.specs.declared.entry.Entry.{Entry}
use Rattle.pcap_capture.proofs.GrammarLaws.{number-append, number-append_at, records_whole, size_captured, size_least, size_most, size_stops, size_take}
use Rattle.pcap_capture.proofs.PieceLaws.{cut_push, frames_push}

abbrev size_ok : ℕ → Result ℕ PcapFault
size_ok size = Ok size

-- a record that is too long stops the reading, with all frames before it
pub stops_long : (heading : Heading) (bytes : List ℕ) (frames : List FrameValue) (fault : PcapFault) (wanted : Reading)
    → Err fault ≡ record_size heading bytes → prepend frames (records heading bytes) ≡ wanted → Stops wanted frames fault
stops_long heading bytes frames fault wanted h e =
    inl (sym (sym e ∙ ap (prepend frames) (size_stops heading bytes fault (sym h)) ∙ ap (λ (all : List FrameValue). record (stopped fault) { frames = all }) (append-nil frames)))

-- a record alone has the size that was read off the text from its start on
own_size : (heading : Heading) (text : List ℕ) (start size : ℕ) → Ok size ≡ record_size heading (drop start text) → start + size ≤ length text
    → record_size heading (slice_range text start (start + size)) ≡ Ok (length (slice_range text start (start + size)))
own_size heading text start size h within =
    let count : length (slice_range text start (start + size)) ≡ size = length-take (start + size - start) (drop start text) ∙ omega (arith, length-drop start text) in
    size_take heading (slice_range text start (start + size)) (drop (start + size) text)
    (ap (record_size heading) (sym (drop_split text start (start + size) (omega arith))) ∙ sym h ∙ ap size_ok (sym count))

-- a record alone is a frame whose place was read off the text
frame_alone : (heading : Heading) (own more : List ℕ) → record_size heading own ≡ Ok (length own) → frame_of heading own ≡ frame_at own (place_of heading (own ++ more) (length own))
frame_alone heading own more h =
    let size : 16 + captured heading own ≡ length own = size_captured heading own h in
    let seconds = number-append heading.order 4 own more (omega arith) in
    let fraction = number-append_at heading.order 4 4 own more (omega arith) in
    let count : length own - 16 ≡ captured heading own = omega (arith, size) in
    let none : drop (16 + captured heading own) own ≡ [] = ap (λ n. drop n own) size ∙ drop-length own in
    rw (seconds, fraction, count, none) refl

-- its frame goes before those of what is behind it
frame_taken : (heading : Heading) (text : List ℕ) (start size : ℕ) (frames : List FrameValue) (wanted : Reading)
    → Ok size ≡ record_size heading (drop start text) → start + size ≤ length text → prepend frames (records heading (drop start text)) ≡ wanted
    → prepend (frames ++ frame_at (slice_range text start (start + size)) (place_of heading (drop start text) size) ∷ []) (records heading (drop (start + size) text)) ≡ wanted
frame_taken heading text start size frames wanted h within e =
    let end = start + size in
    let own = slice_range text start end in
    let count : length own ≡ size = length-take (end - start) (drop start text) ∙ omega (arith, length-drop start text) in
    let alone = own_size heading text start size h within in
    let split = drop_split text start end (omega arith) in
    let whole = ap (records heading) split ∙ records_whole heading own (drop end text) alone in
    let made : frame_of heading own ≡ frame_at own (place_of heading (drop start text) size) =
    frame_alone heading own (drop end text) alone ∙ ap (λ bytes. frame_at own (place_of heading bytes (length own))) (sym split)
    ∙ ap (λ n. frame_at own (place_of heading (drop start text) n)) count in
    ap (λ (f : FrameValue). prepend (frames ++ f ∷ []) (records heading (drop end text))) (sym made)
    ∙ ap (λ (all : List FrameValue). record (records heading (drop end text)) { frames = all }) (append_assoc frames (frame_of heading own ∷ []) (records heading (drop end text)).frames)
    ∙ sym (ap (prepend frames) whole) ∙ e

-- where the packet of a record may stand
placed : (heading : Heading) (bytes : List ℕ) (size room : ℕ) (place : Place) → place ≡ place_of heading bytes size → 16 ≤ size → size ≤ room → room ≤ 16777216 → IsPlaced place room
placed heading bytes size room place is least within most =
    let front : place.front ≡ 16 = ap (λ (p : Place). p.front) is in
    let count : place.size ≡ size - 16 = ap (λ (p : Place). p.size) is in
    (omega (arith, front), omega (arith, front, count, least, within), most)

-- a record that is there whole is added to those before it
pub pushed : (heading : Heading) (text : List ℕ) (entries : List Entry) (end size : ℕ) (wanted : Reading) → AreCut text 0 entries end
    → Ok size ≡ record_size heading (drop end text) → end + size ≤ length text
    → prepend (frames_between text 0 entries) (records heading (drop end text)) ≡ wanted
    → (entry : Entry) → entry.end ≡ end + size → entry.place ≡ place_of heading (drop end text) size
    → AreCut text 0 (entries ++ entry ∷ []) entry.end × (prepend (frames_between text 0 (entries ++ entry ∷ [])) (records heading (drop entry.end text)) ≡ wanted)
pushed heading text entries end size wanted cut h within same entry ends place =
    let least = size_least heading (drop end text) size (sym h) in
    let most = size_most heading (drop end text) size (sym h) in (
      cut_push text 0 entries end entry cut (omega (arith, ends, within)) (placed heading (drop end text) size (entry.end - end) entry.place place least (omega (arith, ends)) (omega (arith, ends, most))),
      ap (λ (all : List FrameValue). prepend all (records heading (drop entry.end text)))
          (frames_push text 0 entries end entry cut
          ∙ ap (λ (p : Place). frames_between text 0 entries ++ frame_at (slice_range text end entry.end) p ∷ []) place)
          ∙ ap (λ it. prepend (frames_between text 0 entries ++ frame_at (slice_range text end it) (place_of heading (drop end text) size) ∷ []) (records heading (drop it text))) ends
          ∙ frame_taken heading text end size (frames_between text 0 entries) wanted h within same,
    )
