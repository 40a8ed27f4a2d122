-- What reading blocks comes to, in the words of the functions that do it.
use Rattle.std.proofs.Common.{◌≡◌, ℕ, ◌+◌, ◌-◌, ◌≤◌, List, [], ◌∷◌, ◌++◌, length, take, drop, None, Ok, Err, append_assoc, append-nil, length-drop, refl, subst, sym, ◌∙◌, ap, ap₂, inl, inr, arith, false}
use Rattle.std.specs.List.{slice_range}
use Rattle.std.proofs.lemmas.List.{drop-drop, drop_at, length-take-le}
use Rattle.pcap_capture.specs.Frames.{FrameValue, frame_at}
use Rattle.pcapng_capture.specs.Grammar.{Partial, Bad, Whole, Reading, blocks, next_of, next_whole, prepend, size_of, step_of, stopped, waiting}
use Rattle.pcapng_capture.specs.Packets.{SectionValue, Step}
use Rattle.pcap_capture.specs.Pieces.{AreCut, IsPlaced, frames_between}
use Rattle.pcapng_capture.specs.Readings.{Stops}
use Rattle.pcap_capture.specs.declared.entry.Entry.{Entry}
use Rattle.pcap_capture.specs.declared.fault.PcapFault.{PcapFault}
use Rattle.pcap_capture.specs.declared.fault.PcapFault.TheVariants.{NoMemory}
use Rattle.pcap_capture.specs.declared.content.Place.{Place}
use Rattle.pcapng_capture.proofs.GrammarLaws.{blocks_by, next_by, next_there, size_least}
use Rattle.pcap_capture.proofs.PieceLaws.{frames-append, frames_here, frames_push, cut-append, cut_push}

-- a reading that waits for more, with all its blocks
pub kept_waiting : (section : SectionValue) (bytes : List ℕ) (there : List FrameValue) (wanted : Reading)
    → next_of section bytes ≡ Partial → prepend there (blocks section bytes) ≡ wanted
    → record { blocks = there; fault = None; state = record { section = section; rest = bytes; is_broken = false } } ≡ wanted
kept_waiting section bytes there wanted w e =
    sym (ap (prepend there) (blocks_by section bytes Partial w) ∙ ap (λ (all : List FrameValue). record (waiting section bytes) { blocks = all }) (append-nil there)) ∙ e

-- a fault stops the reading, with all its blocks
pub kept_stopped : (fault : PcapFault) (there : List FrameValue) (read wanted : Reading) → read ≡ stopped fault → prepend there read ≡ wanted → Stops wanted there fault
kept_stopped fault there read wanted e same =
    inl (sym (sym same ∙ ap (prepend there) e ∙ ap (λ (all : List FrameValue). record (stopped fault) { blocks = all }) (append-nil there)))

-- want of memory stops it too
pub starved : (fault : PcapFault) (there : List FrameValue) (read wanted : Reading) → fault ≡ NoMemory → prepend there read ≡ wanted → Stops wanted there fault
starved fault there read wanted h same = inr (h, (read.blocks, ap (λ (r : Reading). r.blocks) same))

module _ (text : List ℕ) (end : ℕ) (section : SectionValue) (there : List FrameValue) (wanted : Reading) (same : prepend there (blocks section (drop end text)) ≡ wanted) where
  -- by the size of the block at the front
  pub size_stops : (left : List ℕ) (fault : PcapFault) → left ≡ drop end text → Err fault ≡ size_of section left → Stops wanted there fault
  size_stops left fault is h =
      kept_stopped fault there (blocks section (drop end text)) wanted
      (blocks_by section (drop end text) (Bad fault) (next_by section (drop end text) (Err fault) (ap (size_of section) (sym is) ∙ sym h))) same

  -- by what that block is
  pub block_stops : (left own : List ℕ) (size : ℕ) (fault : PcapFault) → left ≡ drop end text → Ok size ≡ size_of section left → size ≤ length left → own ≡ take size left
      → step_of section own ≡ Err fault → Stops wanted there fault
  block_stops left own size fault is h room own_is bad =
      let made : next_of section (drop end text) ≡ Bad fault =
      ap (next_of section) (sym is) ∙ next_there section left size (sym h) room ∙ ap (next_whole (drop size left)) (ap (step_of section) (sym own_is) ∙ bad) in
      kept_stopped fault there (blocks section (drop end text)) wanted (blocks_by section (drop end text) (Bad fault) made) same

  -- a block goes before what is behind it
  pub block_taken : (left own : List ℕ) (size : ℕ) (step : Step) → left ≡ drop end text → Ok size ≡ size_of section left → size ≤ length left → own ≡ take size left
      → step_of section own ≡ Ok step → prepend (there ++ step.block ∷ []) (blocks step.section (drop (end + size) text)) ≡ wanted
  block_taken left own size step is h room own_is good =
      let made : next_of section (drop end text) ≡ Whole step (drop (end + size) text) =
      ap (next_of section) (sym is) ∙ next_there section left size (sym h) room ∙ ap (next_whole (drop size left)) (ap (step_of section) (sym own_is) ∙ good)
      ∙ ap (Whole step) (ap (drop size) is ∙ drop-drop size end text) in
      ap (λ (all : List FrameValue). record (blocks step.section (drop (end + size) text)) { blocks = all }) (append_assoc there (step.block ∷ []) (blocks step.section (drop (end + size) text)).blocks)
      ∙ sym (ap (prepend there) (blocks_by section (drop end text) (Whole step (drop (end + size) text)) made)) ∙ same

-- a block that is there whole is added to those before it
pub pushed : (text left own : List ℕ) (entries : List Entry) (end size : ℕ) (section new : SectionValue) (place : Place) (wanted : Reading) → AreCut text 0 entries end
    → prepend (frames_between text 0 entries) (blocks section (drop end text)) ≡ wanted
    → left ≡ drop end text → Ok size ≡ size_of section left → size ≤ length left → own ≡ take size left
    → step_of section own ≡ Ok (record { section = new; block = frame_at own place }) → IsPlaced place (length own) → end ≤ length text
    → (entry : Entry) → entry.end ≡ end + size → entry.place ≡ place
    → AreCut text 0 (entries ++ entry ∷ []) entry.end × (prepend (frames_between text 0 (entries ++ entry ∷ [])) (blocks new (drop entry.end text)) ≡ wanted)
pushed text left own entries end size section new place wanted cut same is h room own_is good stands within entry ends placed =
    let least = size_least section left size (sym h) in
    let count : length left ≡ length text - end = ap length is ∙ length-drop end text in
    let own_count : length own ≡ size = ap length own_is ∙ length-take-le size left room in
    let sized : entry.end - end ≡ length own = omega (arith, ends, own_count) in
    let in_place : IsPlaced entry.place (entry.end - end) = subst (λ (p : Place). IsPlaced p (entry.end - end)) (sym placed) (subst (λ n. IsPlaced place n) (sym sized) stands) in
    let own_range : slice_range text end entry.end ≡ own = ap (λ n. take (n - end) (drop end text)) ends ∙ ap (λ n. take n (drop end text)) (omega arith) ∙ ap (take size) (sym is) ∙ sym own_is in (
      cut_push text 0 entries end entry cut (omega (arith, ends, room, count, within)) in_place,
      ap (λ (all : List FrameValue). prepend all (blocks new (drop entry.end text)))
          (frames_push text 0 entries end entry cut
          ∙ ap₂ (λ (bytes : List ℕ) (p : Place). frames_between text 0 entries ++ frame_at bytes p ∷ []) own_range placed)
          ∙ ap (λ n. prepend (frames_between text 0 entries ++ frame_at own place ∷ []) (blocks new (drop n text))) ends
          ∙ block_taken text end section (frames_between text 0 entries) wanted same left own size (record { section = new; block = frame_at own place }) is h room own_is good,
    )

-- bytes behind the text of blocks
pub record IsBehind (text rest all : List ℕ) (entries : List Entry) (before : List FrameValue) (start : ℕ) : Type 0 where
  pub blocks_are : frames_between text 0 entries ≡ before
  pub cut : AreCut text 0 entries (length text)
  pub start_is : start ≡ length text
  pub all_is : all ≡ text ++ rest

pub cut_behind : (text rest all : List ℕ) (entries : List Entry) (before : List FrameValue) (start : ℕ) → IsBehind text rest all entries before start → AreCut all 0 entries start
cut_behind text rest all entries before start b =
    subst (λ bytes. AreCut bytes 0 entries start) (sym b.all_is)
    (subst (λ place. AreCut (text ++ rest) 0 entries place) (sym b.start_is) (cut-append text rest 0 entries (length text) b.cut))

-- are what comes next
wanted_behind : (section : SectionValue) (text rest all : List ℕ) (entries : List Entry) (before : List FrameValue) (start : ℕ) → IsBehind text rest all entries before start
    → prepend (frames_between all 0 entries) (blocks section (drop start all)) ≡ prepend before (blocks section rest)
wanted_behind section text rest all entries before start b =
    let there : frames_between all 0 entries ≡ before = ap (λ bytes. frames_between bytes 0 entries) b.all_is ∙ frames-append text rest 0 entries (length text) b.cut ∙ b.blocks_are in
    let left : drop start all ≡ rest = ap (drop start) b.all_is ∙ drop_at text rest start (sym b.start_is) in
    ap (λ (f : List FrameValue). prepend f (blocks section (drop start all))) there ∙ ap (λ bytes. prepend before (blocks section bytes)) left

-- all was read, up to what waits
pub read_behind : (section new : SectionValue) (text rest all kept : List ℕ) (entries now : List Entry) (before : List FrameValue) (start end : ℕ) → IsBehind text rest all entries before start
    → AreCut all 0 now end → kept ≡ drop end all → next_of new (drop end all) ≡ Partial
    → prepend (frames_between all 0 now) (blocks new (drop end all)) ≡ prepend (frames_between all 0 entries) (blocks section (drop start all))
    → record { blocks = frames_between (take end all) 0 now; fault = None; state = record { section = new; rest = kept; is_broken = false } } ≡ prepend before (blocks section rest)
read_behind section new text rest all kept entries now before start end b cut left waits same =
    ap (λ (f : List FrameValue). record { blocks = f; fault = None; state = record { section = new; rest = kept; is_broken = false } }) (frames_here all now end cut)
    ∙ ap (λ (bytes : List ℕ). record { blocks = frames_between all 0 now; fault = None; state = record { section = new; rest = bytes; is_broken = false } }) left
    ∙ kept_waiting new (drop end all) (frames_between all 0 now) _ waits
    (same ∙ wanted_behind section text rest all entries before start b)

-- a fault was found
pub stopped_behind : (section : SectionValue) (text rest all : List ℕ) (entries now : List Entry) (before : List FrameValue) (start end : ℕ) (fault : PcapFault)
    → IsBehind text rest all entries before start → AreCut all 0 now end
    → Stops (prepend (frames_between all 0 entries) (blocks section (drop start all))) (frames_between all 0 now) fault
    → Stops (prepend before (blocks section rest)) (frames_between (take end all) 0 now) fault
stopped_behind section text rest all entries now before start end fault b cut stops =
    subst (λ (r : Reading). Stops r (frames_between (take end all) 0 now) fault) (wanted_behind section text rest all entries before start b)
    (subst (λ (f : List FrameValue). Stops (prepend (frames_between all 0 entries) (blocks section (drop start all))) f fault) (sym (frames_here all now end cut)) stops)

-- or there was no memory to keep what is left
pub starved_behind : (section new : SectionValue) (text rest all : List ℕ) (entries now : List Entry) (before : List FrameValue) (start end : ℕ)
    → IsBehind text rest all entries before start → AreCut all 0 now end
    → prepend (frames_between all 0 now) (blocks new (drop end all)) ≡ prepend (frames_between all 0 entries) (blocks section (drop start all))
    → Stops (prepend before (blocks section rest)) (frames_between (take end all) 0 now) NoMemory
starved_behind section new text rest all entries now before start end b cut same =
    let read : frames_between (take end all) 0 now ++ (blocks new (drop end all)).blocks ≡ (prepend before (blocks section rest)).blocks =
    ap (λ (f : List FrameValue). f ++ (blocks new (drop end all)).blocks) (frames_here all now end cut)
    ∙ ap (λ (r : Reading). r.blocks) (same ∙ wanted_behind section text rest all entries before start b) in
    inr (refl, ((blocks new (drop end all)).blocks, read))
