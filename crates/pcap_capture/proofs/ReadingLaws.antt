-- What a piece comes to that goes on with more bytes, in the words of the function that does it.
use Rattle.std.proofs.Common.{◌≡◌, ℕ, List, ◌++◌, length, take, drop, None, refl, subst, sym, ◌∙◌, ap, inr}
use Rattle.std.proofs.lemmas.List.{drop_at}
use Rattle.pcap_capture.specs.Frames.{FrameValue}
use Rattle.pcap_capture.specs.Grammar.{Partial, Reading, Stops, next_of, prepend, records}
use Rattle.pcap_capture.specs.Pieces.{AreCut, frames_between}
use Rattle.pcap_capture.specs.declared.entry.Entry.{Entry}
use Rattle.pcap_capture.specs.declared.fault.PcapFault.{PcapFault}
use Rattle.pcap_capture.specs.declared.fault.PcapFault.TheVariants.{NoMemory}
use Rattle.pcap_capture.specs.declared.heading.Heading.{Heading}
use Rattle.pcap_capture.specs.declared.stage.Stage.TheVariants.{Records}
use Rattle.pcap_capture.proofs.GrammarLaws.{records_partial}
use Rattle.pcap_capture.proofs.HeadingLaws.{kept_waiting}
use Rattle.pcap_capture.proofs.PieceLaws.{cut-append, frames-append, frames_here}

-- bytes behind the text of records
pub record IsBehind (text rest all : List ℕ) (entries : List Entry) (before : List FrameValue) (start : ℕ) : Type 0 where
  pub frames : frames_between text 0 entries ≡ before
  pub cut : AreCut text 0 entries (length text)
  pub start_is : start ≡ length text
  pub all_is : all ≡ text ++ rest

pub cut_behind : (text rest all : List ℕ) (entries : List Entry) (before : List FrameValue) (start : ℕ) → IsBehind text rest all entries before start → AreCut all 0 entries start
cut_behind text rest all entries before start b =
    subst (λ bytes. AreCut bytes 0 entries start) (sym b.all_is)
    (subst (λ place. AreCut (text ++ rest) 0 entries place) (sym b.start_is) (cut-append text rest 0 entries (length text) b.cut))

-- are what comes next
wanted_behind : (heading : Heading) (text rest all : List ℕ) (entries : List Entry) (before : List FrameValue) (start : ℕ) → IsBehind text rest all entries before start
    → prepend (frames_between all 0 entries) (records heading (drop start all)) ≡ prepend before (records heading rest)
wanted_behind heading text rest all entries before start b =
    let frames : frames_between all 0 entries ≡ before = ap (λ bytes. frames_between bytes 0 entries) b.all_is ∙ frames-append text rest 0 entries (length text) b.cut ∙ b.frames in
    let left : drop start all ≡ rest = ap (drop start) b.all_is ∙ drop_at text rest start (sym b.start_is) in
    ap (λ (f : List FrameValue). prepend f (records heading (drop start all))) frames ∙ ap (λ bytes. prepend before (records heading bytes)) left

-- all was read, up to what waits
pub read_behind : (heading : Heading) (text rest all kept : List ℕ) (entries now : List Entry) (before : List FrameValue) (start end : ℕ) → IsBehind text rest all entries before start
    → AreCut all 0 now end → kept ≡ drop end all → next_of heading (drop end all) ≡ Partial
    → prepend (frames_between all 0 now) (records heading (drop end all)) ≡ prepend (frames_between all 0 entries) (records heading (drop start all))
    → record { frames = frames_between (take end all) 0 now; fault = None; state = record { stage = Records heading; rest = kept } } ≡ prepend before (records heading rest)
read_behind heading text rest all kept entries now before start end b cut left waits same =
    ap (λ (f : List FrameValue). record { frames = f; fault = None; state = record { stage = Records heading; rest = kept } }) (frames_here all now end cut)
    ∙ ap (λ (bytes : List ℕ). record { frames = frames_between all 0 now; fault = None; state = record { stage = Records heading; rest = bytes } }) left
    ∙ kept_waiting (Records heading) (drop end all) (frames_between all 0 now) (records heading (drop end all)) _ (records_partial heading (drop end all) waits)
    (same ∙ wanted_behind heading text rest all entries before start b)

-- a fault was found
pub stopped_behind : (heading : Heading) (text rest all : List ℕ) (entries now : List Entry) (before : List FrameValue) (start end : ℕ) (fault : PcapFault)
    → IsBehind text rest all entries before start → AreCut all 0 now end
    → Stops (prepend (frames_between all 0 entries) (records heading (drop start all))) (frames_between all 0 now) fault
    → Stops (prepend before (records heading rest)) (frames_between (take end all) 0 now) fault
stopped_behind heading text rest all entries now before start end fault b cut stops =
    subst (λ (r : Reading). Stops r (frames_between (take end all) 0 now) fault) (wanted_behind heading text rest all entries before start b)
    (subst (λ (f : List FrameValue). Stops (prepend (frames_between all 0 entries) (records heading (drop start all))) f fault) (sym (frames_here all now end cut)) stops)

-- or there was no memory to keep what is left
pub starved_behind : (heading : Heading) (text rest all : List ℕ) (entries now : List Entry) (before : List FrameValue) (start end : ℕ)
    → IsBehind text rest all entries before start → AreCut all 0 now end
    → prepend (frames_between all 0 now) (records heading (drop end all)) ≡ prepend (frames_between all 0 entries) (records heading (drop start all))
    → Stops (prepend before (records heading rest)) (frames_between (take end all) 0 now) NoMemory
starved_behind heading text rest all entries now before start end b cut same =
    let read : frames_between (take end all) 0 now ++ (records heading (drop end all)).frames ≡ (prepend before (records heading rest)).frames =
    ap (λ (f : List FrameValue). f ++ (records heading (drop end all)).frames) (frames_here all now end cut)
    ∙ ap (λ (r : Reading). r.frames) (same ∙ wanted_behind heading text rest all entries before start b) in
    inr (refl, ((records heading (drop end all)).frames, read))
