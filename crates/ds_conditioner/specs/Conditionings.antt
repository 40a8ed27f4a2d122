-- Frames between their reading and their writing: seen, held until their colours are decided, and handed out.
use Rattle.std.specs.Prelude.{◌≡◌, ◌⊎◌, ℕ, suc, ◌+◌, ◌≤◌, ◌^◌, Bool, true, false, List, [], ◌∷◌, ◌++◌, length, max, zip, Option, None, Some, ◌<◌, All, IsSome, OnErr, OnOk, Result}
use Rattle.std.specs.List.{AllZip}
use Rattle.moment_core.specs.declared.colour.Colour.{Colour}
use Rattle.pcap_capture.specs.Frames.{FrameValue, link_in}
use Rattle.frame_marker.specs.Marks.{IsMarkOf, mark_in}
use Rattle.frame_marker.specs.Ports.{sight_in}
use Rattle.frame_marker.specs.declared.sight.Seen.{Seen}
use Rattle.frame_marker.specs.declared.sight.Sight.{Sight}
use Rattle.ds_conductor_base.specs.Passing.{colours_of}
use Rattle.ds_conductor_base.specs.Streams.{ComeFrom, colours_left, decided, next_place}
use Rattle.ds_checker.specs.Acceptance.{IsAcceptable}
use Rattle.ds_conductor_base.specs.Ways.{AreInReach}
use Rattle.ds_runs.specs.Judging.{Judging, unjudged, verdict_with}
use Rattle.ds_conductor_base.specs.declared.sent.Sent.{Sent}
use Rattle.ds_conditioner.specs.Sendings.{see}
use Rattle.ds_conditioner.specs.Helds.{HeldValue, IsFirstPacket}
use Rattle.ds_conditioner.specs.Lots.{LotValue}
use Rattle.ds_conditioner.specs.Seens.{seen_at}
use Rattle.ds_conditioner.specs.Sendings.{AreCounted, packet_of, sent_of, stamp_of}
use Rattle.ds_conditioner.specs.Tallies.{AreTallied, AreWithin, grown_all}
use Rattle.ds_conditioner.specs.Texts.{text_from}
use Rattle.ds_conditioner.specs.declared.conditioner.Conditioner.{Conditioner}
use Rattle.ds_conditioner.specs.declared.port.Port.{Port}

-- what a frame is at a port, by its rules
abbrev pub see_at : Port → FrameValue → Sight
see_at p f = sight_in p.classifier f

-- this was seen of a frame at a port: what it is there, and what marking it needs
abbrev pub IsSeenOf : Port → FrameValue → Seen → Type 0
IsSeenOf p f seen = (seen.sight ≡ see_at p f) × (seen.mark ≡ mark_in (link_in f.content) f.bytes)

-- and of each of these frames, in their order
abbrev pub AreSeenOf : Port → List FrameValue → List Seen → Type 0
AreSeenOf p frames seen = AllZip (λ f s. IsSeenOf p f s) frames seen

-- these are marks that such frames have at some link
abbrev pub AreMarksOf : List FrameValue → List Seen → Type 0
AreMarksOf frames seen = AllZip (λ f s. IsMarkOf s.mark f.bytes) frames seen

-- what was seen of a lot's frames, if they were seen, was seen at this port
abbrev pub IsSeenAtPort : Port → LotValue → Type 0
IsSeenAtPort p lot = lot.is_seen ≡ true → AreSeenOf p lot.frames lot.seen

-- the greatest stamp of frames, or this moment, where that is later
unfoldable pub newest_after : ℕ → List FrameValue → ℕ
newest_after newest [] = newest
newest_after newest (f ∷ frames) = newest_after (max newest (stamp_of f)) frames

-- frames as they are seen and held, of which the first has this number, and before which this is the greatest
-- stamp
unfoldable pub held_from : (FrameValue → Sight) → ℕ → ℕ → List FrameValue → List HeldValue
held_from see number newest [] = []
held_from see number newest (f ∷ frames) =
    record { frame = seen_at f; packet = packet_of (see f) number (max newest (stamp_of f)) }
    ∷ held_from see (suc number) (max newest (stamp_of f)) frames

-- The packets that may still be sent: those of later frames at a port, which come to no stop before the greatest stamp so
-- far and the port's head start; or none.
abbrev pub MayCome : Bool → Port → ℕ → List Sent → Type 0
MayCome true p newest back = ComeFrom p.accepted.now (newest + p.ahead) back
MayCome false p newest back = back ≡ []

-- the rules of a port are those of its table's contracts at the port of this name
abbrev pub IsPortOf : Port → List ℕ → Type 0
IsPortOf p name = (f : FrameValue) → see_at p f ≡ see p.accepted.now name f

-- and of some name
abbrev pub IsSeeing : Port → Type 0
IsSeeing p = (name : List ℕ) × IsPortOf p name

-- What a judge keeps tells the verdict on what the frames that were seen send, and also on packets behind them.
pub record IsJudging (p : Port) (frames : List FrameValue) (judge : Judging) : Type 0 where
  pub acceptable : IsAcceptable p.accepted.now
  pub reach : AreInReach p.accepted.now
  pub seeing : IsSeeing p
  pub tells : (back : List Sent) → verdict_with (unjudged p.accepted.now) (sent_of (see_at p) frames ++ back)
      ≡ verdict_with judge back

-- Of the frames that were seen, those at the front were handed out, with this text, and the others are held. The
-- colours that were handed out, and those that are left, are the colours of all packets, also of those that are still
-- to come.
pub record IsConditioned (p : Port) (more : Bool) (frames : List FrameValue) (text : List ℕ) (c : Conditioner) : Type 0
  where
    pub gone : List FrameValue
    pub waiting : List FrameValue
    pub colours : List Colour
    pub parted : frames ≡ gone ++ waiting
    pub paired : length colours ≡ length (sent_of (see_at p) gone)
    pub written : text ≡ text_from p.accepted.now p.red 0 gone (zip (sent_of (see_at p) gone) colours)
    pub held : c.held.held ≡ held_from (see_at p) (length gone) (newest_after 0 gone) waiting
    pub newest : c.newest ≡ newest_after 0 frames
    pub due : c.due ≤ c.newest + p.ahead
    pub table : c.under_way.table ≡ p.accepted.now
    pub comes : (back : List Sent) → MayCome more p c.newest back
        → colours_of p.accepted.now (sent_of (see_at p) frames ++ back) ≡ colours ++ colours_left c.under_way back
    pub counted : AreCounted (see_at p) frames c.counts
    pub tallied : AreTallied (zip (sent_of (see_at p) gone) colours) c.tallies
    pub judging : IsJudging p frames c.judge

-- No more packets are under way than frames were seen, and no more of these than 2^44.
pub record IsBounded (c : Conditioner) : Type 0 where
  pub records : c.counts.records ≤ 2 ^ 44
  pub frames : c.counts.frames ≤ c.counts.records
  pub matched : c.counts.matched ≤ c.counts.records
  pub unmatched : c.counts.unmatched ≤ c.counts.records
  pub skipped : c.counts.skipped ≤ c.counts.records
  pub unverified : c.counts.unverified ≤ c.counts.records
  pub placed : next_place c.under_way ≤ c.counts.records
  pub within : AreWithin c.under_way.traffic.first c.tallies

-- no frame is held, or the colour of the first one's packet is not decided
abbrev pub IsUndecided : Conditioner → Type 0
IsUndecided c =
    (c.held.held ≡ [])
    ⊎ ((decided c.under_way ≡ None)
    × ((first : HeldValue) × (others : List HeldValue) × (c.held.held ≡ first ∷ others) × IsSome first.packet))

-- every visit that was due is made: each that waits is later than the moment before which no later packet comes to a hop
abbrev pub IsUpToDate : Conditioner → Type 0
IsUpToDate c = All (λ visit. c.due < visit.moment) c.under_way.waiting

-- What the first frame that is held sent, if it sent a packet, is taken from what is under way, and counted with the
-- colour that it left with.
abbrev pub IsDecided : Option (Sent × Colour) → Conditioner → Conditioner → Type 0
IsDecided None old new = IsFirstPacket old.held.held None × (new ≡ old)
IsDecided (Some (s, colour)) old new =
    IsFirstPacket old.held.held (Some s) × (new.tallies ≡ grown_all old.tallies colour s.size)
    × (new.under_way.table ≡ old.under_way.table)
    × ((back : List Sent) → colours_left old.under_way back ≡ colour ∷ colours_left new.under_way back)

-- one frame fewer is held; or none could be handed out, and all is as it was
abbrev pub IsOneHandedOut : Bool → Conditioner → Conditioner → Type 0
IsOneHandedOut true old new = length new.held.held + 1 ≡ length old.held.held
IsOneHandedOut false old new = (new ≡ old) × IsUndecided new

-- where frames were taken in, they are all seen
abbrev pub AreSeen : {T E : Type 0} → Result T E → Port → Conditioner → Conditioner → List FrameValue → Type 0
AreSeen result p old new taken =
    OnOk result ((before : List FrameValue) (text : List ℕ) → IsConditioned p true before text old
    → IsConditioned p true (before ++ taken) text new)

-- and where memory ran out, those at the front of them
abbrev pub AreSeenInPart : {T E : Type 0} → Result T E → Port → Conditioner → Conditioner → List FrameValue → Type 0
AreSeenInPart result p old new taken =
    OnErr result ((before : List FrameValue) (text : List ℕ) → IsConditioned p true before text old
    → (front : List FrameValue) × (others : List FrameValue) × (taken ≡ front ++ others)
    × IsConditioned p true (before ++ front) text new)

-- or none
abbrev pub AreUnseen : {T E : Type 0} → Result T E → Port → Conditioner → Conditioner → Type 0
AreUnseen result p old new =
    OnErr result ((before : List FrameValue) (text : List ℕ) → IsConditioned p true before text old
    → IsConditioned p true before text new)

-- where the first frame that is ahead was taken in, it is seen
abbrev pub IsFirstSeen : {T E : Type 0} → Result T E → Port → Conditioner → Conditioner → Type 0
IsFirstSeen result p old new =
    (f : FrameValue) (others : List FrameValue) → old.held.ahead ≡ f ∷ others
    → OnOk result (new.held.ahead ≡ others) × AreSeen result p old new (f ∷ [])

-- and so it is where it was taken in by what was seen of it, if that was seen at the port
abbrev pub IsFirstTakenIn : {T E : Type 0} → Result T E → Port → Seen → Conditioner → Conditioner → Type 0
IsFirstTakenIn result p seen old new =
    (f : FrameValue) (others : List FrameValue) → old.held.ahead ≡ f ∷ others
    → OnOk result (new.held.ahead ≡ others)
    × (IsSeenOf p f seen → AreSeen result p old new (f ∷ []))
