-- What becomes of frames that are handed out, as it stands in texts.
use Rattle.std.proofs.Common.{◌≡◌, ℕ, zero, suc, ◌<◌, List, [], ◌∷◌, ◌++◌, length, get_or, take, drop, zip, flat_map, All, None, Some, refl, sym, ap, subst, ◌∙◌, append-nil, arith, Option, Result, Ok, Err, OnOk}
use Rattle.std.proofs.lemmas.Grind.{flat_map-append}
use Rattle.std.proofs.lemmas.List.Elements.{All-head, All-tail}
use Rattle.af_marker.specs.Summaries.{summary_of}
use Rattle.af_marker.specs.declared.ipv4.HeaderFault.{HeaderFault}
use Rattle.af_marker.specs.declared.packet.Header.{Header}
use Rattle.pcap_capture.specs.Frames.{FrameValue}
use Rattle.pcap_capture.specs.Packets.{packet_start}
use Rattle.pcap_capture.specs.declared.heading.LinkType.{LinkType}
use Rattle.pcap_capture.specs.declared.start.PacketStart.{PacketStart}
use Rattle.frame_marker.specs.Frames.{marked_behind, marked_by, marked_frame, read_header}
use Rattle.frame_marker.specs.Marks.{mark_behind, mark_in, mark_of, put_in}
use Rattle.frame_marker.specs.declared.mark.Mark.{Mark}
use Rattle.ds_conditioner.specs.Fates.{IsFateOf, fate_text}
use Rattle.ds_conditioner.specs.Stretches.{fated}
use Rattle.ds_conditioner.specs.declared.fate.Fate.{Fate}

module _ (dscp : ℕ) (bytes : List ℕ) where
  marked_header : (mark : Mark) (p : PacketStart) (r : Result Header HeaderFault) → Some mark ≡ mark_of p r
      → take p.start bytes ++ marked_by p.family r dscp (drop p.start bytes) ≡ put_in mark dscp bytes
  marked_header mark p (Ok header) is =
      let own : Mark = record { start = p.start; family = p.family; verified = (summary_of header).verified } in
      let same : own ≡ mark = cc in
      ap (λ (m : Mark). put_in m dscp bytes) same
  marked_header mark p (Err fault) is = absurd cc

  marked_there : (mark : Mark) (p : Option PacketStart) → Some mark ≡ mark_behind p bytes → marked_behind p dscp bytes ≡ put_in mark dscp bytes
  marked_there mark None is = absurd cc
  marked_there mark (Some p) is = marked_header mark p (read_header p.family (drop p.start bytes)) is

  -- a frame that has a mark is marked there
  pub marked_in : (link : LinkType) (mark : Mark) → Some mark ≡ mark_in link bytes → marked_frame link dscp bytes ≡ put_in mark dscp bytes
  unfolding mark_in marked_frame
  marked_in link mark is = marked_there mark (packet_start link bytes) is

-- ---- what results tell

pub on_ok : {T E : Type 0} (r : Result T E) (A B : Type 0) → (A → B) → OnOk r A → OnOk r B
on_ok (Ok x) A B tells is = tells is
on_ok (Err e) A B tells is = is

-- ---- of frames, one behind the other

pub zip_none : {A B : Type 0} (xs : List A) (ys : List B) → ys ≡ [] → zip xs ys ≡ []
zip_none [] ys none = refl
zip_none (x ∷ xs) [] none = refl
zip_none (x ∷ xs) (y ∷ ys) none = absurd cc

-- what becomes of one frame more
pub pairs_push : (frames : List FrameValue) (fates : List Fate) (x : Fate) (f : FrameValue) (others : List FrameValue) → drop (length fates) frames ≡ f ∷ others
    → zip frames (fates ++ x ∷ []) ≡ zip frames fates ++ (f, x) ∷ []
pairs_push [] [] x f others there = absurd cc
pairs_push (first ∷ frames) [] x f others there =
    let same : first ≡ f = cc in
    ap (λ (all : List (FrameValue × Fate)). (first, x) ∷ all) (zip_none frames [] refl) ∙ ap (λ (g : FrameValue). (g, x) ∷ []) same
pairs_push [] (y ∷ fates) x f others there = absurd cc
pairs_push (first ∷ frames) (y ∷ fates) x f others there = ap (λ (all : List (FrameValue × Fate)). (first, y) ∷ all) (pairs_push frames fates x f others there)

-- and the text with it
pub fated_push : (frames : List FrameValue) (fates : List Fate) (x : Fate) (f : FrameValue) (others : List FrameValue) → drop (length fates) frames ≡ f ∷ others
    → fated frames (fates ++ x ∷ []) ≡ fated frames fates ++ fate_text f x
fated_push frames fates x f others there =
    let text : FrameValue × Fate → List ℕ = λ it. fate_text it.0 it.1 in
    ap (λ (all : List (FrameValue × Fate)). flat_map text all) (pairs_push frames fates x f others there)
    ∙ flat_map-append text (zip frames fates) ((f, x) ∷ [])
    ∙ ap (λ (it : List ℕ). fated frames fates ++ it) (append-nil (fate_text f x))

-- what becomes of the frame at a place is right
pub fate_at : (frames : List FrameValue) (fates : List Fate) (k : ℕ) (f : FrameValue) (x : Fate) → All (λ (it : FrameValue × Fate). IsFateOf it.0 it.1) (zip frames fates)
    → k < length frames → k < length fates → f ≡ get_or frames k f → x ≡ get_or fates k x → IsFateOf f x
fate_at [] fates k f x all framed there frame fate = absurd (omega arith)
fate_at (first ∷ frames) [] k f x all framed there frame fate = absurd (omega arith)
fate_at (first ∷ frames) (y ∷ fates) zero f x all framed there frame fate =
    let own : IsFateOf first y = All-head (λ (it : FrameValue × Fate). IsFateOf it.0 it.1) (first, y) (zip frames fates) all in
    subst (λ (z : Fate). IsFateOf f z) (sym fate) (subst (λ (g : FrameValue). IsFateOf g y) (sym frame) own)
fate_at (first ∷ frames) (y ∷ fates) (suc k) f x all framed there frame fate =
    fate_at frames fates k f x (All-tail (λ (it : FrameValue × Fate). IsFateOf it.0 it.1) (first, y) (zip frames fates) all) (omega arith) (omega arith) frame fate
