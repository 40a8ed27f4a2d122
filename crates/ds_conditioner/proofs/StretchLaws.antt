-- Stretches of frames: what is handed out of them, and what comes next.
use Rattle.std.proofs.Common.{◌≡◌, ℕ, suc, ◌+◌, ◌-◌, ◌<◌, ◌≤◌, List, [], ◌∷◌, ◌++◌, length, get_or, take, drop, zip, flat_map, All, length-append, length-drop, length-take-le, drop-cons, take_all, refl, sym, ap, ap₂, subst, ◌∙◌, append-nil, append_assoc, arith}
use Rattle.std.proofs.lemmas.List.{drop-map, length-map, map-append, get_or-take, get_or-drop, take_more}
use Rattle.std.proofs.lemmas.List.Elements.{All-nil, All-push}
use Rattle.pcap_capture.specs.Frames.{FrameValue}
use Rattle.ds_conditioner.specs.Fates.{IsFateOf, fate_text}
use Rattle.ds_conditioner.specs.Helds.{HeldValue}
use Rattle.ds_conditioner.specs.Notes.{noted}
use Rattle.ds_conditioner.specs.Stretches.{AreFated, AreNext, CanBefall, IsBegun, IsFated, StretchValue, between, fated, frames_held, texts}
use Rattle.ds_conditioner.specs.declared.fate.Fate.{Fate}
use Rattle.ds_conditioner.specs.declared.held_piece.Note.{Note}
use Rattle.ds_conditioner.proofs.FateLaws.{fate_at, fated_push, pairs_push, zip_none}
use Rattle.ds_conditioner.proofs.NoteLaws.{drop_next, first_there}

-- what a stretch stands for
abbrev pub view_of : List FrameValue → ℕ → ℕ → List Fate → StretchValue
view_of frames from until fates = record { text = fated (between from until frames) fates; coming = drop (length fates) (between from until frames) }

abbrev IsRight : FrameValue × Fate → Type 0
IsRight it = IsFateOf it.0 it.1

pub length-between : (frames : List FrameValue) (from until : ℕ) → until ≤ length frames → length (between from until frames) ≡ until - from
length-between frames from until last = length-drop from (take until frames) ∙ ap (λ n. n - from) (length-take-le until frames last)

pub read_between : (frames : List FrameValue) (from until place : ℕ) (f : FrameValue) → from + place < until → f ≡ get_or frames (from + place) f → f ≡ get_or (between from until frames) place f
read_between frames from until place f within there =
    there ∙ sym (get_or-drop from (take until frames) place f ∙ get_or-take until frames (from + place) f within)

module _ (frames : List FrameValue) (from until : ℕ) (fates : List Fate) (room : ℕ) (old : StretchValue) (was : AreFated frames from until fates room) (view : view_of frames from until fates ≡ old) where
  own : List FrameValue
  own = between from until frames

  -- as many come as are not handed out
  pub left : length old.coming + length fates ≡ until - from
  unfolding own
  left = omega (arith, was.there, ap (λ (s : StretchValue). length s.coming) view, length-drop (length fates) own, length-between frames from until was.last)

  pub is_room : 0 < length old.coming → length fates < room
  is_room some = omega (arith, some, left, was.there, was.fits)

  module _ (x : Fate) (after : List Fate) (push : after ≡ fates ++ x ∷ []) (some : 0 < length old.coming) where
    front : (f : FrameValue) × (others : List FrameValue) × (old.coming ≡ f ∷ others) × (drop (length fates) (between from until frames) ≡ f ∷ others)
    front =
        let there = first_there old.coming some in
        (there.0, there.1, there.2, ap (λ (s : StretchValue). s.coming) view ∙ there.2)

    long : length after ≡ suc (length fates)
    long = omega (arith, ap length push, length-append fates (x ∷ []))

    -- one frame more is handed out
    pub is_fated : IsFated x old (view_of frames from until after)
    is_fated =
        let f = front.0 in
        let others = front.1 in
        let rest : drop (length after) (between from until frames) ≡ others =
        ap (λ k. drop k (between from until frames)) long ∙ drop_next (length fates) (between from until frames) f others front.3 in (
          f,
          front.2 ∙ ap (λ (os : List FrameValue). f ∷ os) (sym rest),
          ap (λ (xs : List Fate). fated (between from until frames) xs) push ∙ fated_push (between from until frames) fates x f others front.3
              ∙ ap (λ (s : StretchValue). s.text ++ fate_text f x) view,
        )

    pub fated_still : (more : ℕ) → room ≤ more → CanBefall x old.coming → AreFated frames from until after more
    fated_still more up right =
        let f = front.0 in
        let others = front.1 in
        record {
          there = omega (arith, long, left, some, was.there);
          last = was.last;
          fits = omega (arith, was.fits, up);
          marks = subst (λ (xs : List Fate). All IsRight (zip (between from until frames) xs)) (sym push)
              (subst (λ (all : List (FrameValue × Fate)). All IsRight all) (sym (pairs_push (between from until frames) fates x f others front.3))
              (All-push IsRight (zip (between from until frames) fates) (f, x) was.marks (right f others front.2)));
        }

  -- the frame at a place, and what becomes of it
  module _ (place : ℕ) (there : place < length fates) where
    pub is_within : from + place < until
    is_within = omega (arith, there, was.there)

    pub is_framed : from + place < length frames
    is_framed = omega (arith, is_within, was.last)

    module _ (f : FrameValue) (x : Fate) (frame : f ≡ get_or frames (from + place) f) (fate : x ≡ get_or fates place x) where
      read : f ≡ get_or (between from until frames) place f
      read = read_between frames from until place f is_within frame

      fewer : place < length (between from until frames)
      fewer = omega (arith, is_within, length-between frames from until was.last)

      pub is_right : IsFateOf f x
      is_right = fate_at (between from until frames) fates place f x was.marks fewer there read fate

      -- the text with it
      pub text_more : fated (between from until frames) (take (place + 1) fates) ≡ fated (between from until frames) (take place fates) ++ fate_text f x
      text_more =
          let next : take (place + 1) fates ≡ take place fates ++ x ∷ [] = take_more fates place x there ∙ ap (λ (y : Fate). take place fates ++ y ∷ []) (sym fate) in
          let count : length (take place fates) ≡ place = length-take-le place fates (omega (arith, there)) in
          let first : drop (length (take place fates)) (between from until frames) ≡ f ∷ drop (suc place) (between from until frames) =
          ap (λ k. drop k (between from until frames)) count ∙ drop-cons (between from until frames) place f fewer ∙ ap (λ (g : FrameValue). g ∷ drop (suc place) (between from until frames)) (sym read) in
          ap (λ (xs : List Fate). fated (between from until frames) xs) next
          ∙ fated_push (between from until frames) (take place fates) x f (drop (suc place) (between from until frames)) first

  -- and of all
  pub text_all : fated (between from until frames) (take (length fates) fates) ≡ old.text
  text_all = ap (λ (xs : List Fate). fated (between from until frames) xs) (take_all (length fates) fates (omega arith)) ∙ ap (λ (s : StretchValue). s.text) view

-- before the first one is handed out
pub none_fated : (frames : List FrameValue) (from until : ℕ) (fates : List Fate) (room : ℕ) → fates ≡ [] → from ≤ until → until ≤ length frames → until - from ≤ room
    → AreFated frames from until fates room
none_fated frames from until fates room none first last up = record {
  there = omega (arith, first, ap length none);
  last = last;
  fits = omega (arith, first, up);
  marks = subst (λ (all : List (FrameValue × Fate)). All IsRight all) (sym (zip_none (between from until frames) fates none)) (All-nil IsRight);
}

pub none_text : (frames : List FrameValue) (from until : ℕ) (fates : List Fate) → fates ≡ [] → view_of frames from until fates ≡ record { text = []; coming = between from until frames }
none_text frames from until fates none =
    let text : fated (between from until frames) fates ≡ [] =
    ap (λ (all : List (FrameValue × Fate)). flat_map (λ (it : FrameValue × Fate). fate_text it.0 it.1) all) (zip_none (between from until frames) fates none) in
    ap₂ (λ (t : List ℕ) (xs : List Fate). let s : StretchValue = record { text = t; coming = drop (length xs) (between from until frames) } in s) text none

-- ---- what is held comes next

frames_noted : (frames : List FrameValue) (notes : List Note) → length notes ≤ length frames → frames_held (noted frames notes) ≡ take (length notes) frames
frames_noted frames [] within = refl
frames_noted [] (n ∷ notes) within = absurd (omega arith)
frames_noted (f ∷ frames) (n ∷ notes) within = ap (λ (fs : List FrameValue). f ∷ fs) (frames_noted frames notes (omega arith))

-- the frames that are held of a piece stand between two places
pub held_between_places : (frames : List FrameValue) (notes : List Note) (next : ℕ) → length notes ≤ length frames
    → between next (length notes) frames ≡ frames_held (drop next (noted frames notes))
held_between_places frames notes next within =
    ap (drop next) (sym (frames_noted frames notes within)) ∙ drop-map (λ (h : HeldValue). h.frame.frame) next (noted frames notes)

-- a stretch over the frames that are held at the front
pub is_begun : (held own back : List HeldValue) (s : StretchValue) → held ≡ own ++ back → 0 < length own → s ≡ record { text = []; coming = frames_held own } → IsBegun held s
is_begun held own back s parted some is = (
  ap (λ (t : StretchValue). t.text) is,
  omega (arith, some, ap (λ (t : StretchValue). length t.coming) is, length-map own (λ (h : HeldValue). h.frame.frame)),
  (
    frames_held back,
    ap frames_held parted ∙ map-append (λ (h : HeldValue). h.frame.frame) own back
        ∙ ap (λ (fs : List FrameValue). fs ++ frames_held back) (sym (ap (λ (t : StretchValue). t.coming) is)),
  ),
)

first_two : (f g : FrameValue) (fs gs : List FrameValue) → f ∷ fs ≡ g ∷ gs → (f ≡ g) × (fs ≡ gs)
first_two f g fs gs is = (cc, cc)

-- what comes first is the first that is held
pub next_first : (coming others : List FrameValue) (f : FrameValue) (held back : List HeldValue) (h : HeldValue) → AreNext coming held → coming ≡ f ∷ others → held ≡ h ∷ back
    → (f ≡ h.frame.frame) × AreNext others back
next_first coming others f held back h next comes is =
    let both = first_two h.frame.frame f (frames_held back) (others ++ next.0) (sym (ap frames_held is) ∙ next.1 ∙ ap (λ (fs : List FrameValue). fs ++ next.0) comes) in
    (sym both.0, (next.0, both.1))

pub texts_push : (stretches : List StretchValue) (s : StretchValue) → texts (stretches ++ s ∷ []) ≡ texts stretches ++ s.text
texts_push [] s = append-nil s.text
texts_push (first ∷ stretches) s = ap (λ (it : List ℕ). first.text ++ it) (texts_push stretches s) ∙ sym (append_assoc first.text (texts stretches) s.text)

-- the texts of those at the front, and of one more
pub texts_more : (stretches : List StretchValue) (k : ℕ) (s : StretchValue) → k < length stretches → s ≡ get_or stretches k s → texts (take (k + 1) stretches) ≡ texts (take k stretches) ++ s.text
texts_more stretches k s there is =
    ap texts (take_more stretches k s there ∙ ap (λ (t : StretchValue). take k stretches ++ t ∷ []) (sym is)) ∙ texts_push (take k stretches) s
