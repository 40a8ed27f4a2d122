-- What is noted of the frames of a piece.
use Rattle.std.proofs.Common.{◌≡◌, ℕ, zero, suc, ◌+◌, ◌<◌, ◌≤◌, List, [], ◌∷◌, ◌++◌, length, get_or, drop, length-append, length-drop, refl, sym, ap, ap₂, subst, ◌∙◌, arith, All}
use Rattle.std.proofs.lemmas.List.{drop-append-le}
use Rattle.std.proofs.lemmas.List.Elements.{All-head, All-push, All-tail}
use Rattle.pcap_capture.specs.Frames.{FrameValue}
use Rattle.frame_marker.specs.Marks.{IsMarkOf}
use Rattle.ds_conditioner.specs.Helds.{CanBeNoted, HeldFramesValue, HeldValue, IsFirstFrame, IsFirstMark, IsFirstPacket, IsLetGo, IsNoted}
use Rattle.ds_conditioner.specs.Notes.{AreNoted, noted}
use Rattle.ds_conditioner.specs.Seens.{SeenValue}
use Rattle.ds_conditioner.specs.declared.held_piece.Note.{Note}

-- a frame with a note
abbrev pub held_by : FrameValue → Note → HeldValue
held_by f n = record { frame = record { frame = f; mark = n.mark }; packet = n.packet }

abbrev IsMarked : HeldValue → Type 0
IsMarked h = IsMarkOf h.frame.mark h.frame.frame.bytes

-- as many as there are notes
pub length-noted : (frames : List FrameValue) (notes : List Note) → length notes ≤ length frames → length (noted frames notes) ≡ length notes
length-noted frames [] within = refl
length-noted [] (n ∷ notes) within = absurd (omega arith)
length-noted (f ∷ frames) (n ∷ notes) within = ap suc (length-noted frames notes (omega arith))

-- one note more
pub noted_push : (frames : List FrameValue) (notes : List Note) (n : Note) (f : FrameValue) (others : List FrameValue) → drop (length notes) frames ≡ f ∷ others
    → noted frames (notes ++ n ∷ []) ≡ noted frames notes ++ held_by f n ∷ []
noted_push [] [] n f others there = absurd cc
noted_push (first ∷ frames) [] n f others there =
    let same : first ≡ f = cc in
    ap (λ (g : FrameValue). held_by g n ∷ []) same
noted_push [] (m ∷ notes) n f others there = absurd cc
noted_push (first ∷ frames) (m ∷ notes) n f others there = ap (λ (hs : List HeldValue). held_by first m ∷ hs) (noted_push frames notes n f others there)

pub drop_next : {A : Type 0} (k : ℕ) (xs : List A) (x : A) (others : List A) → drop k xs ≡ x ∷ others → drop (suc k) xs ≡ others
drop_next zero [] x others there = absurd cc
drop_next zero (y ∷ xs) x others there = cc
drop_next (suc k) [] x others there = absurd cc
drop_next (suc k) (y ∷ xs) x others there = drop_next k xs x others there

-- what stands at a place
pub noted_at : (frames : List FrameValue) (notes : List Note) (k : ℕ) (f : FrameValue) (n : Note) → length notes ≤ length frames → k < length notes
    → f ≡ get_or frames k f → n ≡ get_or notes k n → drop k (noted frames notes) ≡ held_by f n ∷ drop (suc k) (noted frames notes)
noted_at [] [] k f n within there frame note = absurd (omega arith)
noted_at [] (m ∷ notes) k f n within there frame note = absurd (omega arith)
noted_at (first ∷ frames) [] k f n within there frame note = absurd (omega arith)
noted_at (first ∷ frames) (m ∷ notes) zero f n within there frame note =
    ap₂ (λ (g : FrameValue) (o : Note). held_by g o ∷ noted frames notes) (sym frame) (sym note)
noted_at (first ∷ frames) (m ∷ notes) (suc k) f n within there frame note = noted_at frames notes k f n (omega arith) (omega arith) frame note

-- and its mark is one of its frame
pub marked_at : (frames : List FrameValue) (notes : List Note) (next room k : ℕ) (f : FrameValue) (n : Note) → AreNoted frames notes next room → k < length notes
    → f ≡ get_or frames k f → n ≡ get_or notes k n → IsMarkOf n.mark f.bytes
marked_at frames notes next room k f n was there frame note = of_first frames notes k was.there there frame note was.marks
  where
    of_first : (frames : List FrameValue) (notes : List Note) (k : ℕ) → length notes ≤ length frames → k < length notes
        → f ≡ get_or frames k f → n ≡ get_or notes k n → All (λ (h : HeldValue). IsMarkOf h.frame.mark h.frame.frame.bytes) (noted frames notes) → IsMarkOf n.mark f.bytes
    of_first [] [] k within there frame note marks = absurd (omega arith)
    of_first [] (m ∷ notes) k within there frame note marks = absurd (omega arith)
    of_first (first ∷ frames) [] k within there frame note marks = absurd (omega arith)
    of_first (first ∷ frames) (m ∷ notes) zero within there frame note marks =
        let own : IsMarked (held_by first m) = All-head IsMarked (held_by first m) (noted frames notes) marks in
        subst (λ (o : Note). IsMarkOf o.mark f.bytes) (sym note) (subst (λ (g : FrameValue). IsMarkOf m.mark g.bytes) (sym frame) own)
    of_first (first ∷ frames) (m ∷ notes) (suc k) within there frame note marks =
        of_first frames notes k (omega arith) (omega arith) frame note (All-tail IsMarked (held_by first m) (noted frames notes) marks)

-- what is there stands behind a first one
pub first_there : {A : Type 0} (xs : List A) → 0 < length xs → (x : A) × (others : List A) × (xs ≡ x ∷ others)
first_there [] some = absurd (omega arith)
first_there (x ∷ xs) some = (x, xs, refl)

pub read_ahead : {A : Type 0} (k : ℕ) (xs : List A) (d x : A) (others : List A) → drop k xs ≡ x ∷ others → get_or xs k d ≡ x
read_ahead zero [] d x others there = absurd cc
read_ahead zero (y ∷ xs) d x others there = cc
read_ahead (suc k) [] d x others there = absurd cc
read_ahead (suc k) (y ∷ xs) d x others there = read_ahead k xs d x others there

read_first : {A : Type 0} (k : ℕ) (xs : List A) (x : A) (others : List A) → drop k xs ≡ x ∷ others → x ≡ get_or xs k x
read_first k xs x others there = sym (read_ahead k xs x x others there)

-- ---- as calls tell it

-- what a piece with notes stands for
abbrev pub view_of : List FrameValue → List Note → ℕ → HeldFramesValue
view_of frames notes next = record { held = drop next (noted frames notes); ahead = drop (length notes) frames }

module _ (frames : List FrameValue) (notes : List Note) (next room : ℕ) (old : HeldFramesValue) (was : AreNoted frames notes next room) (view : view_of frames notes next ≡ old) where
  module _ (n : Note) (after : List Note) (push : after ≡ notes ++ n ∷ []) (some : 0 < length old.ahead) where
    front : (f : FrameValue) × (others : List FrameValue) × (old.ahead ≡ f ∷ others) × (drop (length notes) frames ≡ f ∷ others)
    front =
        let there = first_there old.ahead some in
        (there.0, there.1, there.2, ap (λ (h : HeldFramesValue). h.ahead) view ∙ there.2)

    long : length after ≡ suc (length notes)
    long = omega (arith, ap length push, length-append notes (n ∷ []))

    -- a note more is noted
    pub is_noted : IsNoted n.mark n.packet old (view_of frames after next)
    is_noted =
        let f = front.0 in
        let others = front.1 in
        let rest : drop (length after) frames ≡ others = ap (λ k. drop k frames) long ∙ drop_next (length notes) frames f others front.3 in
        let gone : next ≤ length (noted frames notes) = omega (arith, was.gone, length-noted frames notes was.there) in (
          f,
          front.2 ∙ ap (λ (os : List FrameValue). f ∷ os) (sym rest),
          ap (λ (ns : List Note). drop next (noted frames ns)) push ∙ ap (drop next) (noted_push frames notes n f others front.3)
              ∙ drop-append-le next (noted frames notes) (held_by f n ∷ []) gone
              ∙ ap (λ (h : HeldFramesValue). h.held ++ held_by f n ∷ []) view,
        )

    pub noted_still : (more : ℕ) → room ≤ more → CanBeNoted n.mark old.ahead → AreNoted frames after next more
    noted_still more up marked =
        let f = front.0 in
        let others = front.1 in
        record {
          gone = omega (arith, was.gone, long);
          there = omega (arith, long, length-drop (length notes) frames, ap length front.3);
          fits = omega (arith, was.fits, up);
          marks = subst (λ (ns : List Note). All IsMarked (noted frames ns)) (sym push)
              (subst (λ (hs : List HeldValue). All IsMarked hs) (sym (noted_push frames notes n f others front.3))
              (All-push IsMarked (noted frames notes) (held_by f n) was.marks (marked f others front.2)));
        }

  module _ (some : 0 < length old.held) where
    -- the next one is there
    pub next_noted : next < length notes
    next_noted =
        omega (arith, some, ap (λ (h : HeldFramesValue). length h.held) view, length-drop next (noted frames notes), length-noted frames notes was.there)

    pub next_framed : next < length frames
    next_framed = omega (arith, next_noted, was.there)

    module _ (n : Note) (at : n ≡ get_or notes next n) where
      pub next_first : (f : FrameValue) → f ≡ get_or frames next f → old.held ≡ held_by f n ∷ drop (suc next) (noted frames notes)
      next_first f there = ap (λ (h : HeldFramesValue). h.held) (sym view) ∙ noted_at frames notes next f n was.there next_noted there at

      pub is_first_frame : (f : FrameValue) (frame : SeenValue) → f ≡ get_or frames next f → frame ≡ record { frame = f; mark = n.mark } → IsFirstFrame old.held frame
      is_first_frame f frame there is = (held_by f n, drop (suc next) (noted frames notes), next_first f there, is)

      pub is_first_packet : IsFirstPacket old.held n.packet
      is_first_packet =
          let f = first_there (drop next frames) (omega (arith, next_framed, length-drop next frames)) in
          let there : f.0 ≡ get_or frames next f.0 = read_first next frames f.0 f.1 f.2 in
          (held_by f.0 n, drop (suc next) (noted frames notes), next_first f.0 there, refl)

      -- what marking it needs
      pub is_first_mark : IsFirstMark old.held n.mark
      is_first_mark =
          let f = first_there (drop next frames) (omega (arith, next_framed, length-drop next frames)) in
          let there : f.0 ≡ get_or frames next f.0 = read_first next frames f.0 f.1 f.2 in
          (held_by f.0 n, drop (suc next) (noted frames notes), next_first f.0 there, refl, marked_at frames notes next room next f.0 n was next_noted there at)

    pub is_let_go : (after : ℕ) → after ≡ next + 1 → IsLetGo old (view_of frames notes after)
    is_let_go after up =
        let first = first_there old.held some in
        let gone : after ≡ suc next = omega (arith, up) in
        let rest : drop after (noted frames notes) ≡ first.1 =
        ap (λ k. drop k (noted frames notes)) gone ∙ drop_next next (noted frames notes) first.0 first.1 (ap (λ (h : HeldFramesValue). h.held) view ∙ first.2) in
        (first.0, first.2 ∙ ap (λ (hs : List HeldValue). first.0 ∷ hs) (sym rest), ap (λ (h : HeldFramesValue). h.ahead) view)

    pub let_go_still : (after : ℕ) → after ≡ next + 1 → AreNoted frames notes after room
    let_go_still after up = record { gone = omega (arith, next_noted, up); there = was.there; fits = was.fits; marks = was.marks }

  -- none is held where as many were let go as are noted
  pub none_held : length old.held + next ≡ length notes
  none_held =
      omega (arith, was.gone, ap (λ (h : HeldFramesValue). length h.held) view, length-drop next (noted frames notes), length-noted frames notes was.there)
