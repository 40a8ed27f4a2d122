-- The frames of a piece, by its text and its entries.
use Rattle.std.proofs.Common.{◌≡◌, ℕ, zero, suc, ◌+◌, ◌-◌, ◌*◌, ◌<◌, ◌≤◌, List, [], ◌∷◌, ◌++◌, length, get_or, take, drop, append_assoc, append-nil, length-append, length-drop, refl, sym, ◌∙◌, ap, subst, arith}
use Rattle.std.specs.List.{slice_range}
use Rattle.std.proofs.lemmas.List.{drop-append-le, length-take-le, take-append-le, take-append-drop}
use Rattle.std.proofs.lemmas.List.Folds.{drop_split}
use Rattle.std.proofs.Math.Seq.{drop-length}
use Rattle.pcap_capture.specs.Frames.{FrameValue, frame_at, text_in, text_of}
use Rattle.pcap_capture.specs.Pieces.{AreCut, IsPlaced, frames_between}
use Rattle.pcap_capture.specs.declared.entry.Entry.{Entry}
use Rattle.pcap_capture.proofs.PlaceLaws.{text_at}

-- frames come to an end within their text
pub cut_within : (text : List ℕ) (start : ℕ) (entries : List Entry) (end : ℕ) → AreCut text start entries end → (start ≤ end) × (end ≤ length text)
cut_within text start [] end h = (omega (arith, h.0), h.1)
cut_within text start (entry ∷ entries) end h =
    let more = cut_within text entry.end entries end h.1 in
    (omega (arith, h.0, more.0), more.1)

-- each has twelve bytes
pub cut_room : (text : List ℕ) (start : ℕ) (entries : List Entry) (end : ℕ) → AreCut text start entries end → start + 12 * length entries ≤ end
cut_room text start [] end h = omega (arith, h.0)
cut_room text start (entry ∷ entries) end h = omega (arith, h.0, cut_room text entry.end entries end h.1)

-- as many frames as entries
pub length-frames : (text : List ℕ) (start : ℕ) (entries : List Entry) → length (frames_between text start entries) ≡ length entries
length-frames text start [] = refl
length-frames text start (entry ∷ entries) = ap suc (length-frames text entry.end entries)

-- one frame more
pub cut_push : (text : List ℕ) (start : ℕ) (entries : List Entry) (end : ℕ) (entry : Entry) → AreCut text start entries end
    → entry.end ≤ length text → IsPlaced entry.place (entry.end - end) → AreCut text start (entries ++ entry ∷ []) entry.end
cut_push text start [] end entry h within placed = (subst (λ place. IsPlaced entry.place (entry.end - place)) (sym h.0) placed, (refl, within))
cut_push text start (first ∷ entries) end entry h within placed = (h.0, cut_push text first.end entries end entry h.1 within placed)

pub frames_push : (text : List ℕ) (start : ℕ) (entries : List Entry) (end : ℕ) (entry : Entry) → AreCut text start entries end
    → frames_between text start (entries ++ entry ∷ []) ≡ frames_between text start entries ++ frame_at (slice_range text end entry.end) entry.place ∷ []
frames_push text start [] end entry h = ap (λ place. frame_at (slice_range text place entry.end) entry.place ∷ []) h.0
frames_push text start (first ∷ entries) end entry h =
    ap (λ (frames : List FrameValue). frame_at (slice_range text start first.end) first.place ∷ frames) (frames_push text first.end entries end entry h.1)

pub range-append : (text more : List ℕ) (start end : ℕ) → start ≤ end → end ≤ length text → slice_range (text ++ more) start end ≡ slice_range text start end
range-append text more start end order within =
    ap (take (end - start)) (drop-append-le start text more (omega arith)) ∙ take-append-le (end - start) (drop start text) more (omega (arith, length-drop start text))

-- bytes behind a text change no frame of it
pub cut-append : (text more : List ℕ) (start : ℕ) (entries : List Entry) (end : ℕ) → AreCut text start entries end → AreCut (text ++ more) start entries end
cut-append text more start [] end h = (h.0, omega (arith, h.1, length-append text more))
cut-append text more start (entry ∷ entries) end h = (h.0, cut-append text more entry.end entries end h.1)

pub frames-append : (text more : List ℕ) (start : ℕ) (entries : List Entry) (end : ℕ) → AreCut text start entries end
    → frames_between (text ++ more) start entries ≡ frames_between text start entries
frames-append text more start [] end h = refl
frames-append text more start (entry ∷ entries) end h =
    let bound = cut_within text entry.end entries end h.1 in
    ap (λ own. frame_at own entry.place ∷ frames_between (text ++ more) entry.end entries) (range-append text more start entry.end (omega (arith, h.0)) (omega (arith, bound.0, bound.1)))
    ∙ ap (λ (frames : List FrameValue). frame_at (slice_range text start entry.end) entry.place ∷ frames) (frames-append text more entry.end entries end h.1)

-- the text of the frames is what is there up to their end
pub text_between : (text : List ℕ) (start : ℕ) (entries : List Entry) (end : ℕ) → AreCut text start entries end
    → text_of (frames_between text start entries) ++ drop end text ≡ drop start text
text_between text start [] end h = ap (λ place. drop place text) (sym h.0)
text_between text start (entry ∷ entries) end h =
    let own = slice_range text start entry.end in
    let behind = text_of (frames_between text entry.end entries) in
    append_assoc (text_in (frame_at own entry.place)) behind (drop end text)
    ∙ ap (λ bytes. bytes ++ (behind ++ drop end text)) (text_at own entry.place)
    ∙ ap (λ bytes. own ++ bytes) (text_between text entry.end entries end h.1)
    ∙ sym (drop_split text start entry.end (omega (arith, h.0)))

pub text_whole : (text : List ℕ) (entries : List Entry) → AreCut text 0 entries (length text) → text ≡ text_of (frames_between text 0 entries)
text_whole text entries h =
    sym (text_between text 0 entries (length text) h) ∙ ap (λ bytes. text_of (frames_between text 0 entries) ++ bytes) (drop-length text) ∙ append-nil (text_of (frames_between text 0 entries))

-- a place of a frame is one of an entry
pub place_in : (text : List ℕ) (entries : List Entry) (frames : List FrameValue) (place count : ℕ) → frames_between text 0 entries ≡ frames → place < length frames → count ≡ length entries → place < count
place_in text entries frames place count is there all = omega (arith, ap length is, length-frames text 0 entries)

-- an entry at a place, and its frame
pub record IsAt (text : List ℕ) (frames : List FrameValue) (place start : ℕ) (entry : Entry) : Type 0 where
  pub within : entry.end ≤ length text
  pub placed : IsPlaced entry.place (entry.end - start)
  pub frame : (d : FrameValue) → get_or frames place d ≡ frame_at (slice_range text start entry.end) entry.place

pub first_at : (text : List ℕ) (start : ℕ) (entries : List Entry) (end : ℕ) (entry : Entry) → AreCut text start entries end → 0 < length entries → entry ≡ get_or entries 0 entry
    → IsAt text (frames_between text start entries) 0 start entry
first_at text start [] end entry h there is = absurd (omega arith)
first_at text start (first ∷ entries) end entry h there is =
    let bound = cut_within text first.end entries end h.1 in
    subst (λ (e : Entry). IsAt text (frames_between text start (first ∷ entries)) 0 start e) (sym is) (record {
      within = omega (arith, bound.0, bound.1);
      placed = h.0;
      frame = λ d. refl;
    })

pub next_at : (text : List ℕ) (start : ℕ) (entries : List Entry) (end place : ℕ) (before entry : Entry) → AreCut text start entries end → suc place < length entries
    → before ≡ get_or entries place before → entry ≡ get_or entries (suc place) entry → IsAt text (frames_between text start entries) (suc place) before.end entry
next_at text start [] end place before entry h there was is = absurd (omega arith)
next_at text start (first ∷ entries) end zero before entry h there was is =
    let at = first_at text first.end entries end entry h.1 (omega arith) is in
    subst (λ (e : Entry). IsAt text (frames_between text start (first ∷ entries)) 1 e.end entry) (sym was) (record {
      within = at.within;
      placed = at.placed;
      frame = at.frame;
    })
next_at text start (first ∷ entries) end (suc place) before entry h there was is =
    let at = next_at text first.end entries end place before entry h.1 (omega arith) was is in
    record {
      within = at.within;
      placed = at.placed;
      frame = at.frame;
    }

-- what is behind the last frame of a text makes no difference
cut_take : (text : List ℕ) (start : ℕ) (entries : List Entry) (end : ℕ) → AreCut text start entries end → AreCut (take end text) start entries end
cut_take text start [] end h = (h.0, omega (arith, h.1, length-take-le end text h.1))
cut_take text start (entry ∷ entries) end h = (h.0, cut_take text entry.end entries end h.1)

pub cut_here : (text : List ℕ) (entries : List Entry) (end : ℕ) → AreCut text 0 entries end → AreCut (take end text) 0 entries (length (take end text))
cut_here text entries end h =
    let size = length-take-le end text (cut_within text 0 entries end h).1 in
    subst (λ place. AreCut (take end text) 0 entries place) (sym size) (cut_take text 0 entries end h)

pub frames_here : (text : List ℕ) (entries : List Entry) (end : ℕ) → AreCut text 0 entries end → frames_between (take end text) 0 entries ≡ frames_between text 0 entries
frames_here text entries end h =
    sym (frames-append (take end text) (drop end text) 0 entries end (cut_take text 0 entries end h)) ∙ ap (λ bytes. frames_between bytes 0 entries) (take-append-drop end text)

-- a place behind the first
pub behind_first : (text : List ℕ) (entries : List Entry) (place : ℕ) (before entry : Entry) → AreCut text 0 entries (length text) → (place ≡ 0 → ⊥) → place < length entries
    → before ≡ get_or entries (place - 1) before → entry ≡ get_or entries place entry → IsAt text (frames_between text 0 entries) place before.end entry
behind_first text entries zero before entry h later there was is = absurd (later refl)
behind_first text entries (suc place) before entry h later there was is =
    let one : suc place - 1 ≡ place = omega arith in
    next_at text 0 entries (length text) place before entry h there (was ∙ ap (λ i. get_or entries i before) one) is
