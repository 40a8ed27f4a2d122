-- Frames that are taken in one after the other.
use Rattle.std.proofs.Common.{◌≡◌, ℕ, suc, ◌+◌, ◌<◌, List, [], ◌∷◌, ◌++◌, length, get_or, take, drop, take-append-drop, length-drop, sym, ap, subst, ◌∙◌, arith, append_assoc, true, OnErr, Result, Ok, Err}
use Rattle.std.specs.List.{AllZip}
use Rattle.std.proofs.lemmas.List.{length-take-le, take_more}
use Rattle.pcap_capture.specs.Frames.{FrameValue}
use Rattle.frame_marker.specs.declared.sight.Seen.{Seen}
use Rattle.ds_conditioner.specs.Conditionings.{IsConditioned}
use Rattle.ds_conditioner.specs.declared.conditioner.Conditioner.{Conditioner}
use Rattle.ds_conditioner.specs.declared.port.Port.{Port}
use Rattle.ds_conditioner.proofs.NoteLaws.{drop_next, first_there, read_ahead}
use Rattle.ds_conditioner.proofs.SeenLaws.{goes_long, goes_there}

-- the first of the frames that are left, and those behind it
pub record IsNext (frames : List FrameValue) (place : ℕ) (ahead : List FrameValue) : Type 0 where
  pub frame : FrameValue
  pub others : List FrameValue
  pub there : ahead ≡ frame ∷ others
  pub behind : others ≡ drop (place + 1) frames
  pub taken : take (place + 1) frames ≡ take place frames ++ frame ∷ []
  pub whole : frames ≡ take place frames ++ frame ∷ others

pub next_ahead : (frames : List FrameValue) (place : ℕ) (ahead : List FrameValue) → ahead ≡ drop place frames → place < length frames → IsNext frames place ahead
next_ahead frames place ahead at within =
    let there = first_there ahead (omega (arith, ap length at, length-drop place frames)) in
    let f = there.0 in
    let front : drop place frames ≡ f ∷ there.1 = sym at ∙ there.2 in
    let up : suc place ≡ place + 1 = omega arith in
    record {
      frame = f;
      others = there.1;
      there = there.2;
      behind = sym (drop_next place frames f there.1 front) ∙ ap (λ k. drop k frames) up;
      taken = take_more frames place f within ∙ ap (λ (g : FrameValue). take place frames ++ g ∷ []) (read_ahead place frames f f there.1 front);
      whole = sym (take-append-drop place frames) ∙ ap (λ (fs : List FrameValue). take place frames ++ fs) front;
    }

-- what goes with the frames goes with the first that is left
module _ (R : FrameValue → Seen → Type 0) (frames : List FrameValue) (place : ℕ) (ahead : List FrameValue) (next : IsNext frames place ahead) (seen : List Seen) (all : AllZip R frames seen) (within : place < length frames) where
  with_next : AllZip R (take place frames ++ next.frame ∷ next.others) seen
  with_next = subst (λ (fs : List FrameValue). AllZip R fs seen) next.whole all

  front_long : length (take place frames) ≡ place
  front_long = length-take-le place frames (omega arith)

  pub seen_long : place < length seen
  seen_long = omega (arith, front_long, goes_long R (take place frames) next.frame next.others seen with_next)

  pub seen_there : (s : Seen) → s ≡ get_or seen place s → R next.frame s
  seen_there s is =
      subst (λ (t : Seen). R next.frame t) (ap (λ k. get_or seen k s) front_long ∙ sym is) (goes_there R (take place frames) next.frame next.others seen s with_next)

-- none of them are taken in, or a front of them
pub on_err : {T E P : Type 0} (r : Result T E) → P → OnErr r P
on_err (Ok x) p = tt
on_err (Err e) p = p

module _ (p : Port) (text : List ℕ) (before taken : List FrameValue) where
  pub joined : (after : Conditioner) (frames : List FrameValue) (place : ℕ) (ahead : List FrameValue) (next : IsNext frames place ahead)
      → IsConditioned p true ((before ++ take place frames) ++ next.frame ∷ []) text after → IsConditioned p true (before ++ take (place + 1) frames) text after
  joined after frames place ahead next at =
      subst (λ (all : List FrameValue). IsConditioned p true all text after)
      (append_assoc before (take place frames) (next.frame ∷ []) ∙ ap (λ (fs : List FrameValue). before ++ fs) (sym next.taken)) at
