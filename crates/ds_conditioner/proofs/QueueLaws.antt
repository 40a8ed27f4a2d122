-- Pieces that frames are held of, one behind the other.
use Rattle.std.proofs.Common.{◌≡◌, ℕ, Bool, true, false, nat_eq, ◌+◌, ◌<◌, List, [], ◌∷◌, ◌++◌, length, append-nil, append_assoc, refl, sym, ap, ap₂, subst, ◌∙◌, arith, All, Option, None, Some, option_to_list, MatchOption}
use Rattle.std.proofs.lemmas.Bool.Decides.{nat_tests}
use Rattle.std.proofs.lemmas.List.Elements.{All-head, All-nil, All-push, All-tail}
use Rattle.std.specs.Option.{unwrap_or}
use Rattle.ds_conditioner.specs.Helds.{HeldFramesValue, HeldValue, IsFirstFrame, IsFirstPacket, IsLetGo}
use Rattle.ds_conditioner.specs.Queues.{AreHeld, held_between}
use Rattle.ds_conductor_base.specs.declared.sent.Sent.{Sent}
use Rattle.ds_conditioner.specs.Seens.{SeenValue}

abbrev IsSome : HeldFramesValue → Type 0
IsSome h = 0 < length h.held

pub nil_long : {A : Type 0} (xs : List A) → length xs ≡ 0 → xs ≡ []
nil_long [] none = refl
nil_long (x ∷ xs) none = absurd (omega arith)

pub between_push : (pieces : List HeldFramesValue) (piece : HeldFramesValue) → held_between (pieces ++ piece ∷ []) ≡ held_between pieces ++ piece.held
between_push [] piece = append-nil piece.held
between_push (first ∷ pieces) piece =
    ap (λ (hs : List HeldValue). first.held ++ hs) (between_push pieces piece) ∙ sym (append_assoc first.held (held_between pieces) piece.held)

pub empty_by : (count : ℕ) (is_empty : Bool) → is_empty ≡ nat_eq count 0 → is_empty ≡ true → count ≡ 0
empty_by count is_empty told is = grind (arith, nat_tests)

pub some_by : (count : ℕ) (is_empty : Bool) → is_empty ≡ nat_eq count 0 → is_empty ≡ false → 0 < count
some_by count is_empty told is = grind (arith, nat_tests)

-- no piece is between
pub none_still : (next : HeldFramesValue) (rest : List HeldFramesValue) → rest ≡ [] → AreHeld next rest
none_still next rest left = record { all = subst (All IsSome) (sym left) (All-nil IsSome); none = λ e. left }

-- what pieces stand for
abbrev pub view_of : HeldFramesValue → List HeldFramesValue → HeldFramesValue → HeldFramesValue
view_of first between last = record { held = first.held ++ (held_between between ++ last.held); ahead = last.ahead }

module _ (first : HeldFramesValue) (between : List HeldFramesValue) (last old : HeldFramesValue) (was : AreHeld first between) (view : view_of first between last ≡ old) where
  pub same_held : old.held ≡ first.held ++ (held_between between ++ last.held)
  same_held = ap (λ (h : HeldFramesValue). h.held) (sym view)

  -- where the first piece has none, there is but the newest
  module _ (none : length first.held ≡ 0) where
    empty : first.held ≡ []
    empty = nil_long first.held none

    no_between : between ≡ []
    no_between = was.none empty

    pub but_last : old.held ≡ last.held
    but_last = same_held ∙ ap (λ (hs : List HeldValue). hs ++ (held_between between ++ last.held)) empty ∙ ap (λ (ps : List HeldFramesValue). held_between ps ++ last.held) no_between

    -- another piece stands in the first one's place
    pub moved : (next : HeldFramesValue) → next.held ≡ [] → (view_of last between next).held ≡ old.held
    moved next fresh =
        ap (λ (ps : List HeldFramesValue). last.held ++ (held_between ps ++ next.held)) no_between
        ∙ ap (λ (hs : List HeldValue). last.held ++ hs) fresh ∙ append-nil last.held ∙ sym but_last

  -- and else its first frame is the first of all
  pub first_packet : (packet : Option Sent) → IsFirstPacket first.held packet → IsFirstPacket old.held packet
  first_packet packet is = (is.0, is.1 ++ (held_between between ++ last.held), same_held ∙ ap (λ (hs : List HeldValue). hs ++ (held_between between ++ last.held)) is.2, is.3)

  pub first_frame : (frame : SeenValue) → IsFirstFrame first.held frame → IsFirstFrame old.held frame
  first_frame frame is = (is.0, is.1 ++ (held_between between ++ last.held), same_held ∙ ap (λ (hs : List HeldValue). hs ++ (held_between between ++ last.held)) is.2, is.3)

  -- a piece that has frames is pushed behind the others
  module _ (more : List HeldFramesValue) (push : more ≡ between ++ last ∷ []) where
    pub pushed : (next : HeldFramesValue) → next.held ≡ [] → (view_of first more next).held ≡ old.held
    pushed next fresh =
        ap (λ (ps : List HeldFramesValue). first.held ++ (held_between ps ++ next.held)) push
        ∙ ap₂ (λ (hs is : List HeldValue). first.held ++ (hs ++ is)) (between_push between last) fresh
        ∙ ap (λ (hs : List HeldValue). first.held ++ hs) (append-nil (held_between between ++ last.held)) ∙ sym same_held

    pub still_pushed : 0 < length first.held → 0 < length last.held → AreHeld first more
    still_pushed there some = record {
      all = subst (All IsSome) (sym push) (All-push IsSome between last was.all some);
      none = λ e. absurd (omega (arith, there, ap length e));
    }

  -- one that has none is left out
  pub left_out : (next : HeldFramesValue) → next.held ≡ [] → length last.held ≡ 0 → (view_of first between next).held ≡ old.held
  left_out next fresh none =
      ap (λ (hs : List HeldValue). first.held ++ (held_between between ++ hs)) (fresh ∙ sym (nil_long last.held none)) ∙ sym same_held

  pub first_let_go : (after : HeldFramesValue) → IsLetGo first after → IsLetGo old (view_of after between last)
  first_let_go after gone = (
    gone.0,
    same_held ∙ ap (λ (hs : List HeldValue). hs ++ (held_between between ++ last.held)) gone.1,
    ap (λ (h : HeldFramesValue). h.ahead) view,
  )

  -- and where it was the last one of its piece, the next piece stands in its place
  module _ (after : HeldFramesValue) (gone : IsLetGo first after) (none : length after.held ≡ 0) where
    alone : (view_of after between last).held ≡ held_between between ++ last.held
    alone = ap (λ (hs : List HeldValue). hs ++ (held_between between ++ last.held)) (nil_long after.held none)

    pub next_first : (next : HeldFramesValue) (rest : List HeldFramesValue) → between ≡ next ∷ rest → IsLetGo old (view_of next rest last)
    next_first next rest there =
        let all = first_let_go after gone in (
          all.0,
          all.1 ∙ ap (λ (hs : List HeldValue). all.0 ∷ hs) (alone ∙ ap (λ (ps : List HeldFramesValue). held_between ps ++ last.held) there ∙ append_assoc next.held (held_between rest) last.held),
          all.2,
        )

    pub none_first : (next : HeldFramesValue) (rest : List HeldFramesValue) → between ≡ [] → rest ≡ [] → next.held ≡ [] → IsLetGo old (view_of next rest last)
    none_first next rest there left fresh =
        let all = first_let_go after gone in (
          all.0,
          all.1 ∙ ap (λ (hs : List HeldValue). all.0 ∷ hs) (alone ∙ ap (λ (ps : List HeldFramesValue). held_between ps ++ last.held) (there ∙ sym left)
              ∙ ap (λ (hs : List HeldValue). hs ++ (held_between rest ++ last.held)) (sym fresh)),
          all.2,
        )

  pub next_still : (next : HeldFramesValue) (rest : List HeldFramesValue) → between ≡ next ∷ rest → AreHeld next rest
  next_still next rest there =
      let all : All IsSome (next ∷ rest) = subst (All IsSome) there was.all in
      let some : 0 < length next.held = All-head IsSome next rest all in
      record { all = All-tail IsSome next rest all; none = λ e. absurd (omega (arith, some, ap length e)) }

  -- the piece that is taken out from between, if one is, stands in the first one's place
  module _ (after : HeldFramesValue) (gone : IsLetGo first after) (none : length after.held ≡ 0) (fresh : HeldFramesValue) (bare : fresh.held ≡ []) where
    pub taken : (o : Option HeldFramesValue) (rest : List HeldFramesValue) (next : HeldFramesValue) (count left : ℕ) → between ≡ option_to_list o ++ rest
        → MatchOption o ((count ≡ 0) × (left ≡ 0)) (λ _. left + 1 ≡ count) → count ≡ length between → next ≡ unwrap_or o fresh → AreHeld next rest × IsLetGo old (view_of next rest last)
    taken None rest next count left parted cases all is =
        let there : between ≡ [] = nil_long between (omega (arith, all, cases.0)) in
        let over : rest ≡ [] = sym parted ∙ there in
        (none_still next rest over, none_first after gone none next rest there over (ap (λ (h : HeldFramesValue). h.held) is ∙ bare))
    taken (Some piece) rest next count left parted cases all is =
        let there : between ≡ next ∷ rest = parted ∙ ap (λ (h : HeldFramesValue). h ∷ rest) (sym is) in
        (next_still next rest there, next_first after gone none next rest there)
