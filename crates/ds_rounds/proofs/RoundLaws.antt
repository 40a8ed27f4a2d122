-- What one visit more makes of a round.
use Rattle.std.proofs.Common.{◌≡◌, ℕ, zero, suc, ◌+◌, ◌<◌, ◌≤◌, Bool, true, false, List, [], ◌∷◌, ◌++◌, length, map, take, drop, get_or, refl, sym, ap, subst, subst₂, ◌∙◌, arith, nat_eq}
use Rattle.std.specs.List.{list_any}
use Rattle.std.proofs.lemmas.Bool.Decides.{nat_tests}
use Rattle.std.proofs.lemmas.List.{get_or-map, get_or_append_left, get_or_push, length-map, length_push, map-append, take_more, take-append-drop, take-take, length-append}
use Rattle.std.proofs.lemmas.List.Elements.{All-push}
use Rattle.std.proofs.lemmas.List.Folds.{Any-from_list_any, list_any_at}
use Rattle.std.proofs.lemmas.List.Quantifiers.{all_pairs_push}
use Rattle.ds_rounds.specs.Rounds.{GoesOn, IsRound, IsWithin}
use Rattle.ds_rounds.specs.declared.visit.Visit.{Visit}

abbrev pub packet_of : Visit → ℕ
packet_of v = v.packet

-- when a round begins, to which a visit comes
abbrev pub begin_of : List Visit → Visit → ℕ
begin_of [] v = v.moment
begin_of (first ∷ others) v = first.moment

pub begin_is : (visits : List Visit) (i : ℕ) (d v : Visit) → i < length visits → v ≡ get_or visits i v
    → begin_of (take i visits) v ≡ (get_or visits 0 d).moment
begin_is [] i d v inside here = absurd (omega (arith, inside))
begin_is (x ∷ visits) zero d v inside here = ap (λ (w : Visit). w.moment) here
begin_is (x ∷ visits) (suc i) d v inside here = refl

-- ---- the packets of a round

-- no visit of a round is of the packet
abbrev pub IsApart : List Visit → Visit → Type 0
IsApart round v = (k : ℕ) (d : Visit) → k < length round → ¬ ((get_or round k d).packet ≡ v.packet)

pub apart : (round : List Visit) (v : Visit) → list_any (nat_eq v.packet) (map packet_of round) ≡ false
    → IsApart round v
apart round v none k d below same =
    let there : list_any (nat_eq v.packet) (map packet_of round) ≡ true =
    list_any_at (nat_eq v.packet) (map packet_of round) k 0 (omega (arith, below, length-map round packet_of))
    (equal v.packet (get_or (map packet_of round) k 0) (sym same ∙ sym (get_or-map packet_of round k d 0 below))) in
    cc
  where
    equal : (a b : ℕ) → a ≡ b → nat_eq a b ≡ true
    equal a b is = grind (arith, nat_tests)

pub none_is : (round : List Visit) (v : Visit) → IsApart round v
    → list_any (nat_eq v.packet) (map packet_of round) ≡ false
none_is round v is = by_cases (list_any (nat_eq v.packet) (map packet_of round)) refl
  where
    same_number : (a b : ℕ) → nat_eq a b ≡ true → a ≡ b
    same_number a b passes = grind (arith, nat_tests)

    by_cases : (there : Bool) → list_any (nat_eq v.packet) (map packet_of round) ≡ there → there ≡ false
    by_cases false here = refl
    by_cases true here =
        let (k, n, inside, at, passes) = Any-from_list_any (nat_eq v.packet) (map packet_of round) here in
        let short : k < length round = omega (arith, inside, length-map round packet_of) in
        absurd (is k v short (sym (get_or-map packet_of round k v n short) ∙ at ∙ sym (same_number v.packet n passes)))

-- ---- its moments

pub within_push : (skew : ℕ) (round : List Visit) (v : Visit) → IsWithin skew round → v.moment ≤ begin_of round v + skew
    → IsWithin skew (round ++ v ∷ [])
within_push skew [] v is near = λ k d below. absurd (omega (arith, below))
within_push skew (x ∷ xs) v is near = All-push (λ (w : Visit). w.moment ≤ x.moment + skew) xs v is near

pub within_last : (skew : ℕ) (round : List Visit) (v : Visit) → IsWithin skew (round ++ v ∷ [])
    → v.moment ≤ begin_of round v + skew
within_last skew [] v is = omega arith
within_last skew (x ∷ xs) v is =
    subst (λ (w : Visit). w.moment ≤ x.moment + skew) (get_or_push xs v v (length xs) refl) (is (length xs) v (omega (arith, length_push xs v)))

pub within_front : (skew : ℕ) (xs ys : List Visit) → IsWithin skew (xs ++ ys) → IsWithin skew xs
within_front skew [] ys is = tt
within_front skew (x ∷ xs) ys is = λ k d below.
    subst (λ (w : Visit). w.moment ≤ x.moment + skew) (get_or_append_left xs ys d k below) (is k d (omega (arith, below, length-append xs ys)))

-- ---- a round and one visit more

pub goes_on : (skew : ℕ) (round : List Visit) (v : Visit) → IsRound skew round
    → GoesOn skew (begin_of round v) (map packet_of round) v
    → IsRound skew (round ++ v ∷ [])
goes_on skew round v is goes = record {
  within = within_push skew round v is.within goes.0;
  once = all_pairs_push (λ (a b : Visit). ¬ (a.packet ≡ b.packet)) round v is.once (apart round v goes.2);
  short = omega (arith, goes.1, length-map round packet_of, length_push round v);
}

pub went_on : (skew : ℕ) (round : List Visit) (v : Visit) → IsRound skew (round ++ v ∷ [])
    → GoesOn skew (begin_of round v) (map packet_of round) v
went_on skew round v is = (
  within_last skew round v is.within,
  omega (arith, is.short, length-map round packet_of, length_push round v),
  none_is round v (λ k d below same.
      is.once k (length round) d below (omega (arith, length_push round v))
      (ap packet_of (get_or_append_left round (v ∷ []) d k below) ∙ same ∙ sym (ap packet_of (get_or_push round v d (length round) refl)))),
)

-- the front of a round is one
pub front_round : (skew : ℕ) (xs ys : List Visit) → IsRound skew (xs ++ ys) → IsRound skew xs
front_round skew xs ys is = record {
  within = within_front skew xs ys is.within;
  once = λ i j d first below same.
      is.once i j d first (omega (arith, below, length-append xs ys))
      (ap packet_of (get_or_append_left xs ys d i (omega arith)) ∙ same ∙ sym (ap packet_of (get_or_append_left xs ys d j below)));
  short = omega (arith, is.short, length-append xs ys);
}

pub take_round : (skew : ℕ) (visits : List Visit) (k m : ℕ) → k ≤ m → IsRound skew (take m visits)
    → IsRound skew (take k visits)
take_round skew visits k m less is =
    front_round skew (take k visits) (drop k (take m visits))
    (subst (IsRound skew) (sym (take-append-drop k (take m visits)) ∙ ap (λ front. front ++ drop k (take m visits)) (take-take k m visits less)) is)

-- ---- along visits

pub one_more : (skew : ℕ) (visits : List Visit) (i : ℕ) (d v : Visit) (keys : List ℕ) → i < length visits
    → v ≡ get_or visits i v
    → keys ≡ map packet_of (take i visits) → IsRound skew (take i visits)
    → GoesOn skew (get_or visits 0 d).moment keys v
    → IsRound skew (take (i + 1) visits)
one_more skew visits i d v keys inside here known is goes =
    subst (IsRound skew) (ap (λ (w : Visit). take i visits ++ w ∷ []) here ∙ sym (take_more visits i v inside))
    (goes_on skew (take i visits) v is (subst₂ (λ begin packets. GoesOn skew begin packets v) (sym (begin_is visits i d v inside here)) known goes))

pub went_on_there : (skew : ℕ) (visits : List Visit) (i : ℕ) (d v : Visit) (keys : List ℕ) → i < length visits
    → v ≡ get_or visits i v
    → keys ≡ map packet_of (take i visits) → IsRound skew (take (i + 1) visits)
    → GoesOn skew (get_or visits 0 d).moment keys v
went_on_there skew visits i d v keys inside here known is =
    subst₂ (λ begin packets. GoesOn skew begin packets v) (begin_is visits i d v inside here) (sym known)
    (went_on skew (take i visits) v (subst (IsRound skew) (take_more visits i v inside ∙ ap (λ (w : Visit). take i visits ++ w ∷ []) (sym here)) is))

-- one visit is a round, so that one which does not go on has some
pub some_there : (skew : ℕ) (visits : List Visit) (i : ℕ) (d v : Visit) (keys : List ℕ) → i < length visits
    → v ≡ get_or visits i v
    → keys ≡ map packet_of (take i visits) → ¬ GoesOn skew (get_or visits 0 d).moment keys v → 0 < i
some_there skew [] i d v keys inside here known stops = absurd (omega (arith, inside))
some_there skew (x ∷ visits) zero d v keys inside here known stops =
    absurd (stops (omega (arith, ap (λ (w : Visit). w.moment) here), omega (arith, ap length known), ap (list_any (nat_eq v.packet)) known))
some_there skew (x ∷ visits) (suc i) d v keys inside here known stops = omega arith

pub packets_more : (visits : List Visit) (i : ℕ) (v : Visit) (keys more : List ℕ) → i < length visits
    → v ≡ get_or visits i v
    → keys ≡ map packet_of (take i visits) → more ≡ keys ++ v.packet ∷ [] → more ≡ map packet_of (take (i + 1) visits)
packets_more visits i v keys more inside here kept pushed =
    pushed ∙ ap (λ ns. ns ++ v.packet ∷ []) kept ∙ sym (map-append packet_of (take i visits) (v ∷ []))
    ∙ ap (map packet_of) (ap (λ (w : Visit). take i visits ++ w ∷ []) here ∙ sym (take_more visits i v inside))
