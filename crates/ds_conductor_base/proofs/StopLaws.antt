-- The stops of a path, by its legs one by one.
use Rattle.std.proofs.Common.{◌≡◌, ◌<◌, ◌+◌, ℕ, suc, List, [], ◌∷◌, ◌++◌, length, drop, get_or, refl, sym, ap, ◌∙◌, append_assoc, add-one, rules}
use Rattle.std.proofs.lemmas.List.{drop_more}
use Rattle.ds_domain_base.specs.Domains.{Domain}
use Rattle.ds_domain_base.specs.Routes.{legs_along}
use Rattle.ds_domain_base.specs.declared.route.Leg.{Leg}
use Rattle.meter_fabric_base.specs.Sites.{site_of}
use Rattle.ds_conductor_base.specs.Ways.{Stop, delay_over, stops_along, stops_on}

-- the legs of a path have the stops of its meters
pub stops_on-along : (d : Domain) (number : ℕ) (from : List ℕ) (delay : ℕ) (path : List (List ℕ)) → stops_on number delay (legs_along d from path) ≡ stops_along d number from delay path
unfolding stops_on stops_along legs_along
stops_on-along d number from delay [] = refl
stops_on-along d number from delay (to ∷ path) =
    let first : Stop = record { hop = record { number = number; site = site_of d to }; delay = delay_over d from to delay } in
    ap (λ stops. first ∷ stops) (stops_on-along d (suc number) to (delay_over d from to delay) path)

stops_on-cons : (done : List Stop) (number delay : ℕ) (leg : Leg) (legs : List Leg)
    → done ++ stops_on number delay (leg ∷ legs)
    ≡ (done ++ record { hop = record { number = number; site = leg.place }; delay = delay + leg.floor } ∷ []) ++ stops_on (number + 1) (delay + leg.floor) legs
unfolding stops_on
stops_on-cons done number delay leg legs = simp (add-one, append_assoc)

pub stops_on-none : (done : List Stop) (number delay : ℕ) → done ++ stops_on number delay [] ≡ done
unfolding stops_on
stops_on-none done number delay = search rules

-- one stop more
pub stop_more : (done items all : List Stop) (number i : ℕ) (leg : Leg) (delay later : ℕ) (legs : List Leg) → i < length legs → leg ≡ get_or legs i leg → later ≡ delay + leg.floor
    → items ≡ done ++ record { hop = record { number = number; site = leg.place }; delay = later } ∷ []
    → done ++ stops_on number delay (drop i legs) ≡ all → items ++ stops_on (number + 1) later (drop (i + 1) legs) ≡ all
stop_more done items all number i leg delay later legs inside is_leg is_later pushed kept =
    let here : drop i legs ≡ leg ∷ drop (i + 1) legs = drop_more legs i leg inside ∙ ap (λ (l : Leg). l ∷ drop (i + 1) legs) (sym is_leg) in
    let before = ap (λ (left : List Leg). done ++ stops_on number delay left) here in
    let timed =
    ap (λ (e : ℕ). (done ++ record { hop = record { number = number; site = leg.place }; delay = e } ∷ []) ++ stops_on (number + 1) e (drop (i + 1) legs)) is_later in
    ap (λ (stops : List Stop). stops ++ stops_on (number + 1) later (drop (i + 1) legs)) pushed ∙ timed ∙ sym (stops_on-cons done number delay leg (drop (i + 1) legs)) ∙ sym before ∙ kept
