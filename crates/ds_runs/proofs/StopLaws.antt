-- The stops of a contract's packets: their hops, their order, and what stands there.
use Rattle.std.proofs.Common.{◌≡◌, ◌<◌, ◌≤◌, ◌+◌, ◌-◌, ℕ, suc, Bool, true, false, List, [], ◌∷◌, ◌++◌, length, map, Option, None, Some, refl, sym, ap, ◌∙◌, subst, arith, ◌&&◌, ◌||◌, nat_eq, nat_lt, option_and_then, slice_get, IsSome, bytes_eq}
use Rattle.std.specs.List.{All, filter, list_any}
use Rattle.std.proofs.lemmas.Bool.{eqb-true, false≢true, ne_eqb}
use Rattle.std.proofs.lemmas.Bool.Decides.{nat_tests}
use Rattle.std.proofs.lemmas.List.Elements.{All-cons, All-head, All-map, All-nil, All-tail, All-weaker}
use Rattle.std.proofs.lemmas.Option.{same_Some, slice_get_within}
use Rattle.std.proofs.lemmas.Slice.Eq.{bytes_eq-Decides}
use Rattle.ds_domain_base.specs.Domains.{Domain}
use Rattle.ds_domain_base.specs.Fitting.{repeats}
use Rattle.ds_domain_base.specs.declared.contract.Contract.{Contract}
use Rattle.ds_domain_base.specs.declared.parts.Meter.{Meter}
use Rattle.ds_domain_base.specs.declared.terms.Terms.{Terms}
use Rattle.ds_domain_base.specs.declared.terms.Terms.TheVariants.{Trusted, Policed}
use Rattle.meter_fabric_base.specs.Grounds.{Ground, contract_of}
use Rattle.meter_fabric_base.specs.Openings.{edge_opening, opening_at}
use Rattle.meter_fabric_base.specs.Sites.{edge_hops, hops_along, hops_of, site_of}
use Rattle.meter_fabric_base.specs.declared.hop.Hop.{Hop}
use Rattle.meter_fabric_base.specs.declared.site.Opening.{Opening}
use Rattle.meter_fabric_base.proofs.GroundLaws.{opening_behind}
use Rattle.run_audit.proofs.Places.{IsMeter, found_at}
use Rattle.run_audit.proofs.Ways.{neither}
use Rattle.meter_fabric_base.proofs.OrderLaws.{Ascends}
use Rattle.ds_conductor_base.specs.Visits.{is_before, later, visit_to}
use Rattle.ds_conductor_base.specs.Ways.{delay_over, edge_stops, stops_along, stops_by, stops_of, Stop}
use Rattle.ds_conductor_base.specs.declared.sent.Sent.{Sent}
use Rattle.ds_runs.proofs.ListLaws.{keep_no, keep_none, keep_yes}

-- ---- their hops

abbrev pub hop_in : Stop → Hop
hop_in r = r.hop

along-hops : (d : Domain) (number : ℕ) (from : List ℕ) (delay : ℕ) (path : List (List ℕ)) → map hop_in (stops_along d number from delay path) ≡ hops_along d number path
unfolding stops_along hops_along
along-hops d number from delay [] = refl
along-hops d number from delay (to ∷ path) =
    let first : Hop = record { number = number; site = site_of d to } in
    ap (λ hops. first ∷ hops) (along-hops d (suc number) to (delay_over d from to delay) path)

pub stops_of-hops : (d : Domain) (flow : ℕ) (c : Contract) → map hop_in (stops_of d flow c) ≡ hops_of d flow c
stops_of-hops d flow c = by c.terms
  where
    by : (terms : Terms) → map hop_in (edge_stops d flow terms ++ stops_along d 1 c.port 0 c.path) ≡ edge_hops d flow terms ++ hops_along d 1 c.path
    by (Trusted committed peak) = along-hops d 1 c.port 0 c.path
    by (Policed parameters mode) =
        let edge : Hop = record { number = 0; site = length d.meters + flow } in
        ap (λ hops. edge ∷ hops) (along-hops d 1 c.port 0 c.path)

-- ---- their order

-- a stop stands no further in front, and a packet comes there no earlier
abbrev IsFrom : ℕ → ℕ → Stop → Type 0
IsFrom number delay r = (number ≤ r.hop.number) × (delay ≤ r.delay)

along-from : (d : Domain) (least number : ℕ) (from : List ℕ) (early delay : ℕ) (path : List (List ℕ)) → least ≤ number → early ≤ delay
    → All (IsFrom least early) (stops_along d number from delay path)
unfolding stops_along
along-from d least number from early delay [] low less = All-nil (IsFrom least early)
along-from d least number from early delay (to ∷ path) low less =
    let first : Stop = record { hop = record { number = number; site = site_of d to }; delay = delay_over d from to delay } in
    let more : early ≤ delay_over d from to delay = omega (arith, less) in
    All-cons (IsFrom least early) first (stops_along d (suc number) to (delay_over d from to delay) path) (low, more)
    (along-from d least (suc number) to early (delay_over d from to delay) path (omega (arith, low)) more)

later-rises : (m d e : ℕ) → d ≤ e → later m d ≤ later m e
later-rises m d e less = grind arith

visit_first : (place : ℕ) (s : Sent) (r q : Stop) → r.hop.number < q.hop.number → r.delay ≤ q.delay → is_before (visit_to place s r) (visit_to place s q) ≡ true
visit_first place s r q below less =
    by_numbers (later s.moment r.delay) (later s.moment q.delay) place r.hop.number q.hop.number (later-rises s.moment r.delay q.delay less) below
  where
    by_numbers : (a b p h i : ℕ) → a ≤ b → h < i → (nat_lt a b || nat_eq a b && (nat_lt p p || nat_eq p p && nat_lt h i)) ≡ true
    by_numbers a b p h i less below = grind (arith, nat_tests)

module _ (place : ℕ) (s : Sent) where
  before_all : (r : Stop) (number delay : ℕ) (stops : List Stop) → r.hop.number < number → r.delay ≤ delay → All (IsFrom number delay) stops
      → All (λ w. is_before (visit_to place s r) w ≡ true) (map (visit_to place s) stops)
  before_all r number delay stops below less from =
      All-map (λ w. is_before (visit_to place s r) w ≡ true) (visit_to place s) stops
      (All-weaker (IsFrom number delay) (λ q. is_before (visit_to place s r) (visit_to place s q) ≡ true)
      (λ q is. visit_first place s r q (omega (arith, below, is.0)) (omega (arith, less, is.1))) stops from)

  along-ascends : (d : Domain) (number : ℕ) (from : List ℕ) (delay : ℕ) (path : List (List ℕ)) → Ascends is_before (map (visit_to place s) (stops_along d number from delay path))
  unfolding stops_along Ascends
  along-ascends d number from delay [] = tt
  along-ascends d number from delay (to ∷ path) =
      let first : Stop = record { hop = record { number = number; site = site_of d to }; delay = delay_over d from to delay } in (
        before_all first (suc number) (delay_over d from to delay) (stops_along d (suc number) to (delay_over d from to delay) path) (omega arith) (omega arith)
            (along-from d (suc number) (suc number) to (delay_over d from to delay) (delay_over d from to delay) path (omega arith) (omega arith)),
        along-ascends d (suc number) to (delay_over d from to delay) path,
      )

  pub stops-ascend : (d : Domain) (flow : ℕ) (found : Option Contract) → Ascends is_before (map (visit_to place s) (stops_by d flow found))
  unfolding Ascends
  stops-ascend d flow None = tt
  stops-ascend d flow (Some c) = by c.terms
    where
      by : (terms : Terms) → Ascends is_before (map (visit_to place s) (edge_stops d flow terms ++ stops_along d 1 c.port 0 c.path))
      by (Trusted committed peak) = along-ascends d 1 c.port 0 c.path
      by (Policed parameters mode) =
          let edge : Stop = record { hop = record { number = 0; site = length d.meters + flow }; delay = 0 } in (
            before_all edge 1 0 (stops_along d 1 c.port 0 c.path) (omega arith) (omega arith) (along-from d 1 1 c.port 0 0 c.path (omega arith) (omega arith)),
            along-ascends d 1 c.port 0 c.path,
          )

-- ---- what stands there

-- a meter stands at each name of a path
meter_there : (g : Ground) (to : List ℕ) → IsMeter g.domain to → IsSome (opening_at g (site_of g.domain to))
meter_there g to known =
    let (entry, at_place, passes) = found_at g.domain to known in
    let low : nat_lt (site_of g.domain to) (length g.domain.meters) ≡ true = below_test (site_of g.domain to) (length g.domain.meters) (slice_get_within g.domain.meters (site_of g.domain to) entry at_place) in
    rw low (rw at_place refl)
  where
    below_test : (m n : ℕ) → m < n → nat_lt m n ≡ true
    below_test m n below = grind (arith, nat_tests)

along-there : (g : Ground) (number : ℕ) (from : List ℕ) (delay : ℕ) (path : List (List ℕ)) → All (IsMeter g.domain) path
    → All (λ (r : Stop). IsSome (opening_at g r.hop.site)) (stops_along g.domain number from delay path)
unfolding stops_along
along-there g number from delay [] known = All-nil (λ (r : Stop). IsSome (opening_at g r.hop.site))
along-there g number from delay (to ∷ path) known =
    let first : Stop = record { hop = record { number = number; site = site_of g.domain to }; delay = delay_over g.domain from to delay } in
    All-cons (λ (r : Stop). IsSome (opening_at g r.hop.site)) first (stops_along g.domain (suc number) to (delay_over g.domain from to delay) path)
    (meter_there g to (All-head (IsMeter g.domain) to path known))
    (along-there g (suc number) to (delay_over g.domain from to delay) path (All-tail (IsMeter g.domain) to path known))

-- an edge stands behind the meters where a contract is policed
edge_there : (g : Ground) (flow : ℕ) (c : Contract) → contract_of g flow ≡ Some c → IsSome (edge_opening g.domain c)
    → IsSome (opening_at g (length g.domain.meters + flow))
edge_there g flow c is there =
    let own : length g.domain.meters + flow - length g.domain.meters ≡ flow = omega arith in
    let found : opening_at g (length g.domain.meters + flow) ≡ edge_opening g.domain c =
    opening_behind g (length g.domain.meters + flow) (omega arith)
    ∙ ap (λ n. option_and_then (edge_opening g.domain) (contract_of g n)) own ∙ ap (option_and_then (edge_opening g.domain)) is in
    subst (λ (o : Option Opening). IsSome o) (sym found) there

pub stops-there : (g : Ground) (flow : ℕ) (c : Contract) → contract_of g flow ≡ Some c → All (IsMeter g.domain) c.path
    → All (λ (r : Stop). IsSome (opening_at g r.hop.site)) (stops_of g.domain flow c)
stops-there g flow c is known = by c.terms refl
  where
    There : Stop → Type 0
    There r = IsSome (opening_at g r.hop.site)

    by : (terms : Terms) → c.terms ≡ terms → All (λ (r : Stop). IsSome (opening_at g r.hop.site)) (edge_stops g.domain flow terms ++ stops_along g.domain 1 c.port 0 c.path)
    by (Trusted committed peak) terms = along-there g 1 c.port 0 c.path known
    by (Policed parameters mode) terms =
        let edge : Stop = record { hop = record { number = 0; site = length g.domain.meters + flow }; delay = 0 } in
        let opens : IsSome (edge_opening g.domain c) = rw terms refl in
        All-cons (λ (r : Stop). IsSome (opening_at g r.hop.site)) edge (stops_along g.domain 1 c.port 0 c.path) (edge_there g flow c is opens)
        (along-there g 1 c.port 0 c.path known)

-- ---- no site twice

-- names of one site are one name
one_name : (d : Domain) (a b : List ℕ) → IsMeter d a → IsMeter d b → site_of d a ≡ site_of d b → bytes_eq a b ≡ true
one_name d a b known also same =
    let (entry, at_place, passes) = found_at d a known in
    let (other, at_other, passes_too) = found_at d b also in
    let entries : entry ≡ other = same_Some entry other (sym at_place ∙ ap (slice_get d.meters) same ∙ at_other) in
    let a_is = (bytes_eq-Decides a entry.0).0 passes in
    let b_is = (bytes_eq-Decides b other.0).0 passes_too in
    (bytes_eq-Decides a b).1 (a_is ∙ ap (λ (e : List ℕ × Meter). e.0) entries ∙ sym b_is)

abbrev pub at_site : ℕ → Stop → Bool
at_site site r = nat_eq r.hop.site site

module _ (d : Domain) (site : ℕ) where
  -- a name that stands on no path behind it
  none_along : (name : List ℕ) (number : ℕ) (from : List ℕ) (delay : ℕ) (path : List (List ℕ)) → IsMeter d name → site_of d name ≡ site
      → All (IsMeter d) path → list_any (bytes_eq name) path ≡ false → All (λ r. at_site site r ≡ false) (stops_along d number from delay path)
  unfolding stops_along
  none_along name number from delay [] known is all none = All-nil (λ r. at_site site r ≡ false)
  none_along name number from delay (to ∷ path) known is all none =
      let first : Stop = record { hop = record { number = number; site = site_of d to }; delay = delay_over d from to delay } in
      let both = neither (bytes_eq name to) (list_any (bytes_eq name) path) none in
      All-cons (λ r. at_site site r ≡ false) first (stops_along d (suc number) to (delay_over d from to delay) path)
      (ne_eqb (site_of d to) site (λ same. false≢true (sym both.0 ∙ one_name d name to known (All-head (IsMeter d) to path all) (is ∙ sym same))))
      (none_along name (suc number) to (delay_over d from to delay) path known is (All-tail (IsMeter d) to path all) both.1)

  once_along : (number : ℕ) (from : List ℕ) (delay : ℕ) (path : List (List ℕ)) → All (IsMeter d) path → repeats path ≡ false
      → length (filter (at_site site) (stops_along d number from delay path)) ≤ 1
  unfolding stops_along repeats
  once_along number from delay [] all once = omega arith
  once_along number from delay (to ∷ path) all once =
      by_test (nat_eq (site_of d to) site) refl
      (once_along (suc number) to (delay_over d from to delay) path (All-tail (IsMeter d) to path all) (neither (list_any (bytes_eq to) path) (repeats path) once).1)
    where
      first : Stop
      first = record { hop = record { number = number; site = site_of d to }; delay = delay_over d from to delay }

      rest : List Stop
      rest = stops_along d (suc number) to (delay_over d from to delay) path

      both : (list_any (bytes_eq to) path ≡ false) × (repeats path ≡ false)
      both = neither (list_any (bytes_eq to) path) (repeats path) once

      by_test : (b : Bool) → nat_eq (site_of d to) site ≡ b → length (filter (at_site site) rest) ≤ 1 → length (filter (at_site site) (first ∷ rest)) ≤ 1
      by_test true here onward =
          let none = keep_none (at_site site) rest
          (none_along to (suc number) to (delay_over d from to delay) path (All-head (IsMeter d) to path all) (eqb-true (site_of d to) site here) (All-tail (IsMeter d) to path all) both.0) in
          rw (keep_yes (at_site site) first rest here, none) (omega arith)
      by_test false other onward = rw (keep_no (at_site site) first rest other) onward

  -- no name of a path stands behind the meters
  low_along : (number : ℕ) (from : List ℕ) (delay : ℕ) (path : List (List ℕ)) → All (IsMeter d) path → length d.meters ≤ site
      → All (λ r. at_site site r ≡ false) (stops_along d number from delay path)
  unfolding stops_along
  low_along number from delay [] all behind = All-nil (λ r. at_site site r ≡ false)
  low_along number from delay (to ∷ path) all behind =
      let first : Stop = record { hop = record { number = number; site = site_of d to }; delay = delay_over d from to delay } in
      let (entry, at_place, passes) = found_at d to (All-head (IsMeter d) to path all) in
      let low = slice_get_within d.meters (site_of d to) entry at_place in
      All-cons (λ r. at_site site r ≡ false) first (stops_along d (suc number) to (delay_over d from to delay) path)
      (ne_eqb (site_of d to) site (λ same. omega (arith, low, behind, same)))
      (low_along (suc number) to (delay_over d from to delay) path (All-tail (IsMeter d) to path all) behind)

  pub stops-once : (flow : ℕ) (c : Contract) → All (IsMeter d) c.path → repeats c.path ≡ false → length (filter (at_site site) (stops_of d flow c)) ≤ 1
  stops-once flow c all once = by c.terms
    where
      along : List Stop
      along = stops_along d 1 c.port 0 c.path

      by : (terms : Terms) → length (filter (at_site site) (edge_stops d flow terms ++ stops_along d 1 c.port 0 c.path)) ≤ 1
      by (Trusted committed peak) = once_along 1 c.port 0 c.path all once
      by (Policed parameters mode) = by_test (nat_eq (length d.meters + flow) site) refl
        where
          edge : Stop
          edge = record { hop = record { number = 0; site = length d.meters + flow }; delay = 0 }

          by_test : (b : Bool) → nat_eq (length d.meters + flow) site ≡ b → length (filter (at_site site) (edge ∷ stops_along d 1 c.port 0 c.path)) ≤ 1
          by_test true here =
              let same = eqb-true (length d.meters + flow) site here in
              let none = keep_none (at_site site) (stops_along d 1 c.port 0 c.path) (low_along 1 c.port 0 c.path all (omega (arith, same))) in
              rw (keep_yes (at_site site) edge (stops_along d 1 c.port 0 c.path) here, none) (omega arith)
          by_test false other = rw (keep_no (at_site site) edge (stops_along d 1 c.port 0 c.path) other) (once_along 1 c.port 0 c.path all once)
