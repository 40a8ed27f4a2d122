-- What the steps up to a visit have made, and that the visit can be made then.
use Rattle.std.proofs.Common.{◌≡◌, ◌<◌, ◌≤◌, ◌-◌, ◌^◌, ℕ, suc, Bool, true, false, List, [], ◌∷◌, ◌++◌, append_assoc, length, length-append, map, nat_eq, Option, None, Some, refl, sym, ap, ◌∙◌, subst, arith, inl, inr, ◌⊎◌, ◌&&◌, ◌||◌, nat_lt, option_map, position, slice_get, unwrap_or, IsSome, Ok, All, filter}
use Rattle.std.proofs.lemmas.Bool.{cases_eq, eq-eqb, ne_eqb}
use Rattle.std.proofs.lemmas.Bool.Decides.{nat_tests}
use Rattle.std.proofs.lemmas.List.{length-map, map_push}
use Rattle.std.proofs.lemmas.List.Elements.{All-cons, All-head, All-nil, All-tail}
use Rattle.std.proofs.lemmas.Option.{same_Some, slice_get-map}
use Rattle.meter_book.specs.Replay.{Book, most_places, next_row, noted}
use Rattle.meter_book.specs.declared.row.Arrival.{Arrival}
use Rattle.ds_checker.specs.Acceptance.{Table}
use Rattle.meter_fabric_base.specs.Grounds.{contract_of, ground_of}
use Rattle.meter_fabric_base.specs.Openings.{opening_at}
use Rattle.meter_fabric_base.specs.Sites.{hops_of}
use Rattle.meter_fabric_base.specs.Trails.{Packet}
use Rattle.meter_fabric_base.specs.Travels.{Traveller, last_moment, last_receipt, next_hop}
use Rattle.meter_fabric_base.specs.declared.trail.Receipt.{Receipt}
use Rattle.meter_fabric_base.proofs.OrderLaws.{Ascends}
use Rattle.ds_runs.specs.Conducting.{IsWhole, conducted_from, going_on}
use Rattle.ds_runs.specs.Steps.{Stage, book_at, numbers_of, stepped}
use Rattle.ds_runs.specs.OnTheWay.{IsOnItsWay, IsUnderWay}
use Rattle.ds_runs.proofs.ListLaws.{map-set_same, set_elsewhere, set_here, some_of-some, is_there, keep_no, keep_yes, of_seam, there_too, told_same}
use Rattle.ds_runs.proofs.OnTheWayLaws.{book_there, stepped_under_way, whole_under_way}
use Rattle.ds_runs.proofs.VisitingLaws.{Visits, at_place, behind, book_elsewhere, book_here, coming, same_site, stage_behind}
use Rattle.ds_conductor_base.specs.Passing.{passed_all}
use Rattle.ds_conductor_base.specs.Visits.{is_before, later, visit_to}
use Rattle.ds_conductor_base.specs.Ways.{stops_at, stops_by, Stop}
use Rattle.ds_conductor_base.specs.declared.sent.Sent.{Sent}
use Rattle.ds_conductor_base.specs.declared.visit.Visit.{Visit}
use Rattle.ds_runs.specs.Behind.{AreSendable, arrival_told, number_at, packet_sent, visit_noted, visit_told, visits_at}
use Rattle.ds_runs.specs.Making.{visit_step}
use Rattle.ds_runs.proofs.GoingLaws.{no_fault, place_of, visit_goes}
use Rattle.ds_runs.proofs.MeetLaws.{passes, traffic_of}
use Rattle.ds_runs.proofs.StopLaws.{hop_in, stops-ascend, stops_of-hops}
use Rattle.ds_runs.proofs.VisitLaws.{ComesOnce, few_visits, of_place, to_site}

-- What the steps before these visits have made: each packet has receipts of the visits that it made, and the journals
-- have noted what was made.
pub record IsMade (t : Table) (sent : List Sent) (g : Stage) (rest : List Visit) : Type 0 where
  pub under_way : IsUnderWay t g
  pub packets : map (λ p. p.packet) g.travellers ≡ map packet_sent sent
  pub roomy : (site : ℕ) (b : Book) → book_at g site ≡ Some b → (b.capacity ≡ most_places) × (b.shut ≡ None)
  pub told : (place : ℕ) (s : Sent) (p : Traveller) → slice_get sent place ≡ Some s → slice_get g.travellers place ≡ Some p
      → map (visit_told place) p.receipts ++ filter (of_place place) rest ≡ map (visit_to place s) (stops_at t s.flow)
  pub noted : (site : ℕ) (b : Book) → book_at g site ≡ Some b
      → map arrival_told b.arrivals ++ map (visit_noted sent) (filter (to_site site) rest) ≡ map (visit_noted sent) (visits_at t sent site)
  pub there : All (λ v. v.place < length sent) rest

-- what is known of the ways of a table's packets
pub record AreKnown (t : Table) (sent : List Sent) : Type 0 where
  pub stand : (flow : ℕ) → All (λ (r : Stop). IsSome (opening_at (ground_of t) r.hop.site)) (stops_at t flow)
  pub once : (site : ℕ) → ComesOnce t site
  pub sendable : AreSendable t sent

-- ---- what stands before a visit

before_seam : {A : Type 0} (before : A → A → Bool) (xs : List A) (y : A) (ys : List A) → Ascends before (xs ++ y ∷ ys) → All (λ x. before x y ≡ true) xs
unfolding Ascends
before_seam before [] y ys rises = All-nil (λ x. before x y ≡ true)
before_seam {A} before (x ∷ xs) y ys rises = All-cons (λ z. before z y ≡ true) x xs (behind_one xs rises.0) (before_seam before xs y ys rises.1)
  where
    behind_one : (zs : List A) → All (λ z. before x z ≡ true) (zs ++ y ∷ ys) → before x y ≡ true
    behind_one [] all = All-head (λ z. before x z ≡ true) y ys all
    behind_one (z ∷ zs) all = behind_one zs (All-tail (λ z. before x z ≡ true) z (zs ++ y ∷ ys) all)

not_later : (v w : Visit) → is_before v w ≡ true → v.moment ≤ w.moment
not_later v w first = by_numbers v.moment w.moment (nat_eq v.place w.place) (nat_lt v.place w.place) (nat_lt v.hop.number w.hop.number) first
  where
    by_numbers : (m n : ℕ) (a b c : Bool) → (nat_lt m n || nat_eq m n && (b || a && c)) ≡ true → m ≤ n
    by_numbers m n a b c first = grind (arith, nat_tests)

-- receipts that tell of visits before another are of arrivals no later
told_before : (place : ℕ) (v : Visit) (receipts : List Receipt) → All (λ w. is_before w v ≡ true) (map (visit_told place) receipts)
    → All (λ (r : Receipt). r.row.arrival ≤ v.moment) receipts
told_before place v [] before = All-nil (λ (r : Receipt). r.row.arrival ≤ v.moment)
told_before place v (r ∷ receipts) before =
    All-cons (λ (q : Receipt). q.row.arrival ≤ v.moment) r receipts
    (not_later (visit_told place r) v (All-head (λ w. is_before w v ≡ true) (visit_told place r) (map (visit_told place) receipts) before))
    (told_before place v receipts (All-tail (λ w. is_before w v ≡ true) (visit_told place r) (map (visit_told place) receipts) before))

-- so is the last of them
last_before : (moment begun : ℕ) (receipts : List Receipt) → All (λ (r : Receipt). r.row.arrival ≤ moment) receipts → begun ≤ moment
    → unwrap_or (option_map (λ (r : Receipt). r.row.arrival) (last_receipt receipts)) begun ≤ moment
last_before moment begun receipts all early = by (last_receipt receipts) refl
  where
    by : (found : Option Receipt) → last_receipt receipts ≡ found → unwrap_or (option_map (λ (r : Receipt). r.row.arrival) found) begun ≤ moment
    by None none = early
    by (Some r) last = at_place (λ (r : Receipt). r.row.arrival ≤ moment) receipts (length receipts - 1) r all last

-- ---- the stop, the hop and the book of the visit that is next

-- the visits that a packet has made, the one that is next, and those behind it are those of its stops
abbrev Wholly : Table → Sent → List Receipt → Visit → List Visit → Type 0
Wholly t s receipts v more = map (visit_told v.place) receipts ++ v ∷ more ≡ map (visit_to v.place s) (stops_at t s.flow)

-- the stop of a visit is the one behind those that the packet has come to
abbrev IsStop : Table → Sent → List Receipt → Visit → Stop → Type 0
IsStop t s receipts v r = (slice_get (stops_at t s.flow) (length receipts) ≡ Some r) × (visit_to v.place s r ≡ v)

stop_next : (t : Table) (s : Sent) (receipts : List Receipt) (v : Visit) (more : List Visit) → Wholly t s receipts v more → (r : Stop) × IsStop t s receipts v r
stop_next t s receipts v more whole =
    let (r, there, is) = of_seam (visit_to v.place s) (stops_at t s.flow) (map (visit_told v.place) receipts) v more whole in
    (r, (ap (slice_get (stops_at t s.flow)) (sym (length-map receipts (visit_told v.place))) ∙ there, is))

hop_next : (t : Table) (p : Traveller) (s : Sent) (v : Visit) (r : Stop) → IsOnItsWay t p → p.packet ≡ packet_sent s → IsStop t s p.receipts v r
    → next_hop p ≡ Some v.hop
hop_next t p s v r (c, is, came_is, hops_are, trail) same stop =
    let flow : p.packet.flow ≡ s.flow = ap (λ (q : Packet). q.flow) same in
    let found : contract_of (ground_of t) s.flow ≡ Some c = ap (contract_of (ground_of t)) (sym flow) ∙ is in
    let hops : p.hops ≡ map hop_in (stops_at t s.flow) =
    hops_are ∙ ap (λ n. hops_of t.domain n c) flow ∙ sym (stops_of-hops t.domain s.flow c) ∙ ap (λ o. map hop_in (stops_by t.domain s.flow o)) (sym found) in
    ap (λ hs. slice_get hs (length p.receipts)) hops ∙ slice_get-map hop_in (stops_at t s.flow) (length p.receipts)
    ∙ ap (option_map hop_in) stop.0 ∙ ap (λ (w : Visit). Some w.hop) stop.1

not_before : (m d : ℕ) → m < 2 ^ 63 - 2 ^ 40 → m ≤ later m d
not_before m d short = grind arith

time_next : (t : Table) (p : Traveller) (s : Sent) (v : Visit) (more : List Visit) (r : Stop) → p.packet ≡ packet_sent s → s.moment < 2 ^ 63 - 2 ^ 40
    → Wholly t s p.receipts v more → IsStop t s p.receipts v r → last_moment p ≤ v.moment
time_next t p s v more r same timed whole stop =
    let rises = subst (Ascends is_before) (sym whole) (stops-ascend v.place s t.domain s.flow (contract_of (ground_of t) s.flow)) in
    let before = told_before v.place v p.receipts (before_seam is_before (map (visit_told v.place) p.receipts) v more rises) in
    let early : s.moment ≤ v.moment = subst (λ (w : Visit). s.moment ≤ w.moment) stop.1 (not_before s.moment r.delay timed) in
    last_before v.moment p.packet.begun p.receipts before (subst (λ (q : Packet). q.begun ≤ v.moment) (sym same) early)

book_next : (t : Table) (g : Stage) (s : Sent) (receipts : List Receipt) (v : Visit) (r : Stop) → IsUnderWay t g
    → All (λ (r : Stop). IsSome (opening_at (ground_of t) r.hop.site)) (stops_at t s.flow) → IsStop t s receipts v r
    → (b : Book) × (book_at g v.hop.site ≡ Some b)
book_next t g s receipts v r way stand stop =
    let stands : IsSome (opening_at (ground_of t) v.hop.site) =
    subst (λ (w : Visit). IsSome (opening_at (ground_of t) w.hop.site)) stop.1
    (at_place (λ (r : Stop). IsSome (opening_at (ground_of t) r.hop.site)) (stops_at t s.flow) (length receipts) r stand stop.0) in
    book_there (book_at g v.hop.site) (opening_at (ground_of t) v.hop.site) (way.openings v.hop.site) stands

first_place : (t : Table) (g : Stage) (site : ℕ) (b : Book) → IsUnderWay t g → book_at g site ≡ Some b → b.opening.place ≡ 0
first_place t g site b way there =
    at_place IsWhole g.books site (Some b) (whole_under_way t g way) (some_of-some (slice_get g.books site) b there)

room_next : (t : Table) (sent : List Sent) (v : Visit) (rest : List Visit) (b : Book)
    → map arrival_told b.arrivals ++ map (visit_noted sent) (filter (to_site v.hop.site) (v ∷ rest)) ≡ map (visit_noted sent) (visits_at t sent v.hop.site)
    → length (visits_at t sent v.hop.site) ≤ length sent → length sent ≤ most_places → length b.arrivals < most_places
room_next t sent v rest b noted few least =
    let site = v.hop.site in
    let more = filter (to_site site) rest in
    let here = ap (λ vs. length (map (visit_noted sent) vs)) (keep_yes (to_site site) v rest (eq-eqb site site refl)) in
    let all = ap length noted in
    let sum = length-append (map arrival_told b.arrivals) (map (visit_noted sent) (filter (to_site site) (v ∷ rest))) in
    omega (arith, here, all, sum, few, least, length-map b.arrivals arrival_told, length-map (visits_at t sent site) (visit_noted sent))

-- ---- the visit that is next

-- its packet as it was sent and as it is on its way, and its book, where it has room
pub record IsNext (t : Table) (sent : List Sent) (g : Stage) (v : Visit) (rest : List Visit) : Type 0 where
  pub packet : Sent
  pub traveller : Traveller
  pub book : Book
  pub was_sent : slice_get sent v.place ≡ Some packet
  pub same : traveller.packet ≡ packet_sent packet
  pub whole : Wholly t packet traveller.receipts v (filter (of_place v.place) rest)
  pub visits : Visits g v.place traveller v.hop book v.moment
  pub room : length book.arrivals < most_places

is_next : (t : Table) (sent : List Sent) (g : Stage) (v : Visit) (rest : List Visit) → IsMade t sent g (v ∷ rest) → AreKnown t sent → IsNext t sent g v rest
is_next t sent g v rest made known =
    let short = All-head (λ v. v.place < length sent) v rest made.there in
    let (s, was_sent) = is_there sent v.place short in
    let count : length sent ≡ length g.travellers =
    sym (length-map sent packet_sent) ∙ sym (ap length made.packets) ∙ length-map g.travellers (λ (p : Traveller). p.packet) in
    let (p, travels) = there_too sent g.travellers v.place s count was_sent in
    let same : p.packet ≡ packet_sent s = told_same (λ (p : Traveller). p.packet) packet_sent g.travellers sent v.place p s made.packets travels was_sent in
    let whole : Wholly t s p.receipts v (filter (of_place v.place) rest) =
    ap (λ vs. map (visit_told v.place) p.receipts ++ vs) (sym (keep_yes (of_place v.place) v rest (eq-eqb v.place v.place refl))) ∙ made.told v.place s p was_sent travels in
    let (r, stop) = stop_next t s p.receipts v (filter (of_place v.place) rest) whole in
    let (b, there) = book_next t g s p.receipts v r made.under_way (known.stand s.flow) stop in
    let timed = at_place (λ (s : Sent). s.moment < 2 ^ 63 - 2 ^ 40) sent v.place s known.sendable.timed was_sent in
    let on_way = at_place (IsOnItsWay t) g.travellers v.place p made.under_way.travellers travels in
    record {
      packet = s;
      traveller = p;
      book = b;
      was_sent = was_sent;
      same = same;
      whole = whole;
      visits = record {
        packet = travels;
        next = hop_next t p s v r on_way same stop;
        book = there;
        in_time = time_next t p s v (filter (of_place v.place) rest) r same timed whole stop;
      };
      room = room_next t sent v rest b (made.noted v.hop.site b there) (few_visits t sent v.hop.site (known.once v.hop.site)) known.sendable.few;
    }

-- ---- what the visit makes

module _ (t : Table) (sent : List Sent) (g : Stage) (v : Visit) (rest : List Visit) (made : IsMade t sent g (v ∷ rest)) (next : IsNext t sent g v rest) where
  abbrev pub after : Stage
  after = stage_behind g v.place next.traveller v.hop next.book v.moment

  abbrev arriving : Arrival
  arriving = coming next.traveller v.hop v.moment

  number_is : number_at sent v.place ≡ next.traveller.packet.number
  number_is = ap (λ found. unwrap_or (option_map (λ (s : Sent). s.packet) found) 0) next.was_sent ∙ sym (ap (λ (q : Packet). q.number) next.same)

  pub goes : stepped t g (visit_step sent v) ≡ Ok after
  goes =
      let plain = made.roomy v.hop.site next.book next.visits.book in
      visit_goes t g (number_at sent v.place) v.place next.traveller v.hop next.book v.moment
      (ap (λ n. position (nat_eq n) (numbers_of g.travellers)) number_is
      ∙ place_of (λ (p : Traveller). p.packet.number) g.travellers v.place next.traveller next.visits.packet made.under_way.numbers)
      next.visits
      (no_fault next.book v.moment plain.0 (first_place t g v.hop.site next.book made.under_way next.visits.book) plain.1 next.room)

  packets_behind : map (λ (p : Traveller). p.packet) after.travellers ≡ map packet_sent sent
  packets_behind =
      map-set_same (λ (u : Traveller). u.packet) g.travellers v.place next.traveller (behind next.traveller v.hop next.book v.moment) next.visits.packet refl
      ∙ made.packets

  -- the book of a site behind it
  at_book : (P : ℕ → Book → Type 0) → P v.hop.site (noted next.book arriving) → ((site : ℕ) (b : Book) → nat_eq v.hop.site site ≡ false → book_at g site ≡ Some b → P site b)
      → (site : ℕ) (b : Book) → book_at after site ≡ Some b → P site b
  at_book P here elsewhere site b there = by_test (nat_eq v.hop.site site) refl
    where
      by_test : (test : Bool) → nat_eq v.hop.site site ≡ test → P site b
      by_test true same =
          let is = same_site v.hop.site site same in
          let found : noted next.book arriving ≡ b =
          same_Some (noted next.book arriving) b
          (sym (book_here g v.place next.traveller v.hop next.book v.moment next.visits) ∙ ap (book_at after) is ∙ there) in
          subst (λ n. P n b) is (subst (P v.hop.site) found here)
      by_test false other =
          elsewhere site b other (sym (book_elsewhere g v.place next.traveller v.hop next.book v.moment site other) ∙ there)

  roomy_behind : (site : ℕ) (b : Book) → book_at after site ≡ Some b → (b.capacity ≡ most_places) × (b.shut ≡ None)
  roomy_behind =
      at_book (λ site b. (b.capacity ≡ most_places) × (b.shut ≡ None)) (made.roomy v.hop.site next.book next.visits.book)
      (λ site b other there. made.roomy site b there)

  abbrev Noted : ℕ → Book → Type 0
  Noted site b = map arrival_told b.arrivals ++ map (visit_noted sent) (filter (to_site site) rest) ≡ map (visit_noted sent) (visits_at t sent site)

  noted_here : Noted v.hop.site (noted next.book arriving)
  noted_here =
      let more = map (visit_noted sent) (filter (to_site v.hop.site) rest) in
      ap (λ as_. as_ ++ more) (map_push arrival_told next.book.arrivals arriving)
      ∙ append_assoc (map arrival_told next.book.arrivals) (arrival_told arriving ∷ []) more
      ∙ ap (λ n. map arrival_told next.book.arrivals ++ (n, v.hop.number, v.moment) ∷ more) (sym number_is)
      ∙ ap (λ vs. map arrival_told next.book.arrivals ++ map (visit_noted sent) vs) (sym (keep_yes (to_site v.hop.site) v rest (eq-eqb v.hop.site v.hop.site refl)))
      ∙ made.noted v.hop.site next.book next.visits.book

  noted_behind : (site : ℕ) (b : Book) → book_at after site ≡ Some b → Noted site b
  noted_behind =
      at_book Noted noted_here
      (λ site b other there.
      ap (λ vs. map arrival_told b.arrivals ++ map (visit_noted sent) vs) (sym (keep_no (to_site site) v rest other)) ∙ made.noted site b there)

  abbrev Told : ℕ → Sent → Traveller → Type 0
  Told place s p = map (visit_told place) p.receipts ++ filter (of_place place) rest ≡ map (visit_to place s) (stops_at t s.flow)

  told_here : Told v.place next.packet (behind next.traveller v.hop next.book v.moment)
  told_here =
      let more = filter (of_place v.place) rest in
      let receipts = next.traveller.receipts in
      let receipt : Receipt = record { site = v.hop.site; row = next_row next.book arriving } in
      ap (λ vs. vs ++ more) (map_push (visit_told v.place) receipts receipt)
      ∙ append_assoc (map (visit_told v.place) receipts) (visit_told v.place receipt ∷ []) more
      ∙ next.whole

  told_behind : (place : ℕ) (s : Sent) (p : Traveller) → slice_get sent place ≡ Some s → slice_get after.travellers place ≡ Some p → Told place s p
  told_behind place s p was_sent travels = by_case (cases_eq v.place place)
    where
      by_case : (v.place ≡ place) ⊎ (v.place ≡ place → ⊥) → Told place s p
      by_case (inl here) =
          let q = behind next.traveller v.hop next.book v.moment in
          let sent_is : next.packet ≡ s = same_Some next.packet s (sym next.was_sent ∙ ap (slice_get sent) here ∙ was_sent) in
          let is : q ≡ p = same_Some q p (sym (set_here g.travellers v.place next.traveller q next.visits.packet) ∙ ap (slice_get after.travellers) here ∙ travels) in
          subst (λ n. Told n s p) here (subst (Told v.place s) is (subst (λ r. Told v.place r q) sent_is told_here))
      by_case (inr other) =
          ap (λ vs. map (visit_told place) p.receipts ++ vs) (sym (keep_no (of_place place) v rest (ne_eqb v.place place other)))
          ∙ made.told place s p was_sent
          (sym (set_elsewhere g.travellers v.place place (behind next.traveller v.hop next.book v.moment) other) ∙ travels)

  pub made_behind : IsMade t sent after rest
  made_behind = record {
    under_way = stepped_under_way t g after (visit_step sent v) made.under_way goes;
    packets = packets_behind;
    roomy = roomy_behind;
    told = told_behind;
    noted = noted_behind;
    there = All-tail (λ v. v.place < length sent) v rest made.there;
  }

-- ---- all visits

-- what steps made, and what their visits make of the traffic
pub record AreMade (t : Table) (sent : List Sent) (g : Stage) (index : ℕ) (rest : List Visit) : Type 0 where
  pub stage : Stage
  pub conducted : conducted_from t g index (map (visit_step sent) rest) ≡ Ok stage
  pub passed : passed_all (traffic_of g) rest ≡ traffic_of stage
  pub made : IsMade t sent stage []

pub all_made : (t : Table) (sent : List Sent) (g : Stage) (index : ℕ) (rest : List Visit) → IsMade t sent g rest → AreKnown t sent → AreMade t sent g index rest
unfolding conducted_from passed_all
all_made t sent g index [] made known = record { stage = g; conducted = refl; passed = refl; made = made }
all_made t sent g index (v ∷ rest) made known =
    let next = is_next t sent g v rest made known in
    let h = after t sent g v rest made next in
    let onward = all_made t sent h (suc index) rest (made_behind t sent g v rest made next) known in
    record {
      stage = onward.stage;
      conducted = ap (going_on index (λ k. conducted_from t k (suc index) (map (visit_step sent) rest))) (goes t sent g v rest made next) ∙ onward.conducted;
      passed = ap (λ f. passed_all f rest) (passes g v next.traveller next.book next.visits) ∙ onward.passed;
      made = onward.made;
    }
