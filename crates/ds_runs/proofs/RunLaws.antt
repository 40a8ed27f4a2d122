-- The run behind packets that are sent.
use Rattle.std.proofs.Common.{◌≡◌, ◌<◌, ◌≤◌, ◌+◌, ◌-◌, ℕ, zero, suc, Bool, cond, List, [], ◌∷◌, ◌++◌, append-nil, get_or, length, map, Option, None, Some, refl, sym, ap, ◌∙◌, subst, arith, is_some, option_map, slice_get, unwrap_or, IsSome}
use Rattle.std.specs.List.{All, filter, range_with_len}
use Rattle.std.proofs.lemmas.List.{length-map}
use Rattle.std.proofs.lemmas.List.Elements.{All-head, All-nil, All-tail, All-weaker}
use Rattle.std.proofs.lemmas.Option.{none-some, same_Some}
use Rattle.std.proofs.lemmas.Simd.{map-map}
use Rattle.moment_core.specs.declared.colour.Colour.{Colour}
use Rattle.meter_book_base.specs.declared.any_meter.AnyMeter.{AnyMeter}
use Rattle.meter_book.specs.Replay.{Book, Journal, most_places}
use Rattle.meter_book.specs.declared.row.Arrival.{Arrival}
use Rattle.ds_checker.specs.Acceptance.{IsAcceptable, Table}
use Rattle.meter_fabric_base.specs.Grounds.{contract_of, ground_of}
use Rattle.meter_fabric_base.specs.Openings.{book_with, opening_at, site_count}
use Rattle.meter_fabric_base.specs.Travels.{Traveller, comes_as}
use Rattle.meter_fabric_base.specs.declared.site.Opening.{Opening}
use Rattle.meter_fabric_base.specs.declared.trail.Receipt.{Receipt}
use Rattle.run_audit.specs.Runs.{Passage}
use Rattle.ds_runs.specs.Conducting.{as_run, journals_from, passage_of, run_so_far}
use Rattle.ds_runs.specs.Steps.{Stage, book_at, opened_at, opened_with, some_of}
use Rattle.ds_runs.specs.OnTheWay.{opened_by}
use Rattle.ds_runs.specs.declared.step.Step.{Step}
use Rattle.ds_runs.proofs.JournalLaws.{All-journals_from}
use Rattle.ds_runs.proofs.OpenedLaws.{no_arrivals, opened_book}
use Rattle.ds_runs.proofs.OnTheWayLaws.{opened_under_way, run_under_way}
use Rattle.ds_runs.proofs.VisitingLaws.{at_place}
use Rattle.ds_conductor_base.specs.Passing.{Carried, Traffic, colours_in, colours_of, entered, meter_at, passed_all}
use Rattle.ds_conductor_base.specs.Visits.{visit_to, visits_of}
use Rattle.ds_conductor_base.specs.Ways.{stops_at}
use Rattle.ds_conductor_base.specs.declared.sent.Sent.{Sent}
use Rattle.ds_conductor_base.specs.declared.visit.Visit.{Visit}
use Rattle.ds_runs.specs.Behind.{AreSendable, IsBehind, MadeItsVisits, arrival_told, left_last, packet_sent, visit_noted, visit_told, visits_at}
use Rattle.ds_runs.specs.Laws.{TheRunIsBehind}
use Rattle.ds_runs.specs.Making.{run_behind, run_or_none, visit_step}
use Rattle.ds_runs.proofs.KnownLaws.{are_known, stops-long}
use Rattle.ds_runs.proofs.ListLaws.{All-places, is_there, there_too}
use Rattle.ds_runs.proofs.MadeLaws.{AreMade, IsMade, all_made}
use Rattle.ds_runs.proofs.MeetLaws.{carried_by, meter_now, traffic_of}
use Rattle.ds_runs.proofs.SendLaws.{AreSent, all_sent}
use Rattle.ds_runs.proofs.VisitLaws.{of_place, packet_visits, to_site, visits_there}

-- ---- lists that tell the same

map_agree : {A B : Type 0} (f g : A → B) (xs : List A) → ((x : A) → f x ≡ g x) → map f xs ≡ map g xs
map_agree f g [] same = refl
map_agree {A} {B} f g (x ∷ xs) same = ap (λ y. y ∷ map f xs) (same x) ∙ ap (λ ys. g x ∷ ys) (map_agree f g xs same)

map_agree_all : {A B : Type 0} (f g : A → B) (xs : List A) → All (λ x. f x ≡ g x) xs → map f xs ≡ map g xs
map_agree_all f g [] same = refl
map_agree_all f g (x ∷ xs) same =
    ap (λ y. y ∷ map f xs) (All-head (λ x. f x ≡ g x) x xs same) ∙ ap (λ ys. g x ∷ ys) (map_agree_all f g xs (All-tail (λ x. f x ≡ g x) x xs same))

mapped_at : {A B : Type 0} (f : A → B) (xs : List A) (place : ℕ) (y : B) → slice_get (map f xs) place ≡ Some y
    → (x : A) × (slice_get xs place ≡ Some x) × (f x ≡ y)
mapped_at f [] place y there = absurd (none-some y there)
mapped_at f (x ∷ xs) zero y there = (x, refl, same_Some (f x) y there)
mapped_at f (x ∷ xs) (suc place) y there = mapped_at f xs place y there

-- ---- before the first visit

plain_opened : (found : Option Opening) (b : Book) → option_map (book_with most_places) found ≡ Some b → (b.capacity ≡ most_places) × (b.shut ≡ None)
plain_opened None b is = absurd (none-some b is)
plain_opened (Some o) b is =
    let same = same_Some (book_with most_places o) b is in
    (ap (λ (b : Book). b.capacity) (sym same), ap (λ (b : Book). b.shut) (sym same))

meter_opened : (found : Option Opening) → option_map meter_now (option_map (book_with most_places) found) ≡ option_map (λ (o : Opening). o.meter) found
meter_opened None = refl
meter_opened (Some o) = refl

module _ (t : Table) (sent : List Sent) (good : IsAcceptable t) (sendable : AreSendable t sent) where
  abbrev first : Stage
  first = opened_with most_places t

  nothing_sent : (s : Sent) → All (λ p. p.packet.number < s.packet) first.travellers
  nothing_sent s = All-nil (λ (p : Traveller). p.packet.number < s.packet)

  abbrev visit_steps : List Step
  visit_steps = map (visit_step sent) (visits_of t sent)

  sends : AreSent t first 0 sent visit_steps
  sends =
      all_sent t first 0 sent visit_steps (opened_under_way most_places t) (All-nil (λ (p : Traveller). p.receipts ≡ [])) sendable.known sendable.numbered
      (λ k d short. nothing_sent (get_or sent k d))

  books_first : (site : ℕ) → book_at sends.stage site ≡ opened_at most_places t site
  books_first site = ap (λ books. some_of (slice_get books site)) sends.books ∙ opened_book most_places t site

  made_first : IsMade t sent sends.stage (visits_of t sent)
  made_first = record {
    under_way = sends.under_way;
    packets = sends.packets;
    roomy = λ site b there. plain_opened (opening_at (ground_of t) site) b (sym (books_first site) ∙ there);
    told = λ place s p was_sent travels.
        ap (λ rs. map (visit_told place) rs ++ filter (of_place place) (visits_of t sent))
        (at_place (λ (p : Traveller). p.receipts ≡ []) sends.stage.travellers place p sends.fresh travels)
        ∙ packet_visits t sent place s was_sent;
    noted = λ site b there.
        ap (λ as_. map arrival_told as_ ++ map (visit_noted sent) (filter (to_site site) (visits_of t sent)))
        (no_arrivals most_places (opening_at (ground_of t) site) b (sym (books_first site) ∙ there));
    there = visits_there t sent;
  }

  meters_first : map (option_map meter_now) sends.stage.books ≡ map (meter_at t) (range_with_len 0 (site_count t))
  meters_first =
      ap (map (option_map meter_now)) sends.books
      ∙ map-map (option_map meter_now) (opened_at most_places t) (range_with_len 0 (site_count t))
      ∙ map_agree (λ site. option_map meter_now (opened_at most_places t site)) (meter_at t) (range_with_len 0 (site_count t))
      (λ site. meter_opened (opening_at (ground_of t) site))

  traffic_first : traffic_of sends.stage ≡ entered t sent
  traffic_first =
      ap (λ (ms : List (Option AnyMeter)). let f : Traffic = record { meters = ms; first = 0; packets = map carried_by sends.stage.travellers } in f) meters_first
      ∙ ap (λ (ps : List Carried). let f : Traffic = record { meters = map (meter_at t) (range_with_len 0 (site_count t)); first = 0; packets = ps } in f) sends.carried

  -- ---- behind the last visit

  done : AreMade t sent sends.stage sends.next (visits_of t sent)
  done = all_made t sent sends.stage sends.next (visits_of t sent) made_first (are_known t sent good sendable)

  abbrev last : Stage
  last = done.stage

  run_is : run_behind t sent ≡ run_so_far last
  run_is = ap (λ made. run_or_none (as_run made)) (sends.conducted ∙ done.conducted)

  colours_are : colours_of t sent ≡ map (λ (p : Carried). p.colour) (map carried_by last.travellers)
  unfolding colours_of
  colours_are =
      ap (λ f. colours_in (passed_all f (visits_of t sent)).packets) (sym traffic_first) ∙ ap (λ (f : Traffic). colours_in f.packets) done.passed

  -- each packet has a receipt of each of its visits
  visited : (place : ℕ) (s : Sent) (p : Traveller) → slice_get sent place ≡ Some s → slice_get last.travellers place ≡ Some p
      → map (visit_told place) p.receipts ≡ map (visit_to place s) (stops_at t s.flow)
  visited place s p was_sent travels = sym (append-nil (map (visit_told place) p.receipts)) ∙ done.made.told place s p was_sent travels

  passage_visited : (place : ℕ) (s : Sent) (p : Passage) → slice_get sent place ≡ Some s → slice_get (map passage_of last.travellers) place ≡ Some p
      → MadeItsVisits t place s p
  passage_visited place s p was_sent there =
      let (q, travels, is) = mapped_at passage_of last.travellers place p there in
      subst (MadeItsVisits t place s) is (visited place s q was_sent travels)

  noted : (site : ℕ) (b : Book) → book_at last site ≡ Some b → map arrival_told b.arrivals ≡ map (visit_noted sent) (visits_at t sent site)
  noted site b there = sym (append-nil (map arrival_told b.arrivals)) ∙ done.made.noted site b there

  abbrev AreNoted : Journal → Type 0
  AreNoted j = map arrival_told j.arrivals ≡ map (visit_noted sent) (visits_at t sent j.site)

  all_noted : All AreNoted (journals_from 0 last.books)
  all_noted =
      All-journals_from AreNoted 0 last.books
      (λ k b there.
      let place : k ≡ 0 + k = omega arith in
      subst (λ n. map arrival_told b.arrivals ≡ map (visit_noted sent) (visits_at t sent n)) place (noted k b (ap some_of there)))

  abbrev when : ℕ × ℕ × ℕ → ℕ
  when x = x.2

  moments_noted : (j : Journal) → AreNoted j → map (λ (a : Arrival). a.moment) j.arrivals ≡ map (λ (v : Visit). v.moment) (visits_at t sent j.site)
  moments_noted j is =
      sym (map-map when arrival_told j.arrivals) ∙ ap (map when) is ∙ map-map when (visit_noted sent) (visits_at t sent j.site)

  -- ---- the sites of the journals

  has_book : (found : Option Book) (opening : Option Opening) → option_map (λ (b : Book). b.opening) found ≡ option_map opened_by opening
      → is_some opening ≡ is_some found
  has_book None None is = refl
  has_book None (Some o) is = absurd (none-some (opened_by o) is)
  has_book (Some b) None is = absurd (none-some b.opening (sym is))
  has_book (Some b) (Some o) is = refl

  sites_from : (test : ℕ → Bool) (site : ℕ) (books : List (Option Book)) → ((k : ℕ) → k < length books → test (site + k) ≡ is_some (some_of (slice_get books k)))
      → map (λ (j : Journal). j.site) (journals_from site books) ≡ filter test (range_with_len site (length books))
  unfolding journals_from
  sites_from test site [] each = refl
  sites_from test site (found ∷ books) each =
      by found
      (subst (λ n. test n ≡ is_some found) zero_more (each 0 (omega arith)))
      (sites_from test (suc site) books (λ k short. subst (λ n. test n ≡ is_some (some_of (slice_get books k))) (one_more k) (each (suc k) (omega (arith, short)))))
    where
      zero_more : site + 0 ≡ site
      zero_more = omega arith

      one_more : (k : ℕ) → site + suc k ≡ suc site + k
      one_more k = omega arith

      next : site + 1 ≡ suc site
      next = omega arith

      rest : List ℕ
      rest = filter test (range_with_len (suc site) (length books))

      by : (found : Option Book) → test site ≡ is_some found → map (λ (j : Journal). j.site) (journals_from (suc site) books) ≡ rest
          → map (λ (j : Journal). j.site) (journals_from site (found ∷ books)) ≡ filter test (range_with_len site (suc (length books)))
      by None here onward =
          onward ∙ ap (λ n. filter test (range_with_len n (length books))) (sym next)
          ∙ ap (λ b. cond b (site ∷ filter test (range_with_len (site + 1) (length books))) (filter test (range_with_len (site + 1) (length books)))) (sym here)
      by (Some b) here onward =
          ap (λ sites. site ∷ sites) (onward ∙ ap (λ n. filter test (range_with_len n (length books))) (sym next))
          ∙ ap (λ b. cond b (site ∷ filter test (range_with_len (site + 1) (length books))) (filter test (range_with_len (site + 1) (length books)))) (sym here)

  sites_are : map (λ (j : Journal). j.site) (journals_from 0 last.books) ≡ filter (λ site. is_some (opening_at (ground_of t) site)) (range_with_len 0 (site_count t))
  sites_are =
      sites_from (λ site. is_some (opening_at (ground_of t) site)) 0 last.books
      (λ k short.
      let place : k ≡ 0 + k = omega arith in
      subst (λ n. is_some (opening_at (ground_of t) n) ≡ is_some (some_of (slice_get last.books k))) place
      (has_book (book_at last k) (opening_at (ground_of t) k) (done.made.under_way.openings k)))
      ∙ ap (λ n. filter (λ site. is_some (opening_at (ground_of t) site)) (range_with_len 0 n)) done.made.under_way.count

  -- ---- the colours

  left_is : (p : Traveller) → 1 ≤ length p.receipts → left_last (passage_of p) ≡ Some (comes_as p)
  left_is p some =
      let (r, there) = is_there p.receipts (length p.receipts - 1) (omega (arith, some)) in
      ap (option_map (λ (r : Receipt). r.row.left)) there
      ∙ sym (ap (λ found. Some (unwrap_or (option_map (λ (r : Receipt). r.row.left) found) p.came)) there)

  left_at : (place : ℕ) (p : Traveller) → slice_get last.travellers place ≡ Some p → left_last (passage_of p) ≡ Some (comes_as p)
  left_at place p travels =
      let count : length last.travellers ≡ length sent =
      sym (length-map last.travellers (λ (p : Traveller). p.packet)) ∙ ap length done.made.packets ∙ length-map sent packet_sent in
      let (s, was_sent) = there_too last.travellers sent place p count travels in
      let known = at_place (λ s. IsSome (contract_of (ground_of t) s.flow)) sent place s sendable.known was_sent in
      let all = ap length (visited place s p was_sent travels) in
      left_is p
      (omega (arith, all, length-map p.receipts (visit_told place), length-map (stops_at t s.flow) (visit_to place s), stops-long t good s.flow known))

  colours_left : map left_last (map passage_of last.travellers) ≡ map (λ (c : Colour). Some c) (colours_of t sent)
  colours_left =
      map-map left_last passage_of last.travellers
      ∙ map_agree_all (λ p. left_last (passage_of p)) (λ p. Some (comes_as p)) last.travellers
      (All-places (λ p. left_last (passage_of p) ≡ Some (comes_as p)) last.travellers left_at)
      ∙ sym (map-map (λ (c : Colour). Some c) comes_as last.travellers)
      ∙ ap (map (λ (c : Colour). Some c)) (sym (map-map (λ (p : Carried). p.colour) carried_by last.travellers) ∙ sym colours_are)

  behind_last : IsBehind t sent (run_so_far last)
  behind_last = record {
    run = run_under_way t last done.made.under_way;
    packets = map-map (λ (p : Passage). p.packet) passage_of last.travellers ∙ done.made.packets;
    visits = passage_visited;
    journals = All-weaker AreNoted (λ j. map (λ (a : Arrival). a.moment) j.arrivals ≡ map (λ (v : Visit). v.moment) (visits_at t sent j.site)) moments_noted
        (journals_from 0 last.books) all_noted;
    arrivals = all_noted;
    sites = sites_are;
    colours = colours_left;
  }

  pub is_behind : IsBehind t sent (run_behind t sent)
  is_behind = subst (IsBehind t sent) (sym run_is) behind_last

pub the_run_is_behind : TheRunIsBehind
the_run_is_behind t sent good sendable = is_behind t sent good sendable
