-- Where a book stands after arrivals, and what chapters that go on from one another come to.
use Rattle.std.proofs.Common.{◌≡◌, ℕ, ◌+◌, ◌-◌, ◌<◌, ◌≤◌, ◌^◌, zero, suc, Bool, true, false, List, [], ◌∷◌, ◌++◌, length, map, flat_map, Option, None, Some, refl, sym, ◌∙◌, ap, subst, subst₂, inl, inr, append-nil, length-append, arith}
use Rattle.std.specs.Prelude.{Ok, get_or, nat_eq, slice_get, IfSome, if◌then◌else◌}
use Rattle.std.specs.List.{All}
use Rattle.std.proofs.lemmas.Bool.{cases_lt}
use Rattle.std.proofs.lemmas.Bool.Decides.{nat_tests}
use Rattle.std.proofs.lemmas.List.{map-append}
use Rattle.moment_core.specs.Metering.{Offer, used}
use Rattle.moment_core.proofs.MeteringLaws.{moment_le-used, newest_le-used}
use Rattle.meter_book.specs.declared.accounts.Accounts.{Accounts}
use Rattle.meter_book_base.specs.declared.any_meter.AnyMeter.{AnyMeter}
use Rattle.meter_book.specs.declared.book.NoteFault.{NoteFault}
use Rattle.meter_book.specs.declared.book.NoteFault.TheVariants.{JournalFull, Shut}
use Rattle.meter_book.specs.declared.row.Arrival.{Arrival}
use Rattle.meter_book.specs.declared.row.Row.{Row}
use Rattle.meter_book.specs.declared.standing.Standing.{Standing}
use Rattle.meter_book_base.specs.AnyMeter.{after_any, newest_of}
use Rattle.meter_book.specs.Chapters.{AreChapters, Chapter, Follows, GoesOn, IsStanding, chapter_rows, closing_of, joined, shut_at_last}
use Rattle.meter_book.specs.Kept.{arrivals_of, stored_of}
use Rattle.meter_book.specs.declared.stored_row.StoredRow.{StoredRow}
use Rattle.meter_book_base.specs.OutputLaws.{goes_on-any}
use Rattle.meter_book.specs.Replay.{Book, accounts_of, accounts_with, is_shut_by, meter_after, note_fault, offer_of, replay, room_of, row_of, rows_from, standing_after, unless}
use Rattle.meter_book.specs.Tallies.{accounts_in, tallies_in, tallies_of, together}
use Rattle.meter_book.proofs.ReplayLaws.{arrivals_of-rows_from}
use Rattle.meter_book.proofs.TallyLaws.{none-together, together-assoc, together-rows}

-- ---- what a book takes

no_fault : (shut full : Bool) → ◌≡◌ {A = Option NoteFault} (if shut then Some Shut else if full then Some JournalFull else None) None → (shut ≡ false) × (full ≡ false)
no_fault true full e = absurd cc
no_fault false true e = absurd cc
no_fault false false e = (refl, refl)

module _ (b : Book) (moment : ℕ) (none : note_fault b moment ≡ None) where
  pub not_shut : is_shut_by b.shut moment ≡ false
  not_shut = (no_fault (is_shut_by b.shut moment) (nat_eq (room_of b) 0) none).0

  pub has_room : 0 < room_of b
  has_room = grind (arith, nat_tests, (no_fault (is_shut_by b.shut moment) (nat_eq (room_of b) 0) none).1)

  pub has_capacity : length b.arrivals < b.capacity
  has_capacity = grind (arith, nat_tests, has_room)

  pub has_place : b.opening.place + length b.arrivals < 2 ^ 44
  has_place = grind (arith, nat_tests, has_room)

-- what is noted, and what stands against it
done_by : {A : Type 0} (against : Option NoteFault) (done made : A) → unless against done ≡ Ok made → (against ≡ None) × (done ≡ made)
done_by None done made is = (refl, cc)
done_by (Some fault) done made is = absurd cc

-- a book that is not shut, and refuses, has no room
pub no_room : (b : Book) (moment : ℕ) (fault : NoteFault) → b.shut ≡ None → note_fault b moment ≡ Some fault → room_of b ≡ 0
no_room b moment fault unshut against =
    by (nat_eq (room_of b) 0) refl (sym (ap (λ shut. if is_shut_by shut moment then Some Shut else if nat_eq (room_of b) 0 then Some JournalFull else None) unshut) ∙ against)
  where
    by : (full : Bool) → nat_eq (room_of b) 0 ≡ full → ◌≡◌ {A = Option NoteFault} (if full then Some JournalFull else None) (Some fault) → room_of b ≡ 0
    by true test is = grind (arith, nat_tests)
    by false test is = absurd cc

-- ---- newest moments

used_before : (newest moment end : ℕ) → newest < end → moment < end → used newest moment < end
unfolding used
used_before newest moment end h k = grind (arith, nat_tests)

-- what arrives before a book is shut is metered before
pub newest_before : (m : AnyMeter) (o : Offer) (shut : Option ℕ) → IfSome shut (λ end. newest_of m < end) → is_shut_by shut o.moment ≡ false
    → IfSome shut (λ end. newest_of (after_any m o) < end)
newest_before m o None before unshut = before
newest_before m o (Some end) before unshut =
    let moment : o.moment < end = grind (arith, nat_tests) in
    rw (goes_on-any m o) (used_before (newest_of m) o.moment end before moment)

newest_goes_on : (m : AnyMeter) (arrivals : List Arrival) → newest_of m ≤ newest_of (meter_after m arrivals)
newest_goes_on m [] = omega arith
newest_goes_on m (a ∷ as_) =
    omega (arith, newest_goes_on (after_any m (offer_of a)) as_, goes_on-any m (offer_of a), newest_le-used (newest_of m) a.moment)

-- no row arrived behind the newest moment
rows_by_newest : (m : AnyMeter) (place : ℕ) (arrivals : List Arrival) → All (λ (r : Row). r.arrival ≤ newest_of (meter_after m arrivals)) (rows_from m place arrivals)
rows_by_newest m place [] k d below = absurd (omega (arith, below))
rows_by_newest m place (a ∷ as_) zero d below =
    omega (arith, newest_goes_on (after_any m (offer_of a)) as_, goes_on-any m (offer_of a), moment_le-used (newest_of m) a.moment)
rows_by_newest m place (a ∷ as_) (suc k) d below = rows_by_newest (after_any m (offer_of a)) (place + 1) as_ k d (omega (arith, below))

-- so all rows of a book that is shut arrive before
pub rows_before : (m : AnyMeter) (place : ℕ) (arrivals : List Arrival) (shut : Option ℕ) → IfSome shut (λ end. newest_of (meter_after m arrivals) < end)
    → IfSome shut (λ end. All (λ (r : Row). r.arrival < end) (rows_from m place arrivals))
rows_before m place arrivals None before = before
rows_before m place arrivals (Some end) before = λ k d below. omega (arith, before, rows_by_newest m place arrivals k d below)

-- ---- arrivals, and more behind them

meter_after-append : (m : AnyMeter) (as_ bs : List Arrival) → meter_after m (as_ ++ bs) ≡ meter_after (meter_after m as_) bs
meter_after-append m [] bs = refl
meter_after-append m (a ∷ as_) bs = meter_after-append (after_any m (offer_of a)) as_ bs

rows_from-append : (m : AnyMeter) (place : ℕ) (as_ bs : List Arrival)
    → rows_from m place (as_ ++ bs) ≡ rows_from m place as_ ++ rows_from (meter_after m as_) (place + length as_) bs
rows_from-append m place [] bs =
    let here : place ≡ place + 0 = omega arith in
    ap (λ p. rows_from m p bs) here
rows_from-append m place (a ∷ as_) bs =
    let there : place + 1 + length as_ ≡ place + length (a ∷ as_) = omega arith in
    ap (λ rows. row_of m place a ∷ rows) (rows_from-append (after_any m (offer_of a)) (place + 1) as_ bs)
    ∙ ap (λ p. rows_from m place (a ∷ as_) ++ rows_from (meter_after (after_any m (offer_of a)) as_) p bs) there

accounts_with-append : (a : Accounts) (rows more : List Row) → accounts_with (accounts_with a rows) more ≡ accounts_with a (rows ++ more)
accounts_with-append a rows more =
    ap accounts_in (together-assoc (tallies_in a) (tallies_of rows) (tallies_of more) ∙ ap (together (tallies_in a)) (together-rows rows more))

pub standing_after-append : (s : Standing) (as_ bs : List Arrival) (shut end : Option ℕ)
    → standing_after (standing_after s as_ shut) bs end ≡ standing_after s (as_ ++ bs) end
standing_after-append s as_ bs shut end =
    let place : s.place + length as_ + length bs ≡ s.place + length (as_ ++ bs) = omega (arith, length-append {A = Arrival} as_ bs) in
    rw (meter_after-append s.meter as_ bs, rows_from-append s.meter s.place as_ bs, ← accounts_with-append s.accounts (rows_from s.meter s.place as_) (rows_from (meter_after s.meter as_) (s.place + length as_) bs), ← place)
    refl

-- ---- chapters that go on from one another

-- each goes on where the one before it ended
abbrev pub AreLinked : List Chapter → Type 0
AreLinked chapters = (i : ℕ) → IfSome (slice_get chapters i) (λ before. IfSome (slice_get chapters (suc i)) (GoesOn before))

abbrev pub arrivals_in : List Chapter → List Arrival
arrivals_in chapters = flat_map (λ (c : Chapter). c.arrivals) chapters

-- the last of chapters
abbrev pub last_of : Chapter → List Chapter → Chapter → Chapter
last_of c more d = get_or (c ∷ more) (length more) d

linked_rows : (c : Chapter) (more : List Chapter) → AreLinked (c ∷ more)
    → flat_map (λ (c : Chapter). chapter_rows c) (c ∷ more) ≡ rows_from c.opening.meter c.opening.place (arrivals_in (c ∷ more))
linked_rows c [] linked =
    append-nil (chapter_rows c) ∙ ap (rows_from c.opening.meter c.opening.place) (sym (append-nil c.arrivals))
linked_rows c (d ∷ more) linked =
    ap (λ rows. chapter_rows c ++ rows) (linked_rows d more (λ i. linked (suc i))
    ∙ ap (λ (s : Standing). rows_from s.meter s.place (arrivals_in (d ∷ more))) (linked 0).1)
    ∙ sym (rows_from-append c.opening.meter c.opening.place c.arrivals (arrivals_in (d ∷ more)))

pub linked_closing : (c : Chapter) (more : List Chapter) (default : Chapter) → AreLinked (c ∷ more)
    → closing_of (last_of c more default) ≡ standing_after c.opening (arrivals_in (c ∷ more)) (last_of c more default).shut
linked_closing c [] default linked = ap (λ as_. standing_after c.opening as_ c.shut) (sym (append-nil c.arrivals))
linked_closing c (d ∷ more) default linked =
    linked_closing d more default (λ i. linked (suc i))
    ∙ ap (λ s. standing_after s (arrivals_in (d ∷ more)) (last_of d more default).shut) (linked 0).1
    ∙ standing_after-append c.opening c.arrivals (arrivals_in (d ∷ more)) c.shut (last_of d more default).shut

shut_at_last-of : (c : Chapter) (more : List Chapter) (default : Chapter) → shut_at_last (c ∷ more) ≡ (last_of c more default).shut
shut_at_last-of c [] default = refl
shut_at_last-of c (d ∷ more) default = shut_at_last-of d more default

-- ---- the least gap

pub some_chapter : (chapters : List Chapter) → AreChapters chapters → 0 < length chapters
some_chapter [] all = absurd (all 0)
some_chapter (c ∷ more) all = omega arith

-- what stands at two places one after the other
follows_at : (chapters : List Chapter) (index : ℕ) (c d : Chapter) → suc index < length chapters → (GoesOn (get_or chapters index d) (get_or chapters (suc index) c)
    → Follows chapters (suc index)) × (Follows chapters (suc index) → GoesOn (get_or chapters index d) (get_or chapters (suc index) c))
follows_at [] index c d within = absurd (omega (arith, within))
follows_at (e ∷ []) index c d within = absurd (omega (arith, within))
follows_at (e ∷ f ∷ more) zero c d within = (λ on. on, λ follows. follows)
follows_at (e ∷ f ∷ more) (suc index) c d within = follows_at (f ∷ more) index c d (omega (arith, within))

-- behind the last chapter nothing has to follow
pub follows_past : (chapters : List Chapter) (index : ℕ) → length chapters ≤ suc index → Follows chapters (suc index)
follows_past [] index past = tt
follows_past (c ∷ []) zero past = tt
follows_past (c ∷ []) (suc index) past = tt
follows_past (c ∷ e ∷ more) zero past = absurd (omega (arith, past))
follows_past (c ∷ e ∷ more) (suc index) past = follows_past (e ∷ more) index (omega (arith, past))

module _ (chapters : List Chapter) (index : ℕ) where
  -- the chapter of an index and the one before it
  module _ (c d : Chapter) (some : 1 ≤ index) (within : index < length chapters) (here : c ≡ get_or chapters index c) (before : d ≡ get_or chapters (index - 1) d) where
    follows_here : (GoesOn d c → Follows chapters index) × (Follows chapters index → GoesOn d c)
    follows_here =
        let next : suc (index - 1) ≡ index = omega (arith, some) in
        let at = follows_at chapters (index - 1) c d (omega (arith, some, within)) in
        let there : get_or chapters (suc (index - 1)) c ≡ c = ap (λ i. get_or chapters i c) next ∙ sym here in (
          λ on. subst (Follows chapters) next (at.0 (subst₂ GoesOn before (sym there) on)),
          λ follows. subst₂ GoesOn (sym before) there (at.1 (subst (Follows chapters) (sym next) follows)),
        )

    pub gap_here : ¬ GoesOn d c → ¬ Follows chapters index
    gap_here gap follows = gap (follows_here.1 follows)

    pub follows_next : GoesOn d c → ((i : ℕ) → i < index → Follows chapters i) → (i : ℕ) → i < index + 1 → Follows chapters i
    follows_next on so_far i below = elim (cases_lt i index) [
      | inl earlier ↦ so_far i earlier
      | inr later ↦
          let same : index ≡ i = omega (arith, later, below) in
          subst (Follows chapters) same (follows_here.0 on)
    ]

  pub follows_all : (i : ℕ) → 1 ≤ index → length chapters ≤ index → ((i : ℕ) → i < index → Follows chapters i) → Follows chapters i
  follows_all zero some all so_far = so_far 0 (omega (arith, some))
  follows_all (suc i) some all so_far = elim (cases_lt (suc i) index) [
    | inl earlier ↦ so_far (suc i) earlier
    | inr later ↦ follows_past chapters i (omega (arith, all, later))
  ]

-- ---- the journal of chapters

map-flat_map : {X Y Z : Type 0} (f : Y → Z) (g : X → List Y) (xs : List X) → flat_map (λ x. map f (g x)) xs ≡ map f (flat_map g xs)
map-flat_map f g [] = refl
map-flat_map f g (x ∷ xs) = ap (λ rest. map f (g x) ++ rest) (map-flat_map f g xs) ∙ sym (map-append f (g x) (flat_map g xs))

-- what the rows of the chapters of a book are, and their journal
pub record IsJoint (chapters : List Chapter) (rows : List StoredRow) (first last : Chapter) : Type 0 where
  pub replayed : rows ≡ map stored_of (replay first.opening.meter (arrivals_of rows))
  pub counted : (closing_of last).accounts ≡ accounts_of (replay first.opening.meter (arrivals_of rows))
  pub joined : joined chapters
      ≡ Some (record { site = first.site; opening = first.opening.meter; skew = first.opening.skew; arrivals = arrivals_of rows })
  pub shut : shut_at_last chapters ≡ last.shut
  pub newest : newest_of (closing_of last).meter ≡ newest_of (meter_after first.opening.meter (arrivals_of rows))

joint_of : (c : Chapter) (more : List Chapter) (rows : List StoredRow) (default : Chapter) → AreChapters (c ∷ more)
    → rows ≡ flat_map (λ (c : Chapter). map stored_of (chapter_rows c)) (c ∷ more) → IsStanding c.opening
    → IsJoint (c ∷ more) rows c (last_of c more default)
joint_of c more rows default all stored stands =
    let linked : AreLinked (c ∷ more) = λ i. all (suc i) in
    let first : c.opening.place ≡ 0 = all 0 in
    let is : rows ≡ map stored_of (replay c.opening.meter (arrivals_in (c ∷ more))) =
    stored ∙ map-flat_map stored_of (λ (c : Chapter). chapter_rows c) (c ∷ more) ∙ ap (map stored_of) (linked_rows c more linked
    ∙ ap (λ p. rows_from c.opening.meter p (arrivals_in (c ∷ more))) first) in
    let arrivals : arrivals_of rows ≡ arrivals_in (c ∷ more) = ap arrivals_of is ∙ arrivals_of-rows_from c.opening.meter 0 (arrivals_in (c ∷ more)) in
    let closing = linked_closing c more default linked in
    let nothing : accounts_with c.opening.accounts (rows_from c.opening.meter c.opening.place (arrivals_in (c ∷ more))) ≡ accounts_of (replay c.opening.meter (arrivals_in (c ∷ more))) =
    ap accounts_in (none-together (tallies_in c.opening.accounts) (tallies_of (rows_from c.opening.meter c.opening.place (arrivals_in (c ∷ more)))) stands.sized (stands.counted ∙ first))
    ∙ ap (λ p. accounts_of (rows_from c.opening.meter p (arrivals_in (c ∷ more)))) first in
    record {
      replayed = rw arrivals is;
      counted = rw arrivals (ap (λ (s : Standing). s.accounts) closing ∙ nothing);
      joined = rw arrivals refl;
      shut = shut_at_last-of c more default;
      newest = rw arrivals (ap (λ (s : Standing). newest_of s.meter) closing);
    }

pub joint : (chapters : List Chapter) (rows : List StoredRow) (first last : Chapter) → AreChapters chapters
    → rows ≡ flat_map (λ (c : Chapter). map stored_of (chapter_rows c)) chapters → first ≡ get_or chapters 0 first → last ≡ get_or chapters (length chapters - 1) last
    → IsStanding first.opening → IsJoint chapters rows first last
joint [] rows first last all stored is_first is_last stands = absurd (all 0)
joint (c ∷ more) rows first last all stored is_first is_last stands =
    let count : length (c ∷ more) - 1 ≡ length more = omega arith in
    let is : last ≡ last_of c more last = is_last ∙ ap (λ i. get_or (c ∷ more) i last) count in
    subst₂ (IsJoint (c ∷ more) rows) (sym is_first) (sym is) (joint_of c more rows last all stored (subst (λ (d : Chapter). IsStanding d.opening) is_first stands))
