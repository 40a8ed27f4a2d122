-- How far the chapters of a site join, chapter by chapter.
use Rattle.std.proofs.Common.{◌≡◌, ◌≢◌, ℕ, zero, suc, ◌+◌, ◌<◌, ◌≤◌, Bool, true, false, cond, List, [], ◌∷◌, ◌++◌, length, take, set, get_or, Option, None, Some, ◌⊎◌, inl, inr, refl, sym, ◌∙◌, ap, subst, append-nil, eq-eqb, arith, filter, min, nat_eq, option_and_then, slice_get, unwrap_or, IfSome, get_or-set_other, get_or-set_same, length-set}
use Rattle.std.proofs.lemmas.Bool.{cases_eq, cases_lt, eqb-true}
use Rattle.std.proofs.lemmas.Bool.Decides.{nat_tests}
use Rattle.std.proofs.lemmas.List.Elements.{filter_more}
use Rattle.std.proofs.lemmas.Option.{slice_get_past, slice_get_read}
use Rattle.meter_book.specs.Chapters.{AreChapters, Chapter, GoesOn, closing_of}
use Rattle.meter_book.specs.Gathering.{AreJoint, IsNext, last_in, last_part, of_site}
use Rattle.meter_book.specs.Replay.{Book}
use Rattle.meter_book.proofs.GatheringLaws.{joint-all, joint-append, joint-front, joint-last, last_in-append}
use Rattle.meter_fabric.specs.Closing.{AreThere, IsFirstMissing, IsThere}
use Rattle.meter_fabric.specs.Fabrics.{book_at}
use Rattle.meter_fabric.specs.Tails.{AreTails, IsAfter, IsClosedBy, IsLeastStray, IsTail, JoinsTail, Reaches}
use Rattle.meter_fabric.specs.declared.tails.Tail.{Tail}
use Rattle.meter_fabric.specs.declared.tails.Tail.TheVariants.{Fresh, At, Broken}

-- ---- one chapter more of those of a site

picked : (own : List Chapter) (c : Chapter) (b : Bool) → b ≡ true → own ++ cond b (c ∷ []) [] ≡ own ++ c ∷ []
picked own c true is = refl
picked own c false is = absurd cc

left_out : (own : List Chapter) (c : Chapter) (b : Bool) → b ≡ false → own ++ cond b (c ∷ []) [] ≡ own
left_out own c true is = absurd cc
left_out own c false is = append-nil own

module _ (all : List Chapter) (index : ℕ) (c : Chapter) (within : index < length all) (here : c ≡ get_or all index c) where
  own_next : (site : ℕ) → of_site site (take (index + 1) all) ≡ of_site site (take index all) ++ cond (nat_eq c.site site) (c ∷ []) []
  own_next site =
      filter_more (λ (x : Chapter). nat_eq x.site site) all index c within
      ∙ ap (λ (x : Chapter). of_site site (take index all) ++ cond (nat_eq x.site site) (x ∷ []) []) (sym here)

  pub own_more : (site : ℕ) → c.site ≡ site → of_site site (take (index + 1) all) ≡ of_site site (take index all) ++ c ∷ []
  own_more site same = own_next site ∙ picked (of_site site (take index all)) c (nat_eq c.site site) (eq-eqb c.site site same)

  pub own_same : (site : ℕ) → c.site ≢ site → of_site site (take (index + 1) all) ≡ of_site site (take index all)
  own_same site other =
      let no : nat_eq c.site site ≡ false = grind (arith, nat_tests) in
      own_next site ∙ left_out (of_site site (take index all)) c (nat_eq c.site site) no

-- ---- tails

pub reaches : (all own : List Chapter) (tail : Tail) → IsTail all own tail → Reaches all tail
reaches all own Fresh is = tt
reaches all own (At k) is = is.1
reaches all own Broken is = tt

joint_one : (c : Chapter) → c.opening.place ≡ 0 → AreJoint (c ∷ [])
joint_one c first = joint-append [] c (λ i within. absurd (omega (arith, within))) first

-- what goes on behind a tail goes on behind the last of its chapters
joins_next : (found : Option Chapter) (last : Option Chapter) (c : Chapter) → (before : Chapter) → found ≡ Some before → found ≡ last → IfSome found (λ b. GoesOn b c) → IsNext last c
joins_next None last c before some same joins = absurd cc
joins_next (Some b) None c before some same joins = absurd cc
joins_next (Some b) (Some d) c before some same joins = let is : b ≡ d = cc in subst (λ (x : Chapter). GoesOn x c) is joins

next_joins : (found : Option Chapter) (last : Option Chapter) (c : Chapter) → found ≡ last → IsNext last c → IfSome found (λ b. GoesOn b c)
next_joins None last c same next = tt
next_joins (Some b) None c same next = absurd cc
next_joins (Some b) (Some d) c same next = let is : d ≡ b = cc in subst (λ (x : Chapter). GoesOn x c) is next

some_within : (all : List Chapter) (k : ℕ) → k < length all → (x : Chapter) × (slice_get all k ≡ Some x)
some_within [] k within = absurd (omega (arith, within))
some_within (c ∷ more) zero within = (c, refl)
some_within (c ∷ more) (suc k) within = some_within more k (omega (arith, within))

at_some : (found : Option Chapter) (P : Chapter → Type 0) (c : Chapter) → found ≡ Some c → IfSome found P → P c
at_some None P c is holds = absurd cc
at_some (Some d) P c is holds = let same : d ≡ c = cc in subst P same holds

-- one chapter more joins where it goes on behind the tail
joins_more : (all own : List Chapter) (tail : Tail) (c : Chapter) → IsTail all own tail → JoinsTail all tail c → AreJoint (own ++ c ∷ [])
joins_more all own Fresh c is joins = subst (λ (o : List Chapter). AreJoint (o ++ c ∷ [])) (sym is) (joint_one c joins)
joins_more all own (At k) c is joins =
    let (before, found) = some_within all k is.1 in
    joint-append own c is.0 (joins_next (slice_get all k) (last_in own) c before found is.2 joins)
joins_more all own Broken c is joins = absurd joins

more_joins : (all own : List Chapter) (tail : Tail) (c : Chapter) → IsTail all own tail → AreJoint (own ++ c ∷ []) → JoinsTail all tail c
more_joins all own Fresh c is joint = joint-last [] c (subst (λ (o : List Chapter). AreJoint (o ++ c ∷ [])) is joint)
more_joins all own (At k) c is joint = next_joins (slice_get all k) (last_in own) c is.2 (joint-last own c joint)
more_joins all own Broken c is joint = absurd (is (joint-front own c joint))

tail_more : (all own : List Chapter) (tail : Tail) (index : ℕ) (c : Chapter) (next : Tail) → index < length all → slice_get all index ≡ Some c
    → IsTail all own tail → IsAfter all tail index next → IsTail all (own ++ c ∷ []) next
tail_more all own tail index c Fresh within at is after = absurd after
tail_more all own tail index c (At k) within at is after =
    let joins : JoinsTail all tail c = at_some (slice_get all index) (JoinsTail all tail) c at after.1 in (
      joins_more all own tail c is joins,
      subst (λ i. i < length all) (sym after.0) within,
      ap (slice_get all) after.0 ∙ at ∙ sym (last_in-append own c),
    )
tail_more all own tail index c Broken within at is after =
    λ joint. at_some (slice_get all index) (λ (d : Chapter). ¬ JoinsTail all tail d) c at after (more_joins all own tail c is joint)

module _ (all : List Chapter) (index : ℕ) (c : Chapter) (within : index < length all) (here : c ≡ get_or all index c) (tails : List Tail) (so_far : AreTails all (take index all) tails) where
  pub tails_more : (next : Tail) → c.site < length tails → IsAfter all (get_or tails c.site Fresh) index next → AreTails all (take (index + 1) all) (set tails c.site next)
  tails_more next there after site below =
      let short : site < length tails = omega (arith, below, length-set tails c.site next) in
      elim (cases_eq site c.site) [
        | inl same ↦
            let at : slice_get all index ≡ Some c = slice_get_read all (length all) index c refl within here in
            let own : of_site c.site (take (index + 1) all) ≡ of_site c.site (take index all) ++ c ∷ [] = own_more all index c within here c.site refl in
            let is : IsTail all (of_site c.site (take (index + 1) all)) (get_or (set tails c.site next) c.site Fresh) =
            rw (own, get_or-set_same tails c.site next Fresh there)
            (tail_more all (of_site c.site (take index all)) (get_or tails c.site Fresh) index c next within at (so_far c.site there) after) in
            subst (λ s. IsTail all (of_site s (take (index + 1) all)) (get_or (set tails c.site next) s Fresh)) (sym same) is
        | inr other ↦
            rw (own_same all index c within here site (λ e. other (sym e)), get_or-set_other tails c.site site next Fresh other) (so_far site short)
      ]

  pub tails_past : length tails ≤ c.site → AreTails all (take (index + 1) all) tails
  tails_past past site below =
      rw (own_same all index c within here site (λ e. absurd (omega (arith, past, below, e)))) (so_far site below)

-- ---- what stands at a site behind the tail of its chapters

abbrev pub EachOf : ℕ → List Chapter → Type 0
EachOf site [] = Unit {0}
EachOf site (c ∷ more) = (c.site ≡ site) × EachOf site more

each_picked : (site : ℕ) (c : Chapter) (own : List Chapter) (b : Bool) → nat_eq c.site site ≡ b → EachOf site own → EachOf site (cond b (c ∷ own) own)
each_picked site c own true is each = (eqb-true c.site site is, each)
each_picked site c own false is each = each

pub each_of : (site : ℕ) (chapters : List Chapter) → EachOf site (of_site site chapters)
each_of site [] = tt
each_of site (c ∷ more) = each_picked site c (of_site site more) (nat_eq c.site site) refl (each_of site more)

last_of_each : (site : ℕ) (own : List Chapter) (d : Chapter) → EachOf site own → last_in own ≡ Some d → d.site ≡ site
last_of_each site [] d each is = absurd cc
last_of_each site (c ∷ []) d each is = let same : c ≡ d = cc in ap (λ (x : Chapter). x.site) (sym same) ∙ each.0
last_of_each site (c ∷ e ∷ more) d each is = last_of_each site (e ∷ more) d each.1 is

nothing_last : (own : List Chapter) (x : Chapter) → own ≡ [] → last_in own ≡ Some x → ⊥
nothing_last [] x none is = cc
nothing_last (c ∷ more) x none is = cc

module _ (all : List Chapter) (site : ℕ) where
  pub closed_there : (tail : Tail) (book : Option Book) → IsTail all (of_site site all) tail → IsClosedBy all tail book → IsThere all site book
  closed_there Fresh None is closed = is
  closed_there (At k) None is closed = absurd closed
  closed_there Broken None is closed = absurd closed
  closed_there Fresh (Some b) is closed =
      joint-all (of_site site all) (last_part site b) (subst (λ (o : List Chapter). AreJoint (o ++ last_part site b ∷ [])) (sym is) (joint_one (last_part site b) closed))
  closed_there (At k) (Some b) is closed =
      let (before, found) = some_within all k is.1 in
      let goes : b.opening ≡ closing_of before = at_some (slice_get all k) (λ (x : Chapter). b.opening ≡ closing_of x) before found closed in
      let last : last_in (of_site site all) ≡ Some before = sym is.2 ∙ found in
      let own : before.site ≡ site = last_of_each site (of_site site all) before (each_of site all) last in
      let next : IsNext (last_in (of_site site all)) (last_part site b) = subst (λ (x : Option Chapter). IsNext x (last_part site b)) (sym last) (sym own, goes) in
      joint-all (of_site site all) (last_part site b) (joint-append (of_site site all) (last_part site b) is.0 next)
  closed_there Broken (Some b) is closed = absurd closed

  pub there_closed : (tail : Tail) (book : Option Book) → IsTail all (of_site site all) tail → IsThere all site book → IsClosedBy all tail book
  there_closed Fresh None is there = tt
  there_closed (At k) None is there =
      let (before, found) = some_within all k is.1 in
      absurd (nothing_last (of_site site all) before there (sym is.2 ∙ found))
  there_closed Broken None is there = absurd (is (subst AreJoint (sym there) (λ i within. absurd (omega (arith, within)))))
  there_closed Fresh (Some b) is there =
      joint-last [] (last_part site b) (subst (λ (o : List Chapter). AreJoint (o ++ last_part site b ∷ [])) is (λ i within. there i))
  there_closed (At k) (Some b) is there =
      let (before, found) = some_within all k is.1 in
      let last : last_in (of_site site all) ≡ Some before = sym is.2 ∙ found in
      let next : IsNext (last_in (of_site site all)) (last_part site b) = joint-last (of_site site all) (last_part site b) (λ i within. there i) in
      let goes : GoesOn before (last_part site b) = subst (λ (x : Option Chapter). IsNext x (last_part site b)) last next in
      subst (λ (x : Option Chapter). IfSome x (λ c. b.opening ≡ closing_of c)) (sym found) goes.1
  there_closed Broken (Some b) is there = absurd (is (joint-front (of_site site all) (last_part site b) (λ i within. there i)))

-- ---- sites that are not there

behind_some : (own : List Chapter) (c : Chapter) → own ++ c ∷ [] ≢ []
behind_some [] c is = cc
behind_some (d ∷ more) c is = cc

module _ (all : List Chapter) (index : ℕ) (c : Chapter) (within : index < length all) (here : c ≡ get_or all index c) (sites : ℕ) where
  pub stray_same : (least : Option ℕ) → IsLeastStray (take index all) sites least → c.site < sites → IsLeastStray (take (index + 1) all) sites least
  stray_same None is near = λ s past. own_same all index c within here s (λ e. absurd (omega (arith, near, past, e))) ∙ is s past
  stray_same (Some m) is near = (
    is.0,
    λ s past below. own_same all index c within here s (λ e. absurd (omega (arith, near, past, e))) ∙ is.1 s past below,
    λ none. is.2 (sym (own_same all index c within here m (λ e. absurd (omega (arith, near, is.0, e)))) ∙ none),
  )

  pub stray_more : (least : Option ℕ) → IsLeastStray (take index all) sites least → sites ≤ c.site → IsLeastStray (take (index + 1) all) sites (Some (min (unwrap_or least c.site) c.site))
  stray_more None is past =
      let m : min c.site c.site ≡ c.site = omega arith in
      rw m (
        past,
        (λ s from below. own_same all index c within here s (λ e. absurd (omega (arith, below, e))) ∙ is s from),
        (λ none. behind_some (of_site c.site (take index all)) c (sym (own_more all index c within here c.site refl) ∙ none)),
      )
  stray_more (Some m) is past = elim (cases_lt m c.site) [
    | inl below ↦
        let same : min m c.site ≡ m = omega (arith, below) in
        rw same (
          is.0,
          (λ s from under. own_same all index c within here s (λ e. absurd (omega (arith, below, under, e))) ∙ is.1 s from under),
          (λ none. is.2 (sym (own_same all index c within here m (λ e. absurd (omega (arith, below, e)))) ∙ none)),
        )
    | inr above ↦
        let same : min m c.site ≡ c.site = omega (arith, above) in
        rw same (
          past,
          (λ s from under. own_same all index c within here s (λ e. absurd (omega (arith, under, e))) ∙ is.1 s from (omega (arith, under, above))),
          (λ none. behind_some (of_site c.site (take index all)) c (sym (own_more all index c within here c.site refl) ∙ none)),
        )
  ]

-- ---- the least site at which something is missing

no_book : (books : List (Option Book)) (site : ℕ) → length books ≤ site → book_at books site ≡ None
no_book books site past = ap (λ (found : Option (Option Book)). option_and_then (λ (x : Option Book). x) found) (slice_get_past books site past)

abbrev pub IsMissing : List (Option Book) → List Chapter → Option ℕ → Type 0
IsMissing books all None = AreThere books all
IsMissing books all (Some site) = IsFirstMissing books all site

-- a book is read
pub book_read : (books : List (Option Book)) (site : ℕ) (b : Option Book) → site < length books → b ≡ get_or books site b → book_at books site ≡ b
book_read books site None within is = ap (λ (found : Option (Option Book)). option_and_then (λ (x : Option Book). x) found) (slice_get_read books (length books) site None refl within is)
book_read books site (Some b) within is = ap (λ (found : Option (Option Book)). option_and_then (λ (x : Option Book). x) found) (slice_get_read books (length books) site (Some b) refl within is)

module _ (all : List Chapter) (books : List (Option Book)) where
  there_past : (site : ℕ) → length books ≤ site → of_site site all ≡ [] → IsThere all site (book_at books site)
  there_past site past none = rw (no_book books site past) none

  pub missing_stray : (found : Option ℕ) → ((s : ℕ) → s < length books → IsThere all s (book_at books s)) → IsLeastStray all (length books) found
      → IsMissing books all found
  missing_stray None there stray = λ site. elim (cases_lt site (length books)) [
    | inl below ↦ there site below
    | inr past ↦ there_past site past (stray site past)
  ]
  missing_stray (Some m) there stray = (
    (λ s below. elim (cases_lt s (length books)) [
      | inl near ↦ there s near
      | inr past ↦ there_past s past (stray.1 s past below)
    ]),
    (λ is. stray.2 (subst (λ (b : Option Book). IsThere all m b) (no_book books m stray.0) is)),
  )
