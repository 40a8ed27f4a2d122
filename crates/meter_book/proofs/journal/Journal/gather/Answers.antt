use Rattle.std.proofs.Common.{◌∷◌, ◌++◌, [], Some, map, ap, refl, subst, sym, ◌∙◌}
use denote.Bor.{Bor}
use Rattle.meter_book.specs.Chapters.{Chapter, IsStanding}
use Rattle.meter_book.specs.Gathering.{last_part}
use Rattle.meter_book.proofs.GatheringLaws.{first_of_none, first_of_some, gathered}
use Rattle.meter_book.proofs.StandingLaws.{IsJoint}
use Rattle.meter_book.proofs.journal.Journal.gather.Goals as goal

-- what the rows of a book without chapters come to
of_book : (c : goal.After-opening-opening) → IsJoint (map (λ (x : Bor Chapter). x.now) c.args.chapters.now ++ last_part c.args.site c.args.last.now ∷ []) c.in_ok-rows.rows.items (last_part c.args.site c.args.last.now) (last_part c.args.site c.args.last.now)
of_book c =
    let last = last_part c.args.site c.args.last.now in
    gathered (map (λ (x : Bor Chapter). x.now) c.args.chapters.now) last c.in_ok-rows.rows.items last c.requires c.in_ok-rows.ensures
    (first_of_none c.args.chapters.now last c.in-None.ensures.value)
    (subst IsStanding c.opening-opening.ensures.value c.opening-opening.ensures.stands)

-- and those of chapters
of_chapters : (c : goal.After-site) → IsJoint (map (λ (x : Bor Chapter). x.now) c.args.chapters.now ++ last_part c.args.site c.args.last.now ∷ []) c.in_ok-rows.rows.items c.in-Some.first.now.now (last_part c.args.site c.args.last.now)
of_chapters c =
    let last = last_part c.args.site c.args.last.now in
    gathered (map (λ (x : Bor Chapter). x.now) c.args.chapters.now) last c.in_ok-rows.rows.items c.in-Some.first.now.now c.requires c.in_ok-rows.ensures
    (first_of_some c.args.chapters.now last c.in-Some.first.now c.in-Some.ensures.value)
    (subst IsStanding c.opening-opening-in-Some.ensures.value c.opening-opening-in-Some.ensures.stands)

pub new-requires : goal.new-requires
new-requires c =
    let is = of_book c in
    record {
      rows = rw c.opening-opening.ensures.value is.replayed;
      accounts = rw (c.opening-opening.ensures.value, c.standing.ensures.value) is.counted;
    }

pub new-requires-in-Some : goal.new-requires-in-Some
new-requires-in-Some c =
    let is = of_chapters c in
    record {
      rows = rw c.opening-opening-in-Some.ensures.value is.replayed;
      accounts = rw (c.opening-opening-in-Some.ensures.value, c.standing.ensures.value) is.counted;
    }

pub returns-in-None : goal.returns-in-None
returns-in-None c =
    let is = of_book c.before in
    is.joined ∙ ap (λ j. Some j) (sym (c.new.ensures ∙ rw c.opening-opening.ensures.value refl))

pub returns-in-Some : goal.returns-in-Some
returns-in-Some c =
    let is = of_chapters c.before in
    is.joined ∙ ap (λ j. Some j) (sym (c.new-in-Some.ensures ∙ rw (c.site.ensures, c.opening-opening-in-Some.ensures.value) refl))
