use Rattle.std.proofs.Common.{◌≡◌, ◌-◌, ◌<◌, Some, flat_map, length, map, ap, arith, refl, subst, sym, ◌∙◌}
use Rattle.std.specs.Prelude.{get_or, IfSome}
use Rattle.meter_book_base.specs.AnyMeter.{newest_of}
use Rattle.meter_book.specs.Chapters.{AreChapters, Chapter, IsStanding, chapter_rows, closing_of}
use Rattle.meter_book.specs.Kept.{arrivals_of, stored_of}
use Rattle.meter_book.proofs.StandingLaws.{IsJoint, joint, rows_before, some_chapter}
use Rattle.meter_book.proofs.journal.Journal.join.Goals as goal

pub index-requires : goal.index-requires
index-requires c =
    omega (arith, some_chapter c.as_slice.result.now c.in_default.ensures, c.as_slice.ensures.len)

pub overflow_sub-len : goal.overflow_sub-len
overflow_sub-len c =
    omega (arith, some_chapter c.as_slice.result.now c.in_default.ensures, c.as_slice.ensures.len, c.len.ensures)

pub index-requires-2 : goal.index-requires-2
index-requires-2 c =
    omega (arith, some_chapter c.as_slice.result.now c.in_default.ensures, c.as_slice.ensures.len, c.len.ensures)

-- what the rows of the chapters come to
is_joint : (c : goal.After-site) → IsJoint c.args.chapters.items c.in-Ok.rows.items c.index.result.now c.index-2.result.now
is_joint c =
    let all = c.args.chapters.items in
    let count : c.len.result ≡ length all = omega (arith, c.len.ensures, c.as_slice.ensures.len, ap length c.as_slice.ensures.value) in
    joint all c.in-Ok.rows.items c.index.result.now c.index-2.result.now (subst AreChapters c.as_slice.ensures.value c.in_default.ensures)
    (c.in-Ok.ensures ∙ ap (flat_map (λ (d : Chapter). map stored_of (chapter_rows d))) c.as_slice-2.ensures.value)
    c.index.ensures (c.index-2.ensures ∙ ap (λ n. get_or all (n - 1) c.index-2.result.now) count)
    (subst IsStanding c.opening-opening.ensures.value c.opening-opening.ensures.stands)

pub new-requires : goal.new-requires
new-requires c =
    let is = is_joint c in
    record {
      rows = rw c.opening-opening.ensures.value is.replayed;
      accounts = rw (c.opening-opening.ensures.value, c.closing.ensures.value) is.counted;
    }

pub returns-clause-joined : goal.returns-clause-joined
returns-clause-joined c =
    let is = is_joint c.before.before in
    is.joined ∙ ap (λ j. Some j) (sym (c.new.ensures ∙ rw (c.site.ensures, c.opening-opening.ensures.value) refl))

pub returns-clause-before : goal.returns-clause-before
returns-clause-before c =
    let is = is_joint c.before.before in
    let last = c.index-2.result.now in
    let opening = c.index.result.now.opening.meter in
    let before : IfSome last.shut (λ end. newest_of (closing_of last).meter < end) = (subst IsStanding c.closing.ensures.value c.closing.ensures.stands).before in
    rw (is.shut, c.new.ensures, c.opening-opening.ensures.value)
    (rows_before opening 0 (arrivals_of c.in-Ok.rows.items) last.shut (subst (λ newest. IfSome last.shut (λ end. newest < end)) is.newest before))
