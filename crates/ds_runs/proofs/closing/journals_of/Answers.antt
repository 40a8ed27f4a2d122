use Rattle.std.proofs.Common.{◌≡◌, ◌∷◌, [], Some, length, rules, ap, subst, arith, ◌∙◌}
use Rattle.std.proofs.lemmas.List.{nil_from_length}
use Rattle.std.proofs.lemmas.List.Elements.{All-rest}
use Rattle.std.specs.Vec.Iter.{into_iter_items}
use Rattle.ds_runs.specs.Conducting.{AreWhole, IsWhole, journal_of}
use Rattle.ds_runs.proofs.ClosingLaws.{journals_ended, journals_more, journals_past}
use Rattle.ds_runs.proofs.closing.journals_of.Goals as goal

pub into_journal-requires : goal.into_journal-requires
into_journal-requires c =
    let items = c.in-Some.ensures.steps.0.0 ∙ ap (λ found. found ∷ into_iter_items c.next.new.self.iter) c.in-Some-book.is in
    record { whole = subst AreWhole items c.loop-site.invariant.whole 0 (Some c.in-Some-book.book) (omega arith) }

pub loop-site-preserved-in-Continue-1 : goal.loop-site-preserved-in-Continue-1
loop-site-preserved-in-Continue-1 c =
    let step = c.in-Some.ensures.steps in
    let items = step.0.0 ∙ ap (λ found. found ∷ into_iter_items c.next.new.self.iter) c.in-Some-book.is in
    let own : c.at.result ≡ journal_of c.loop-site.site-iterator.count c.in-Some-book.book = search (rules, c.at.ensures, c.into_journal.ensures, step.1) in
    record {
      value = journals_more c.loop-site.journals.items _ _ _ c.loop-site.site-iterator.count c.next.new.self.count c.push.new.self.items c.at.result c.in-Some-book.book
          c.loop-site.invariant.value items step.2 own c.in_ok-push.ensures.items;
      whole = All-rest IsWhole _ _ _ items c.loop-site.invariant.whole;
      count = omega (arith, c.loop-site.invariant.count, ap length items, step.2);
    }

pub loop-site-preserved : goal.loop-site-preserved
loop-site-preserved c =
    let step = c.in-Some.ensures.steps in
    let items = step.0.0 ∙ ap (λ found. found ∷ into_iter_items c.next.new.self.iter) c.in_default.is in
    record {
      value = journals_past c.loop-site.journals.items _ _ _ c.loop-site.site-iterator.count c.next.new.self.count c.loop-site.invariant.value items step.2;
      whole = All-rest IsWhole _ _ _ items c.loop-site.invariant.whole;
      count = omega (arith, c.loop-site.invariant.count, ap length items, step.2);
    }

pub returns : goal.returns
returns c =
    let none : length (into_iter_items c.loop-site.site-iterator.iter) ≡ 0 = search (rules, c.in-None.ensures.steps) in
    let ended : into_iter_items c.loop-site.site-iterator.iter ≡ [] = nil_from_length _ none in
    journals_ended c.loop-site.journals.items _ _ c.loop-site.site-iterator.count c.loop-site.invariant.value ended
