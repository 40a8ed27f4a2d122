use Rattle.std.proofs.Common.{◌≡◌, ◌<◌, ◌≤◌, ◌∷◌, ◌++◌, [], Option, Some, length, set, get_or, ap, arith, sym, subst, ◌∙◌, slice_get, length-set}
use Rattle.std.specs.Vec.Iter.{into_iter_items}
use Rattle.meter_book.specs.Replay.{Book, Journal}
use Rattle.meter_fabric.specs.Gathered.{IsJournalOf}
use Rattle.meter_fabric.proofs.JournalLaws.{head_at, journals_more, left_more, left_there, rest_at}
use Rattle.meter_fabric.proofs.gathering.journals_of.Goals as goal

pub journal_at-requires : goal.journal_at-requires
journal_at-requires c =
    let steps = c.in-Some.ensures.steps in
    let count = c.loop-site.site-iterator.count in
    let now = c.loop-site.gathered.items in
    let found = c.take-found.result in
    let items : into_iter_items c.loop-site.site-iterator.iter ≡ Some c.in-Some-book.book ∷ into_iter_items c.next.new.self.iter = steps.0.0 ∙ ap (λ (b : Option Book). b ∷ into_iter_items c.next.new.self.iter) c.in-Some-book.is in
    let book = head_at c.args.books.items count (Some c.in-Some-book.book) (into_iter_items c.next.new.self.iter) (sym c.loop-site.invariant.items ∙ items) in
    let within : count < length now = omega (arith, c.loop-site.invariant.gathered, c.loop-site.invariant.count, ap length items) in
    let is : c.index_mut.result.now ≡ get_or now count c.index_mut.result.now = subst (λ s. c.index_mut.result.now ≡ get_or now s c.index_mut.result.now) steps.1 c.index_mut.ensures.value in
    let same = sym c.take-found.ensures.value in
    let read : found ≡ get_or now count found = subst (λ (f : Option Journal). f ≡ get_or now count f) same is in
    c.requires.all.each count (Some c.in-Some-book.book) found book
    (left_there c.args.books.items c.args.gathered.items now (Some c.in-Some-book.book) found (into_iter_items c.next.new.self.iter) count c.loop-site.invariant.left within read)

pub loop-site-preserved-in-Some-book : goal.loop-site-preserved-in-Some-book
loop-site-preserved-in-Some-book c =
    let steps = c.in-Some.ensures.steps in
    let count = c.loop-site.site-iterator.count in
    let now = c.loop-site.gathered.items in
    let found = c.take-found.result in
    let rest = into_iter_items c.next.new.self.iter in
    let items : into_iter_items c.loop-site.site-iterator.iter ≡ Some c.in-Some-book.book ∷ rest = steps.0.0 ∙ ap (λ (b : Option Book). b ∷ rest) c.in-Some-book.is in
    let there = sym c.loop-site.invariant.items ∙ items in
    let book = head_at c.args.books.items count (Some c.in-Some-book.book) rest there in
    let within : count < length now = omega (arith, c.loop-site.invariant.gathered, c.loop-site.invariant.count, ap length items) in
    let is : c.index_mut.result.now ≡ get_or now count c.index_mut.result.now = subst (λ s. c.index_mut.result.now ≡ get_or now s c.index_mut.result.now) steps.1 c.index_mut.ensures.value in
    let same = sym c.take-found.ensures.value in
    let read : found ≡ get_or now count found = subst (λ (f : Option Journal). f ≡ get_or now count f) same is in
    let gathered = left_there c.args.books.items c.args.gathered.items now (Some c.in-Some-book.book) found rest count c.loop-site.invariant.left within read in
    let own : IsJournalOf count c.in-Some-book.book found c.journal_at.result = subst (λ s. IsJournalOf s c.in-Some-book.book found c.journal_at.result) steps.1 c.journal_at.ensures in
    let pushed : c.push.new.self.items ≡ c.loop-site.journals.items ++ c.journal_at.result ∷ [] = rw c.unwrap.ensures at c.push.ensures.items in
    record {
      value = λ all are. journals_more all c.loop-site.journals.items _ _ rest count c.next.new.self.count c.push.new.self.items c.journal_at.result c.in-Some-book.book found
          (c.loop-site.invariant.value all are) items steps.2 (are.each count (Some c.in-Some-book.book) found book gathered) own pushed;
      items = rest_at c.args.books.items count c.next.new.self.count (Some c.in-Some-book.book) rest steps.2 there;
      count = omega (arith, c.loop-site.invariant.count, ap length items, steps.2);
      gathered = length-set now c.in-Some.site c.take-found.new.self ∙ c.loop-site.invariant.gathered;
      left = subst (λ s. (site : _) → c.next.new.self.count ≤ site → slice_get (set now s c.take-found.new.self) site ≡ slice_get c.args.gathered.items site) (sym steps.1)
          (left_more c.args.books.items c.args.gathered.items now (Some c.in-Some-book.book) found rest count c.next.new.self.count c.take-found.new.self steps.2 c.loop-site.invariant.left);
      some = omega (arith, c.loop-site.invariant.some, c.push.ensures.upper_bound, steps.2);
      room = omega (arith, c.loop-site.invariant.room, c.push.ensures.capacity);
    }
