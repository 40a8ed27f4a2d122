use Rattle.std.proofs.Common.{rules, ◌≡◌, ℕ, List, Option, length, ap, sym, subst, ◌∙◌, arith, vec_len, reverse}
use Rattle.std.proofs.lemmas.List.{reverse-reverse}
use Rattle.std.proofs.lemmas.List.Sorted.{sum_by-IsPermutation}
use Rattle.meter_book.specs.Replay.{Book}
use Rattle.meter_fabric.specs.Fabrics.{StandFrom, places_left}
use Rattle.meter_fabric.proofs.books.lock_all.Goals as goal

pub loop-book-init : goal.loop-book-init
loop-book-init g c =
    let f = g.L.FabricLedger.fabric in
    let back : reverse c.reverse.new.self.items ≡ c.args.books.now.items = ap reverse c.reverse.ensures.items ∙ reverse-reverse c.args.books.now.items in
    let none : vec_len c.args.locks.now ≡ 0 = omega (arith, ap length c.requires.none, c.args.locks.now.ok) in
    record {
      count = search rules;
      room = search rules;
      space = search rules;
      stand = subst (λ (n : ℕ). StandFrom f n (reverse c.reverse.new.self.items)) (sym none) (subst (λ (books : List (Option Book)). StandFrom f 0 books) (sym back) c.requires.stand);
      parts = search rules;
      left = c.requires.tickets.left ∙ sym (sum_by-IsPermutation places_left c.args.books.now.items c.reverse.new.self.items c.reverse.ensures.permutation);
    }
