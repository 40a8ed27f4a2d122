-- Which ids a book can hold, and what a feed sees that has learned all of it.
use Rattle.std.proofs.Common.{◌≡◌, ◌<◌, ℕ, false, List, [], ◌∷◌, length, None, refl, arith, nat_eq}
use Rattle.std.specs.List.{AllByRecursion}
use Rattle.ds_broker.specs.Books.{Book, held_of, holding_of}
use Rattle.ds_broker.specs.Histories.{Holding, standing_of}
use Rattle.ds_broker.proofs.StandingLaws.{IsBounded, granted-most, standing-bounded}

unheld : (granted newest id : ℕ) (held : List Holding) → granted < id → AllByRecursion (IsBounded granted newest) held → holding_of id held ≡ None
unheld granted newest id [] late all = refl
unheld granted newest id (h ∷ held) late all =
    let other : nat_eq id h.id ≡ false = grind (arith, late, all.0.0) in
    rw other (unheld granted newest id held late all.1)

-- no more contracts were granted than commands accepted, and so none has a greater id
pub never_given : (b : Book) (id : ℕ) → length b.history < id → holding_of id (held_of b) ≡ None
never_given b id late =
    unheld (standing_of b.history).granted (standing_of b.history).newest id (held_of b) (omega (arith, granted-most b.history, late)) (standing-bounded b.history)
