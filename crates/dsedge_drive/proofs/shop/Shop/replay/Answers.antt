use Rattle.std.proofs.Common.{◌≡◌, ◌∷◌, [], length, sym, ap, ◌∙◌, inl, inr, arith, rules, ◌+◌}
use Rattle.std.proofs.lemmas.List.{nil_from_length}
use Rattle.std.specs.Vec.Iter.{into_iter_items}
use Rattle.ds_ledger_base.specs.Replays.{replay}
use Rattle.ds_ledger_base.proofs.ReplayLaws.{replay-accepted, replay-end, replay-refused}
use Rattle.dsedge_drive.proofs.shop.Shop.replay.Goals as goal

pub commands-preserved : goal.commands-preserved
commands-preserved g c =
    let at = c.commands in
    let steps : into_iter_items at.command-iterator ≡ c.in-Some.command ∷ into_iter_items c.next.new.self = c.in-Some.ensures.steps.0 in (
      replay-accepted _ at.self _ _ c.in-Some.command at.invariant.0 steps c.accept.new.self c.in-Ok.ensures.unrefused c.in-Ok.ensures.accepted,
      let was = at.invariant.1 in
          let gone = c.in-Some.ensures.steps.1 in
          let short = ap length steps in
          omega arith,
    )

pub returns-in-Err-clause-refused : goal.returns-in-Err-clause-refused
returns-in-Err-clause-refused g c =
    let at = c.commands in
    let steps : into_iter_items at.command-iterator ≡ c.in-Some.command ∷ into_iter_items c.next.new.self = c.in-Some.ensures.steps.0 in
    elim c.in-Err.ensures.refused [
      | inl memory ↦ inl memory.0
      | inr stands ↦ inr (ap (replay c.args.self.now) (sym c.into_iter-command-iterator.ensures.into_iter_gives.0)
          ∙ replay-refused _ at.self _ _ c.in-Some.command at.invariant.0 steps (c.from-serial.result + 1) c.in-Err.refusal stands
          (search (rules, c.book.ensures, c.serial.ensures, c.get.ensures, c.from-serial.ensures)))
    ]

pub returns-clause-whole : goal.returns-clause-whole
returns-clause-whole g c =
    let at = c.commands in
    let none = c.in-None.ensures.steps in
    let empty : into_iter_items at.command-iterator ≡ [] = nil_from_length _ (sym at.invariant.1 ∙ none.0) in
    ap (replay c.args.self.now) (sym c.into_iter-command-iterator.ensures.into_iter_gives.0) ∙ replay-end _ at.self _ at.invariant.0 empty
