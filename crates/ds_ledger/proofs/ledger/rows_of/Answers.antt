use Rattle.std.proofs.Common.{◌≡◌, ◌++◌, ◌∷◌, [], ◌<◌, ◌+◌, List, All, ap, arith, sym, subst, ◌∙◌, append_assoc, drop, take, get_or, length}
use Rattle.std.proofs.lemmas.List.{drop_more, take_more}
use Rattle.std.proofs.lemmas.List.Elements.{All-push}
use Rattle.sqlite_value.specs.Order.{Row}
use Rattle.ds_broker.specs.declared.command.Command.{Command}
use Rattle.ds_ledger_rows.specs.Sound.{IsSound}
use Rattle.ds_ledger.specs.Kept.{end_after, row_at, rows_from}
use Rattle.ds_ledger.specs.declared.ledger.End.{End}
use Rattle.ds_ledger.proofs.ledger.rows_of.Goals as goal

pub loop-command-preserved : goal.loop-command-preserved
loop-command-preserved c =
    let own = c.loop-command.invariant in
    let commands = c.args.commands.now in
    let i = c.loop-command.command-index in
    let x = c.command-item.result in
    let there : x ≡ get_or commands i x = c.command-item.is in
    let low : i < length commands = omega (arith, c.loop-command-test.true) in
    let rest = drop (i + 1) commands in
    let left : drop i commands ≡ x ∷ rest = drop_more commands i x low ∙ ap (λ (y : Command). y ∷ rest) (sym there) in
    let pushed = c.in_ok-next.ensures in
    let next = c.loop-command.next in
    record {
      made = ap (λ (rows : List Row). rows ++ rows_from c.in_ok-next.next rest) pushed.row ∙ append_assoc c.loop-command.rows.items (row_at next x ∷ []) _
          ∙ ap (λ (e : End). c.loop-command.rows.items ++ row_at next x ∷ rows_from e rest) pushed.next
          ∙ ap (λ (l : List Command). c.loop-command.rows.items ++ rows_from next l) (sym left) ∙ own.made;
      end = ap (λ (e : End). end_after e rest) pushed.next ∙ ap (end_after next) (sym left) ∙ own.end;
      fits = pushed.fits own.fits;
      sound = subst (All IsSound) (sym (take_more commands i x low ∙ ap (λ (y : Command). take i commands ++ y ∷ []) (sym there))) (All-push IsSound (take i commands) x own.sound pushed.sound);
    }
