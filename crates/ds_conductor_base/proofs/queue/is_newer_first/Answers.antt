use Rattle.std.proofs.Common.{◌∙◌, ap, length, sym, is_lt}
use Rattle.ds_conductor_base.proofs.RunLaws.{filled}
use Rattle.ds_conductor_base.proofs.TwoRunLaws.{led_by}
use Rattle.ds_conductor_base.proofs.queue.is_newer_first.Goals as goal

pub returns-in-Some-last : goal.returns-in-Some-last
returns-in-Some-last c =
    led_by c.args.older.now c.args.newer.now c.in-Some-last.old.now c.in-Some.new.now c.requires.0 c.requires.1
    (filled (length c.args.older.now) (sym c.in-Some-last.ensures.item.0)) (filled (length c.args.newer.now) (sym c.in-Some.ensures.item.0))
    c.in-Some-last.ensures.item.1 c.in-Some.ensures.item.1 c.is_lt.result (c.is_lt.ensures ∙ ap is_lt c.cmp.ensures)
