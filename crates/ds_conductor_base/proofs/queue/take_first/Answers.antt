use Rattle.ds_conductor_base.proofs.TwoRunLaws.{led_same, taken_of_newer, taken_of_older}
use Rattle.ds_conductor_base.proofs.queue.take_first.Goals as goal

pub returns-then-is_newer_first-clause-first : goal.returns-then-is_newer_first-clause-first
returns-then-is_newer_first-clause-first c =
    taken_of_newer c.args.moment c.args.trains.now.rows c.take_due.new.trains.rows c.args.older.now.items c.args.newer.now.items c.take_due.new.run.items
    c.take_due.result
    (led_same c.args.older.now.items c.args.newer.now.items c.deref.result.now c.deref-2.result.now c.deref.ensures.value c.deref-2.ensures.value c.if-is_newer_first.ensures)
    c.take_due.ensures.first

pub returns-else-is_newer_first-clause-first : goal.returns-else-is_newer_first-clause-first
returns-else-is_newer_first-clause-first c =
    taken_of_older c.args.moment c.args.trains.now.rows c.take_due-else-is_newer_first.new.trains.rows c.args.older.now.items
    c.take_due-else-is_newer_first.new.run.items c.args.newer.now.items
    c.take_due-else-is_newer_first.result
    (led_same c.args.newer.now.items c.args.older.now.items c.deref-2.result.now c.deref.result.now c.deref-2.ensures.value c.deref.ensures.value c.if-is_newer_first.ensures)
    c.take_due-else-is_newer_first.ensures.first
