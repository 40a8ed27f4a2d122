use Rattle.std.proofs.Common.{◌≡◌, drop}
use Rattle.std.specs.Arc.{arc_value}
use Rattle.ds_desk.specs.Pages.{last_page}
use Rattle.ds_desk.proofs.press.shown.Given as goal

-- the page that was laid up last stays the last
abbrev pub invariant-loop : goal.invariant-loop
invariant-loop g l =
    last_page (arc_value l.tables.desk.shown.value.page) (drop l.tables.behind l.tables.log.items)
    ≡ last_page (arc_value l.fn.tables.desk.shown.value.page) (drop l.fn.tables.behind l.fn.tables.log.items)
