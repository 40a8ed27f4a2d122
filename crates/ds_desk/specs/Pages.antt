-- Pages that are laid up to be shown.
use Rattle.std.specs.Prelude.{◌≡◌, ⊤, List, [], fold, Option, None, Some}
use Rattle.std.specs.Arc.{arc_value}
use Rattle.logbook.specs.Pages as pages
use Rattle.ds_broker.specs.Books.{Book}
use Rattle.ds_broker.specs.Changes.{Leads}
use Rattle.ds_broker.specs.Requests.{AreUnrefused}
use Rattle.ds_broker.specs.declared.change.Step.{Step}
use Rattle.ds_desk.specs.Acts.{story_in}
use Rattle.ds_desk.specs.Histories.{book_behind}
use Rattle.ds_desk.specs.declared.page.Page.{Page}
use Rattle.ds_desk.specs.declared.page.Shown.{Shown}
use Rattle.ds_desk.specs.declared.trail.Older.{Older}

-- the page that is shown once all that is laid up is: the last one
abbrev pub last_page : Page → List Shown → Page
last_page page laid = fold (λ shown next. arc_value next.page) page laid

-- A page is of the desk of this log and this opening, and nothing stood against any of the commands that it stands for.
pub record IsOfDesk (log : pages.Book) (opening : Book) (page : Page) : Type 0 where
  pub logged : page.tried.seen.book ≡ log
  pub domain : page.table.domain ≡ opening.domain
  pub unrefused : AreUnrefused (book_behind opening []) (story_in page.tried.seen.log)

-- a step leads from what one page shows to what another does
abbrev pub LeadsOn : Step → Page → Page → Type 0
LeadsOn step page next = Leads step page.table page.flows.items next.table next.flows.items

-- an older page leads to one, if there is an older one
abbrev pub LeadsTo : Option Older → Page → Type 0
LeadsTo None page = ⊤
LeadsTo (Some older) page = LeadsOn older.change.step (arc_value older.page) page

-- of two older pages the earlier leads to the later
abbrev pub LeadsToOlder : Option Older → Option Older → Type 0
LeadsToOlder oldest None = ⊤
LeadsToOlder oldest (Some older) = LeadsTo oldest (arc_value older.page)
