-- What a page stands for, as the log of its desk grows.
use Rattle.std.proofs.Common.{◌≡◌, ℕ, suc, ◌-◌, ◌<◌, ◌≤◌, List, [], ◌∷◌, ◌++◌, length, take, slice_get, None, Some, refl, ap, subst, sym, ◌∙◌, arith}
use mathlib.Core.List.{IsPrefix}
use Rattle.ds_checker.specs.Acceptance.{Table}
use Rattle.ds_broker.specs.Books.{Book, table_of, with_command}
use Rattle.ds_broker.specs.Refusals.{refusal_in}
use Rattle.ds_broker.specs.Requests.{AreUnrefused}
use Rattle.ds_broker.specs.declared.command.Command.{Command}
use Rattle.ds_desk.specs.declared.log.Act.{Act}
use Rattle.ds_desk.specs.declared.log.Act.TheVariants.{Tried, Kept}
use Rattle.ds_desk.specs.declared.log.End.{End}
use Rattle.ds_desk.specs.declared.page.Page.{Page}
use Rattle.ds_desk.specs.Acts.{course_of, history_in, story_in}
use Rattle.ds_desk.specs.Histories.{book_behind, table_behind}
use Rattle.ds_desk.specs.Pages.{IsOfDesk}
use Rattle.ds_desk.specs.Rules.{IsKeptAt}
use Rattle.logbook.specs.Pages as pages
use Rattle.ds_broker.proofs.KeptLaws.{AreUnrefused-push}
use Rattle.ds_desk.proofs.Courses.{history_kept, history_tried, story_tried}
use Rattle.ds_desk.proofs.Fronts.{get_within, take_next}

-- before the first act
pub story_opening : (acts : List Act) → acts ≡ [] → story_in acts ≡ []
story_opening acts none = rw none (unfold course_of in refl)

-- the first act keeps nothing
pub history_opening : (acts more : List Act) → acts ≡ [] → more ≡ acts ++ Kept ∷ [] → history_in more ≡ []
history_opening acts more none is = ap history_in is ∙ history_kept acts ∙ story_opening acts none

-- a command that was tried behind a history is the last of the story
pub story_announced : (acts more : List Act) (command : Command) (history : List Command) → history_in acts ≡ history → more ≡ acts ++ Tried command ∷ []
    → story_in more ≡ history ++ command ∷ []
story_announced acts more command history here is = ap story_in is ∙ story_tried acts command ∙ ap (λ h. h ++ command ∷ []) here

-- and leaves the history as it was
pub history_announced : (acts more : List Act) (command : Command) (history : List Command) → history_in acts ≡ history → more ≡ acts ++ Tried command ∷ []
    → history_in more ≡ history
history_announced acts more command history here is = ap history_in is ∙ history_tried acts command ∙ here

-- the table of a book is the one behind its history
pub table_told : (t : Table) (b : Book) (history : List Command) → t ≡ table_of b → history ≡ b.history → t ≡ table_behind t.domain history
table_told t b history is same =
    let domain : t.domain ≡ b.domain = ap (λ x. x.domain) is in
    is ∙ ap (λ d. table_behind d b.history) (sym domain) ∙ ap (table_behind t.domain) (sym same)

-- a page that the next act kept stands for the history up to that act
pub front_kept : (tried log : List Act) (acts : ℕ) → IsPrefix tried log → IsKeptAt acts log → 0 < acts → acts - 1 ≡ length tried
    → (acts ≤ length log) × (history_in (take acts log) ≡ story_in tried)
front_kept tried log acts begins kept some last =
    let at : slice_get log (length tried) ≡ Some Kept = ap (slice_get log) (sym last) ∙ kept some in
    let many : acts ≡ suc (length tried) = omega arith in
    let within : suc (length tried) ≤ length log = get_within log (length tried) Kept at in (
      omega arith,
      ap (λ n. history_in (take n log)) many ∙ ap history_in (take_next tried log Kept begins at) ∙ history_kept tried,
    )

-- the page of a command that was tried, and against which nothing stands, is of the desk of its book
pub of_desk : (page : Page) (end : End) (b opening : Book) (log : pages.Book) (command : Command) → page.tried ≡ end → end.seen.book ≡ log
    → page.table ≡ table_of (with_command b command) → b ≡ book_behind opening b.history → story_in end.seen.log ≡ b.history ++ command ∷ []
    → AreUnrefused (record b { history = [] }) b.history → refusal_in b command ≡ None → IsOfDesk log opening page
of_desk page end b opening log command tried logged table named story unrefused none =
    let more : AreUnrefused (record b { history = [] }) (b.history ++ command ∷ []) = AreUnrefused-push (record b { history = [] }) b.history command unrefused none in
    let told : AreUnrefused (record b { history = [] }) (story_in page.tried.seen.log) =
    subst (AreUnrefused (record b { history = [] })) (sym (ap (λ e. story_in e.seen.log) tried ∙ story)) more in
    let same : record b { history = [] } ≡ book_behind opening [] = ap (λ (x : Book). record x { history = [] }) named in record {
      logged = ap (λ e. e.seen.book) tried ∙ logged;
      domain = ap (λ t. t.domain) table ∙ ap (λ x. x.domain) named;
      unrefused = subst (λ (x : Book). AreUnrefused x (story_in page.tried.seen.log)) same told;
    }

-- the first page is of the desk that it opens
pub of_opening : (page : Page) (opening : Book) (log : pages.Book) → page.tried.seen.log ≡ [] → page.tried.seen.book ≡ log
    → page.table.domain ≡ opening.domain → IsOfDesk log opening page
unfolding AreUnrefused
of_opening page opening log none logged domain = record {
  logged = logged;
  domain = domain;
  unrefused = subst (AreUnrefused (book_behind opening [])) (sym (story_opening page.tried.seen.log none)) tt;
}
