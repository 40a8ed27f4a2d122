-- How older pages lead to what a book holds with a command more.
use Rattle.std.proofs.Common.{◌≡◌, ℕ, List, Option, None, Some, ap, subst, sym, ◌∙◌, IfSome}
use Rattle.std.specs.Arc.{arc_value}
use Rattle.ds_checker.specs.Acceptance.{Table}
use Rattle.ds_broker.specs.Changes.{Applies, flows_changed, table_changed}
use Rattle.ds_broker.specs.declared.change.Step.{Step}
use Rattle.ds_desk.specs.Pages.{LeadsOn, LeadsTo, LeadsToOlder}
use Rattle.ds_desk.specs.declared.page.Page.{Page}
use Rattle.ds_desk.specs.declared.trail.Older.{Older}

-- a step is taken in the same table and flows
pub applies-same : (step : Step) (t own : Table) (flows ns : List ℕ) → t ≡ own → flows ≡ ns → Applies step own ns → Applies step t flows
applies-same step t own flows ns is same applies =
    subst (λ x. Applies step x flows) (sym is) (subst (Applies step own) (sym same) applies)

-- and leads to the same
-- where no earlier page is left, none leads anywhere
pub none-leads : (older oldest : Option Older) → oldest ≡ None → LeadsToOlder oldest older
none-leads None oldest none = tt
none-leads (Some older) oldest none = subst (λ o. LeadsTo o (arc_value older.page)) (sym none) tt

-- of two older pages the earlier leads to the later, and that to the page that is shown
pub older-leads : (o : Option Older) (older : Older) (page : Page) → o ≡ Some older → LeadsTo o page → LeadsOn older.change.step (arc_value older.page) page
older-leads o older page is leads = subst (λ x. LeadsTo x page) is leads

pub oldest-leads : (first o : Option Older) (oldest older : Older) → first ≡ Some oldest → o ≡ Some older → LeadsToOlder first o
    → LeadsOn oldest.change.step (arc_value oldest.page) (arc_value older.page)
oldest-leads first o oldest older first_is is leads =
    older-leads first oldest (arc_value older.page) first_is (subst (λ x. LeadsToOlder first x) is leads)

-- what holds of a value holds of one that is the same, if there is one
pub some-holds : {A B : Type 0} (f : A → B) (P : B → Type 0) (o : Option A) (value : B) → IfSome o (λ x. f x ≡ value) → P value → IfSome o (λ x. P (f x))
some-holds f P None value is holds = tt
some-holds f P (Some x) value is holds = subst P (sym is) holds
