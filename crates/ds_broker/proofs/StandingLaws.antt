-- What stands after some commands: one command more, and what bounds ids, moments and numbers.
use Rattle.std.proofs.Common.{◌≡◌, ◌≤◌, ◌+◌, ℕ, zero, suc, true, false, List, [], ◌∷◌, ◌++◌, Option, None, Some, sym, arith, true≢false, fold, length, max, slice_get, unwrap_or}
use Rattle.std.specs.List.{AllByRecursion}
use Rattle.std.proofs.lemmas.List.Sums.{fold-append}
use Rattle.ds_broker.specs.Histories.{Holding, Standing, after, begun, end_by, opening, standing_of, with_retired}
use Rattle.ds_broker.specs.declared.command.Command.{Command}
use Rattle.ds_broker.specs.declared.command.Command.TheVariants.{Reserve, Release, Retire}
use Rattle.ds_broker.proofs.HoldingLaws.{AllByRecursion-push, all-released, all-retired}

-- one command more
pub standing-push : (history : List Command) (command : Command) → standing_of (history ++ command ∷ []) ≡ after (standing_of history) command
unfolding standing_of
standing-push history command = fold-append after opening history (command ∷ [])

pub standing-append : (history commands : List Command) → standing_of (history ++ commands) ≡ fold after (standing_of history) commands
unfolding standing_of
standing-append history commands = fold-append after opening history commands

-- what each command keeps, all commands keep
pub fold-keeps : (P : Standing → Type 0) → ((s : Standing) (command : Command) → P s → P (after s command)) → (s : Standing) (commands : List Command) → P s → P (fold after s commands)
fold-keeps P keeps s [] own = own
fold-keeps P keeps s (command ∷ commands) own = fold-keeps P keeps (after s command) commands (keeps s command own)

-- no contract that is held begins behind the newest moment, or has an id that was not given yet; and no released one ends
-- behind the newest moment
abbrev pub IsBounded : ℕ → ℕ → Holding → Type 0
IsBounded granted newest h =
    (h.id ≤ granted) × (h.contract.lifetime.since ≤ newest) × (h.released ≡ true → unwrap_or h.contract.lifetime.until 0 ≤ newest)

abbrev AreBounded : ℕ → ℕ → List Holding → Type 0
AreBounded granted newest held = AllByRecursion (IsBounded granted newest) held

AreBounded-weaker : (granted newest more later : ℕ) (held : List Holding) → granted ≤ more → newest ≤ later → AreBounded granted newest held → AreBounded more later held
AreBounded-weaker granted newest more later [] fewer earlier all = tt
AreBounded-weaker granted newest more later (h ∷ held) fewer earlier all =
    ((omega (arith, all.0.0), omega (arith, all.0.1), λ done. omega (arith, all.0.2 done)), AreBounded-weaker granted newest more later held fewer earlier all.1)

end_by-most : (moment : ℕ) (until : Option ℕ) → end_by moment until ≤ moment
end_by-most moment None = omega arith
end_by-most moment (Some end) = omega arith

pub bounded-after : (s : Standing) (command : Command) → AreBounded s.granted s.newest s.held → AreBounded (after s command).granted (after s command).newest (after s command).held
bounded-after s (Reserve c) all =
    AllByRecursion-push (IsBounded (s.granted + 1) (max s.newest c.lifetime.since)) s.held (record { id = s.granted + 1; contract = begun s.newest c; released = false })
    (AreBounded-weaker s.granted s.newest (s.granted + 1) (max s.newest c.lifetime.since) s.held (omega arith) (omega arith) all)
    (omega arith, omega arith, λ done. absurd (true≢false (sym done)))
bounded-after s (Release id at) all =
    all-released (IsBounded s.granted (max s.newest at)) id (max s.newest at) s.held
    (λ h own. (own.0, own.1, λ _. end_by-most (max s.newest at) h.contract.lifetime.until))
    (AreBounded-weaker s.granted s.newest s.granted (max s.newest at) s.held (omega arith) (omega arith) all)
bounded-after s (Retire id moment) all =
    AreBounded-weaker s.granted s.newest s.granted (max s.newest moment) (with_retired id s.held) (omega arith) (omega arith)
    (all-retired (IsBounded s.granted s.newest) id s.held all)

pub standing-bounded : (history : List Command) → AllByRecursion (IsBounded (standing_of history).granted (standing_of history).newest) (standing_of history).held
unfolding standing_of
standing-bounded history = fold-keeps (λ s. AreBounded s.granted s.newest s.held) bounded-after opening history tt

-- of one at a place
pub bounded-at : (granted newest : ℕ) (held : List Holding) (place : ℕ) (h : Holding) → AllByRecursion (IsBounded granted newest) held → slice_get held place ≡ Some h
    → IsBounded granted newest h
bounded-at granted newest [] place h all at = cc
bounded-at granted newest (g ∷ held) zero h all at = let same : g ≡ h = cc in rw (← same) all.0
bounded-at granted newest (g ∷ held) (suc place) h all at = bounded-at granted newest held place h all.1 at

-- no more is granted than there are commands
granted-after : (s : Standing) (command : Command) → (after s command).granted ≤ s.granted + 1
granted-after s (Reserve c) = omega arith
granted-after s (Release id at) = omega arith
granted-after s (Retire id moment) = omega arith

granted-fold : (s : Standing) (commands : List Command) → (fold after s commands).granted ≤ s.granted + length commands
granted-fold s [] = omega arith
granted-fold s (command ∷ commands) = omega (arith, granted-fold (after s command) commands, granted-after s command)

pub granted-most : (history : List Command) → (standing_of history).granted ≤ length history
unfolding standing_of
granted-most history = omega (arith, granted-fold opening history)
