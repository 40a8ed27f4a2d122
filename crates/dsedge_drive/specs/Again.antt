-- What was answered to lines and given out, and that an open finds it again.
use Rattle.std.specs.Prelude.{◌≡◌, ◌≤◌, ℕ, Bool, List, [], ◌∷◌, ◌++◌, fold, length, take, option_and_then, option_map, MatchOption, MatchResult, Option, Some, Result, Ok, ⊤}
use mathlib.Core.List.{IsPrefix}
use Rattle.line_text.specs.Lines.{lines_of}
use Rattle.ds_broker.specs.declared.command.Command.{Command}
use Rattle.ds_ledger_base.specs.Replays.{replay}
use Rattle.dsedge_lines.specs.Courses.{IsHandedOver}
use Rattle.dsedge_lines.specs.Fronts.{IsFirstLine}
use Rattle.dsedge_lines.specs.declared.command.Ending.{Ending}
use Rattle.dsedge_drive.specs.Driven.{Reply, replied}
use Rattle.dsedge_drive.specs.Kept.{Selling, emptied}

-- what is answered with one line more
abbrev pub with_line : Bool → Option Reply → List ℕ → Option Reply
with_line in_json so_far line =
    option_and_then
    (λ r. option_map (λ (more : Reply). record more { text = r.text ++ more.text })
    (replied in_json r.offered r.book line)) so_far

-- what lines are answered with, behind a text, and the contracts that are offered and the book from then on
abbrev pub answered : Bool → Reply → List (List ℕ) → Option Reply
answered in_json from lines = fold (with_line in_json) (Some from) lines

-- a text is what the first of these lines are answered with, however many, and so are the offers and the book then
pub record IsAnswerTo (in_json : Bool) (from : Reply) (lines : List (List ℕ)) (given : List ℕ) (last : Reply)
    : Type 0 where
  pub count : ℕ
  pub within : count ≤ length lines
  pub answers : answered in_json from (take count lines) ≡ Some last
  pub text : last.text ≡ given

-- What was given out is what the first of these lines are answered with, and the ledger keeps all that they had
-- accepted.
pub record HasGiven (in_json : Bool) (from : Reply) (lines : List (List ℕ)) (given : List ℕ) (s : Selling)
    : Type 0 where
  pub last : Reply
  pub first : IsAnswerTo in_json from lines given last
  pub kept : length last.book.history ≤ s.kept
  pub begins : IsPrefix last.book.history s.book.history
  pub same : emptied s.book ≡ emptied from.book

-- and what is held back is what the others are answered with
pub record HasAnswered (in_json : Bool) (from : Reply) (lines : List (List ℕ)) (given : List ℕ) (s : Selling)
    : Type 0 where
  pub gave : HasGiven in_json from lines given s
  pub form : s.in_json ≡ in_json
  pub whole : answered in_json from lines
      ≡ Some (record { text = given ++ s.unsaid; offered = s.offered; book = s.book })

-- What an open finds has every command that lines had accepted whose answers were given out; and the domain makes of it
-- the book that it was then, refusing none.
pub record IsAnsweredAgain (in_json : Bool) (from : Reply) (lines : List (List ℕ)) (given : List ℕ)
    (found : List Command) : Type 0 where
  pub last : Reply
  pub first : IsAnswerTo in_json from lines given last
  pub begins : IsPrefix last.book.history found
  pub fold : replay (emptied from.book) found ≡ Ok (record from.book { history = found })

-- whatever a broker was asked, an open that finds this finds all again that it gave out
abbrev pub AreAnswersFound : Selling → List Command → Type 0
AreAnswersFound s found = (in_json : Bool) (from : Reply) (lines : List (List ℕ)) (given : List ℕ)
    → HasGiven in_json from lines given s → IsAnsweredAgain in_json from lines given found

-- whatever lines a broker is behind, it is then behind these too
abbrev pub Follows : List (List ℕ) → Selling → List ℕ → Selling → List ℕ → Type 0
Follows more old out new written = (in_json : Bool) (from : Reply) (lines : List (List ℕ)) (front : List ℕ)
    → HasAnswered in_json from lines (front ++ out) old
    → HasAnswered in_json from (lines ++ more) (front ++ written) new

-- whatever lines a broker is behind, what was given out then is what they are answered with, and kept
abbrev pub StaysGiven : Selling → List ℕ → Selling → List ℕ → Type 0
StaysGiven old out new written = (in_json : Bool) (from : Reply) (lines : List (List ℕ)) (front : List ℕ)
    → HasAnswered in_json from lines (front ++ out) old → HasGiven in_json from lines (front ++ written) new

-- what a call did that answers a line, unless that ends the answer, or that fails
abbrev pub FollowsLine : {E : Type 0} → Result (Option Ending) E → List ℕ → Selling → List ℕ → Selling → List ℕ → Type 0
FollowsLine result line old out new written =
    MatchResult result
    (λ ended. MatchOption ended (Follows (line ∷ []) old out new written) (λ _. Follows [] old out new written))
    (λ _. StaysGiven old out new written)

-- the same of a call that may answer the line at the front of a text, and gives the rest
abbrev pub FollowsFront : {R E : Type 0} → Result (Option (Option Ending × R)) E → List ℕ → (R → List ℕ)
    → Selling → List ℕ → Selling → List ℕ → Type 0
FollowsFront result text rest old out new written =
    MatchResult result
    (λ front. MatchOption front (Follows [] old out new written) (λ parts. MatchOption parts.0
    ((line : List ℕ) × IsFirstLine text line (rest parts.1) × Follows (line ∷ []) old out new written)
    (λ _. Follows [] old out new written)))
    (λ _. StaysGiven old out new written)

-- the same of a call that answers the first line of a text, if it has one, and gives the rest
abbrev pub FollowsFirst : {R E : Type 0} → Result (Option (Option Ending × R)) E → List ℕ → (R → List ℕ)
    → Selling → List ℕ → Selling → List ℕ → Type 0
FollowsFirst result text rest old out new written =
    MatchResult result
    (λ first. MatchOption first (Follows [] old out new written) (λ parts. MatchOption parts.0
    ((line : List ℕ) × (lines_of text ≡ line ∷ lines_of (rest parts.1)) × Follows (line ∷ []) old out new written)
    (λ _. Follows [] old out new written)))
    (λ _. StaysGiven old out new written)

-- the same of a call that answers the end of the lines
abbrev pub FollowsAll : {E : Type 0} → Result Ending E → Selling → List ℕ → Selling → List ℕ → Type 0
FollowsAll result old out new written =
    MatchResult result (λ _. Follows [] old out new written) (λ _. StaysGiven old out new written)

-- what is answered with, from a broker on that gave nothing out
abbrev pub beginning : Selling → Reply
beginning start = record { text = []; offered = start.offered; book = start.book }

-- Where a broker stands in the lines of its whole input, from one that it once was: what was given out is what the
-- first of them are answered with, and kept; and where it has not stopped, it is behind all but those that are left.
abbrev pub StandsIn : Selling → List (List ℕ) → Option (List (List ℕ)) → List ℕ → Selling → Type 0
StandsIn start whole left given s = HasGiven start.in_json (beginning start) whole given s
    × MatchOption left ⊤ (λ left. (lines : List (List ℕ)) × (whole ≡ lines ++ left)
    × HasAnswered start.in_json (beginning start) lines given s)

-- a broker before its first line: nothing is held back, and all is kept
pub record IsUnasked (s : Selling) : Type 0 where
  pub said : s.unsaid ≡ []
  pub kept : s.kept ≡ length s.book.history

-- What was written is what the first lines of an input were answered with, from a broker on, or a front of that. What
-- an open finds has every command that these lines had accepted; and the domain makes of it the book that it was then.
abbrev pub IsWrittenAgain : Selling → List (List ℕ) → List Command → List ℕ → List ℕ → Type 0
IsWrittenAgain start lines found before after =
    IsHandedOver (λ given. IsAnsweredAgain start.in_json (beginning start) lines given found) before after
