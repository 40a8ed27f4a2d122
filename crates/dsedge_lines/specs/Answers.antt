-- The answer of a command to its input.
use Rattle.std.specs.Prelude.{◌≡◌, ℕ, List, ◌++◌, Option, Result, MatchOption, MatchResult}
use Rattle.dsedge_lines.specs.declared.command.Ending.{Ending}

-- a text, and how it ends
pub record Answer : Type 0 where
  pub text : List ℕ
  pub ending : Ending

-- an answer behind a text
abbrev pub behind : List ℕ → Answer → Answer
behind front answer = record { text = front ++ answer.text; ending = answer.ending }

-- an answer begins with a text
pub record BeginsWith (answer : Answer) (front : List ℕ) : Type 0 where
  pub more : List ℕ
  pub whole : answer.text ≡ front ++ more

-- the whole answer goes on as `on` behind a text, or it is that text and ends
abbrev pub GoesOn : Answer → Answer → List ℕ → Option Ending → Type 0
GoesOn whole on text ended =
    MatchOption ended (on ≡ whole) (λ ending. record { text = text; ending = ending } ≡ whole)

-- what a call did that answers a front of the input behind a text, which is now `text`: the whole answer goes on as
-- `on`, or ends here, or begins with the text where the call failed
abbrev pub Answers : {E : Type 0} → Answer → Answer → List ℕ → Result (Option Ending) E → Type 0
Answers whole on text result = MatchResult result (GoesOn whole on text) (λ _. BeginsWith whole text)

-- what a call did that may answer a front of the input, of which it then gives the rest: the whole answer goes on as
-- `on` says of that rest, or ends here; it is still `same` where nothing was answered; it begins with the text where
-- the call failed
abbrev pub AnswersFront : {R E : Type 0} → Result (Option (Option Ending × R)) E → Answer → Answer → (R → Answer)
    → List ℕ → Type 0
AnswersFront result whole same on text =
    MatchResult result (λ front. MatchOption front (same ≡ whole) (λ parts. GoesOn whole (on parts.1) text parts.0))
    (λ _. BeginsWith whole text)

-- what a call did that answers all that is left
abbrev pub AnswersAll : {E : Type 0} → Answer → List ℕ → Result Ending E → Type 0
AnswersAll whole text result =
    MatchResult result (λ ending. record { text = text; ending = ending } ≡ whole) (λ _. BeginsWith whole text)
