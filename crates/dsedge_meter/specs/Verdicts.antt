-- What `envelope` answers to lines of sized moments.
use Rattle.std.specs.Prelude.{ℕ, ◌+◌, ◌^◌, nat_lt, min, Bool, true, false, List, [], ◌∷◌, ◌++◌, length, codes, decimal, Option, None, Some}
use Rattle.std.specs.Prelude.{if◌then◌else◌}
use Rattle.std.specs.Option.{option_or}
use Rattle.serde_json.specs.Data.{Data, member, no_members, object, string, unsigned}
use Rattle.serde_json.specs.Data as json
use Rattle.json_lines.specs.JsonLines.{line_of, words_line}
use Rattle.dsedge_lines.specs.Answers.{Answer}
use Rattle.dsedge_lines.specs.declared.command.Ending.{Ending}
use Rattle.dsedge_lines.specs.declared.command.Ending.TheVariants.{Whole, Refused, BadLine}
use Rattle.envelope_core.specs.Curve.{Curve}
use Rattle.envelope_core.specs.LeakyBucket.{Bucket, overflow_from, overflows, poured}
use Rattle.dsedge_meter.specs.Arrivals.{sized_from}

-- the envelope of a rate and a burst, which holds at most 10^19 bytes
abbrev pub envelope_for : ℕ → ℕ → Curve
envelope_for rate burst = record { rate = rate; burst = min burst (10 ^ 19) }

-- whether the envelope is kept, or else the line of the first sized moment that is over it
abbrev pub verdict_text_of : Option ℕ → List ℕ
verdict_text_of None = codes "kept\n"
verdict_text_of (Some line) = codes "over " ++ decimal line ++ codes "\n"

-- an envelope that is not kept is an answer that says no
abbrev pub verdict_ending_of : Option ℕ → Ending
verdict_ending_of None = Whole
verdict_ending_of (Some line) = Refused

-- the same as an object of JSON
abbrev pub verdict_data : Option ℕ → Data
verdict_data None = object (member (codes "answer") (string (codes "kept")) no_members)
verdict_data (Some line) = object
    (member (codes "answer") (string (codes "over"))
    (member (codes "line") (json.number (unsigned line)) no_members))

-- the line that the object is made of
abbrev pub verdict_line_in : Data → List ℕ
verdict_line_in content = words_line (codes "answer" ∷ codes "line" ∷ []) content

-- how a verdict is written: as a line, or as an object
abbrev pub verdict_said : Bool → Option ℕ → List ℕ
verdict_said false over = verdict_text_of over
verdict_said true over = line_of (verdict_data over)

abbrev pub verdict_of : Bool → Option ℕ → Answer
verdict_of in_json over = record { text = verdict_said in_json over; ending = verdict_ending_of over }

-- a test that is under way: the leaky bucket of the envelope, the line of the first sized moment that was over it, and
-- whether an object is answered
pub record Testing : Type 0 where
  pub bucket : Bucket
  pub over : Option ℕ
  pub in_json : Bool

-- a test before any line
abbrev pub untested : Curve → Bool → Testing
untested envelope in_json =
    record { bucket = record { curve = envelope; level = 0; since = 0 }; over = None; in_json = in_json }

-- a test with one more sized moment, on the line of a number
abbrev pub tested : Testing → ℕ → ℕ × ℕ → Testing
tested t number item =
    record {
      bucket = poured t.bucket item;
      over = option_or t.over (if overflows t.bucket item then Some number else None);
      in_json = t.in_json;
    }

-- the first line that is over, if one is: one that was, or else of these sized moments, the first on the line of a number
abbrev pub first_over : Bucket → Option ℕ → ℕ → List (ℕ × ℕ) → Option ℕ
first_over b None number items = overflow_from b.curve.rate b.curve.burst b.level b.since number items
first_over b (Some line) number items = Some line

-- The answer to so many lines from a number on, which say these sized moments before any says none: nothing is printed
-- before the end, and at the end the verdict over all that was read, by the leaky bucket of the envelope.
unfoldable pub verdict_to : Testing → ℕ → ℕ → List (ℕ × ℕ) → Answer
verdict_to t number lines items =
    if nat_lt (length items) lines then record { text = []; ending = BadLine (number + length items) }
    else verdict_of t.in_json (first_over t.bucket t.over number items)

-- the answer to lines from a number on, behind sized moments of which the last was at the bucket's moment
abbrev pub verdict_behind : Testing → ℕ → List (List ℕ) → Answer
verdict_behind t number lines = verdict_to t number (length lines) (sized_from t.bucket.since lines)

-- the answer to all lines, which are counted from 1
abbrev pub verdict_on : Curve → Bool → List (List ℕ) → Answer
verdict_on envelope in_json lines = verdict_behind (untested envelope in_json) 1 lines
