-- What was given out, line by line, and what an open finds of it.
use Rattle.std.proofs.Common.{◌≡◌, ◌<◌, ◌≤◌, ℕ, Bool, List, [], ◌∷◌, ◌++◌, Option, None, Some, MatchOption, Result, Ok, Err, is_some, option_map, true, false, length, refl, sym, ap, subst, ◌∙◌, arith, append-nil, append_assoc}
use Rattle.std.proofs.Math.Seq.{take-length}
use Rattle.std.proofs.lemmas.List.{length-append, length-take-le, take-append-le}
use Rattle.std.proofs.lemmas.List.Sums.{fold-append}
use mathlib.Core.List.{IsPrefix}
use Rattle.line_text.specs.Lines.{has_byte, lines_of}
use Rattle.line_text.proofs.LineLemmas.{lines_of-cut, lines_of-nil, lines_of-uncut}
use Rattle.ds_broker.specs.Books.{Book}
use Rattle.ds_broker.specs.declared.command.Command.{Command}
use Rattle.ds_ledger_base.specs.Replays.{replay}
use Rattle.ds_desk.proofs.Fronts.{prefix_self, prefix_trans, prefixes_begin, take_begins}
use Rattle.dsedge_lines.specs.Courses.{IsHandedOver, StaysOn, left_behind, left_by, left_front}
use Rattle.dsedge_lines.specs.Fronts.{IsFirstLine}
use Rattle.dsedge_lines.specs.declared.command.Ending.{Ending}
use Rattle.dsedge_lines.proofs.FrontLemmas.{first_of_lines}
use Rattle.dsedge_drive.specs.Again.{AreAnswersFound, Follows, FollowsAll, FollowsFront, FollowsLine, HasAnswered, HasGiven, IsUnasked, IsWrittenAgain, StandsIn, StaysGiven, answered, beginning, with_line}
use Rattle.dsedge_drive.specs.Driven.{Reply, replied}
use Rattle.dsedge_drive.specs.Kept.{IsFoundAgain, Selling, emptied, with_reply}
use Rattle.dsedge_drive.specs.Opened.{HasGrown, IsFurtherKept, IsGrown}
use Rattle.dsedge_drive.proofs.KeepLaws.{replay-whole}

-- what is offered and the book of a broker, behind a text
abbrev at : List ℕ → Selling → Reply
at text s = record { text = text; offered = s.offered; book = s.book }

-- one line more
answered-more : (in_json : Bool) (from : Reply) (lines : List (List ℕ)) (line : List ℕ) → answered in_json from (lines ++ line ∷ []) ≡ with_line in_json (answered in_json from lines) line
answered-more in_json from lines line = fold-append (with_line in_json) (Some from) lines (line ∷ [])

answered-none : (in_json : Bool) (from : Reply) (lines : List (List ℕ)) → answered in_json from (lines ++ []) ≡ answered in_json from lines
answered-none in_json from lines = ap (answered in_json from) (append-nil lines)

-- what a line is answered with goes behind what is held back
reply-behind : (given : List ℕ) (s : Selling) (r : Option Reply) → is_some r ≡ true
    → option_map (λ (more : Reply). record more { text = (given ++ s.unsaid) ++ more.text }) r ≡ Some (at (given ++ (with_reply s r).unsaid) (with_reply s r))
reply-behind given s (Some r) h = ap (λ t. Some (record { text = t; offered = r.offered; book = r.book })) (append_assoc given s.unsaid r.text)
reply-behind given s None h = absurd cc

-- and what asks for nothing leaves all as it was
reply-none : (s : Selling) (r : Option Reply) → is_some r ≡ false → with_reply s r ≡ s
reply-none s (Some r) h = absurd cc
reply-none s None h = refl

-- a line that is answered
known-whole : (in_json : Bool) (from : Reply) (lines : List (List ℕ)) (given line : List ℕ) (s mid : Selling) → s.in_json ≡ in_json → answered in_json from lines ≡ Some (at (given ++ s.unsaid) s)
    → is_some (replied s.in_json s.offered s.book line) ≡ true → mid ≡ with_reply s (replied s.in_json s.offered s.book line)
    → answered in_json from (lines ++ line ∷ []) ≡ Some (at (given ++ mid.unsaid) mid)
known-whole in_json from lines given line s mid form whole known is =
    let reply : Option Reply = replied s.in_json s.offered s.book line in
    let more : with_line in_json (Some (at (given ++ s.unsaid) s)) line ≡ option_map (λ (m : Reply). record m { text = (given ++ s.unsaid) ++ m.text }) reply =
    ap (λ j. with_line j (Some (at (given ++ s.unsaid) s)) line) (sym form) in
    answered-more in_json from lines line ∙ ap (λ r. with_line in_json r line) whole ∙ more ∙ reply-behind given s reply known
    ∙ ap (λ (m : Selling). Some (at (given ++ m.unsaid) m)) (sym is)

-- a history that grew begins with what it was
grown-begins : (old new : Book) → HasGrown old new → IsPrefix old.history new.history
grown-begins old new grown = (grown.0, sym (ap (λ (b : Book). b.history) (replay-whole new old grown.0 grown.1)))

-- in the same domain, with the same limits
grown-emptied : (old new : Book) → HasGrown old new → emptied new ≡ emptied old
grown-emptied old new grown = ap emptied (replay-whole new old grown.0 grown.1)

-- what was given out stays, as a book grows and more is kept
given-on : (in_json : Bool) (from : Reply) (lines : List (List ℕ)) (given : List ℕ) (s new : Selling) → s.kept ≤ new.kept → HasGrown s.book new.book → HasGiven in_json from lines given s → HasGiven in_json from lines given new
given-on in_json from lines given s new more grown it = record {
  last = it.last;
  first = it.first;
  kept = omega (arith, it.kept, more);
  begins = prefix_trans it.last.book.history s.book.history new.book.history it.begins (grown-begins s.book new.book grown);
  same = grown-emptied s.book new.book grown ∙ it.same;
}

-- and as lines come
pub given_more : (in_json : Bool) (from : Reply) (lines more : List (List ℕ)) (given : List ℕ) (s : Selling) → HasGiven in_json from lines given s → HasGiven in_json from (lines ++ more) given s
given_more in_json from lines more given s it = record {
  last = it.last;
  first = record {
    count = it.first.count;
    within = let size = length-append lines more in omega (arith, it.first.within, size);
    answers = ap (answered in_json from) (take-append-le it.first.count lines more it.first.within) ∙ it.first.answers;
    text = it.first.text;
  };
  kept = it.kept;
  begins = it.begins;
  same = it.same;
}

-- all that was answered is given out
given-all : (in_json : Bool) (from : Reply) (lines : List (List ℕ)) (front out written : List ℕ) (mid new : Selling) → mid.in_json ≡ in_json
    → answered in_json from lines ≡ Some (at ((front ++ out) ++ mid.unsaid) mid)
    → emptied mid.book ≡ emptied from.book → written ≡ out ++ mid.unsaid → new ≡ record mid { unsaid = []; kept = length mid.book.history }
    → HasAnswered in_json from lines (front ++ written) new
given-all in_json from lines front out written mid new form whole same text given =
    let all : (front ++ out) ++ mid.unsaid ≡ front ++ written = append_assoc front out mid.unsaid ∙ ap (λ t. front ++ t) (sym text) in
    subst (HasAnswered in_json from lines (front ++ written)) (sym given) (record {
      gave = record {
        last = at (front ++ written) mid;
        first = record {
          count = length lines;
          within = omega arith;
          answers = ap (answered in_json from) (take-length lines) ∙ whole ∙ ap (λ t. Some (at t mid)) all;
          text = refl;
        };
        kept = omega arith;
        begins = prefix_self mid.book.history;
        same = same;
      };
      form = form;
      whole = whole ∙ ap (λ t. Some (at t mid)) (all ∙ sym (append-nil (front ++ written)));
    })

-- the form of answers stays
reply-form : (s : Selling) (r : Option Reply) → (with_reply s r).in_json ≡ s.in_json
reply-form s (Some r) = refl
reply-form s None = refl

-- before any line, where nothing is held back and all is kept
pub nothing_given : (s : Selling) (out : List ℕ) → s.unsaid ≡ [] → s.kept ≡ length s.book.history
    → HasAnswered s.in_json (record { text = out; offered = s.offered; book = s.book }) [] out s
nothing_given s out said kept = record {
  gave = record {
    last = at out s;
    first = record { count = 0; within = omega arith; answers = refl; text = refl };
    kept = omega (arith, kept);
    begins = prefix_self s.book.history;
    same = refl;
  };
  form = refl;
  whole = ap (λ t. Some (at t s)) (sym (ap (λ u. out ++ u) said ∙ append-nil out));
}

-- a line that is given out, with what was held back
pub follows_given : (known : Bool) (s mid new : Selling) (line out written : List ℕ) → known ≡ is_some (replied s.in_json s.offered s.book line) → known ≡ true
    → mid ≡ with_reply s (replied s.in_json s.offered s.book line)
    → IsGrown s mid → written ≡ out ++ mid.unsaid → new ≡ record mid { unsaid = []; kept = length mid.book.history } → Follows (line ∷ []) s out new written
follows_given known s mid new line out written told is_so is grown text given in_json from lines front it =
    given-all in_json from (lines ++ line ∷ []) front out written mid new
    (ap (λ (m : Selling). m.in_json) is ∙ reply-form s (replied s.in_json s.offered s.book line) ∙ it.form)
    (known-whole in_json from lines (front ++ out) line s mid it.form it.whole (sym told ∙ is_so) is)
    (grown-emptied s.book mid.book grown.0 ∙ it.gave.same) text given

-- the end, behind what was held back
pub follows_end : (s new : Selling) (out written : List ℕ) → written ≡ out ++ s.unsaid → new ≡ record s { unsaid = []; kept = length s.book.history } → Follows [] s out new written
follows_end s new out written text given in_json from lines front it =
    given-all in_json from (lines ++ []) front out written s new it.form (answered-none in_json from lines ∙ it.whole) it.gave.same text given

-- a line that asks for nothing, behind what was held back
pub follows_bad_line : (known : Bool) (s mid new : Selling) (line out written : List ℕ) → known ≡ is_some (replied s.in_json s.offered s.book line) → known ≡ false
    → mid ≡ with_reply s (replied s.in_json s.offered s.book line)
    → written ≡ out ++ mid.unsaid → new ≡ record mid { unsaid = []; kept = length mid.book.history } → Follows [] s out new written
follows_bad_line known s mid new line out written told is_not is text given =
    let same : mid ≡ s = is ∙ reply-none s (replied s.in_json s.offered s.book line) (sym told ∙ is_not) in
    follows_end s new out written (text ∙ ap (λ (m : Selling). out ++ m.unsaid) same)
    (given ∙ ap (λ (m : Selling). record m { unsaid = []; kept = length m.book.history }) same)

-- a line that is held back
pub follows_held : (known : Bool) (s mid : Selling) (line out written : List ℕ) → known ≡ is_some (replied s.in_json s.offered s.book line) → known ≡ true
    → mid ≡ with_reply s (replied s.in_json s.offered s.book line)
    → IsGrown s mid → written ≡ out → Follows (line ∷ []) s out mid written
follows_held known s mid line out written told is_so is grown same in_json from lines front it =
    subst (λ w. HasAnswered in_json from (lines ++ line ∷ []) (front ++ w) mid) (sym same) (record {
      gave = given_more in_json from lines (line ∷ []) (front ++ out) mid (given-on in_json from lines (front ++ out) s mid (omega (arith, grown.1)) grown.0 it.gave);
      form = ap (λ (m : Selling). m.in_json) is ∙ reply-form s (replied s.in_json s.offered s.book line) ∙ it.form;
      whole = known-whole in_json from lines (front ++ out) line s mid it.form it.whole (sym told ∙ is_so) is;
    })

-- no line at all
pub follows_same : (s mid : Selling) (out written : List ℕ) → mid ≡ s → written ≡ out → Follows [] s out mid written
follows_same s mid out written is same in_json from lines front it =
    subst (λ w. HasAnswered in_json from (lines ++ []) (front ++ w) mid) (sym same) (subst (HasAnswered in_json from (lines ++ []) (front ++ out)) (sym is) (record {
      gave = given_more in_json from lines [] (front ++ out) s it.gave;
      form = it.form;
      whole = answered-none in_json from lines ∙ it.whole;
    }))

-- or one that asks for nothing, and is left
pub follows_unknown : (s mid : Selling) (line out written : List ℕ) → is_some (replied s.in_json s.offered s.book line) ≡ false
    → mid ≡ with_reply s (replied s.in_json s.offered s.book line)
    → written ≡ out → Follows [] s out mid written
follows_unknown s mid line out written unknown is same =
    follows_same s mid out written (is ∙ reply-none s (replied s.in_json s.offered s.book line) unknown) same

-- where a call fails
pub stays_unsaid : (s mid : Selling) (out written : List ℕ) → IsGrown s mid → written ≡ out → StaysGiven s out mid written
stays_unsaid s mid out written grown same in_json from lines front it =
    subst (λ w. HasGiven in_json from lines (front ++ w) mid) (sym same) (given-on in_json from lines (front ++ out) s mid (omega (arith, grown.1)) grown.0 it.gave)

pub stays_ungiven : (s mid new : Selling) (out written : List ℕ) → IsGrown s mid → IsFurtherKept mid new → written ≡ out → StaysGiven s out new written
stays_ungiven s mid new out written grown further same in_json from lines front it =
    let book : mid.book ≡ new.book = sym (ap (λ (x : Selling). x.book) further.0) in
    subst (λ w. HasGiven in_json from lines (front ++ w) new) (sym same)
    (given-on in_json from lines (front ++ out) s new (omega (arith, grown.1, further.1)) (subst (HasGrown s.book) book grown.0) it.gave)

-- behind a call that answers no line
pub follows_on : (more : List (List ℕ)) (s mid new : Selling) (out between written : List ℕ) → Follows [] s out mid between → Follows more mid between new written
    → Follows more s out new written
follows_on more s mid new out between written none next in_json from lines front it =
    next in_json from lines front (subst (λ ls. HasAnswered in_json from ls (front ++ between) mid) (append-nil lines) (none in_json from lines front it))

pub stays_on : (s mid new : Selling) (out between written : List ℕ) → Follows [] s out mid between → StaysGiven mid between new written → StaysGiven s out new written
stays_on s mid new out between written none stays in_json from lines front it =
    stays in_json from lines front (subst (λ ls. HasAnswered in_json from ls (front ++ between) mid) (append-nil lines) (none in_json from lines front it))

-- what an open finds has all that was given out
pub given_again : (s : Selling) (found : List Command) → IsFoundAgain s found → AreAnswersFound s found
given_again s found it in_json from lines given gave =
    let history = s.book.history in
    let part = it.beginning in
    let begins : IsPrefix found history = subst (λ f. IsPrefix f history) (sym part.found_is) (take_begins history part.count) in
    let long : length found ≡ part.count = ap length part.found_is ∙ length-take-le part.count history part.within in
    record {
      last = gave.last;
      first = gave.first;
      begins = prefixes_begin found gave.last.book.history history begins gave.begins (omega (arith, gave.kept, part.enough, long));
      fold = subst (λ (b : Book). replay b found ≡ Ok (record b { history = found })) gave.same it.fold;
    }

-- a text without LF is its own first line
pub lines_of_one : (text : List ℕ) → 0 < length text → has_byte 10 text ≡ false → lines_of text ≡ text ∷ lines_of []
lines_of_one [] some unended = absurd (omega (arith, some))
lines_of_one (byte ∷ text) some unended = lines_of-uncut byte text unended ∙ ap (λ ls. (byte ∷ text) ∷ ls) (sym lines_of-nil)

-- a line at the front of a text is its first
pub first_of_front : (ended : Option Ending) (text rest : List ℕ) (s new : Selling) (out written : List ℕ)
    → MatchOption ended ((line : List ℕ) × IsFirstLine text line rest × Follows (line ∷ []) s out new written) (λ _. Follows [] s out new written)
    → MatchOption ended ((line : List ℕ) × (lines_of text ≡ line ∷ lines_of rest) × Follows (line ∷ []) s out new written) (λ _. Follows [] s out new written)
first_of_front None text rest s new out written (line, first, follows) = (line, ap lines_of first.whole ∙ lines_of-cut line rest first.unended, follows)
first_of_front (Some ending) text rest s new out written follows = follows

-- a first line that is answered behind a call that answered none
pub first_behind : (ended : Option Ending) (text line rest : List ℕ) (s mid new : Selling) (out between written : List ℕ) → lines_of text ≡ line ∷ lines_of rest
    → Follows [] s out mid between → MatchOption ended (Follows (line ∷ []) mid between new written) (λ _. Follows [] mid between new written)
    → MatchOption ended ((line : List ℕ) × (lines_of text ≡ line ∷ lines_of rest) × Follows (line ∷ []) s out new written) (λ _. Follows [] s out new written)
first_behind None text line rest s mid new out between written lines none next = (line, lines, follows_on (line ∷ []) s mid new out between written none next)
first_behind (Some ending) text line rest s mid new out between written lines none next = follows_on [] s mid new out between written none next

-- The lines of a text are answered one after the other, these so far, and others are left.
module _ (all lines left : List (List ℕ)) (parts : all ≡ lines ++ left) (in_json : Bool) (from : Reply) (out : List ℕ) (s : Selling) where
  given-of-all : (written : List ℕ) (new : Selling) → HasGiven in_json from lines written new → HasGiven in_json from all written new
  given-of-all written new it = subst (λ ls. HasGiven in_json from ls written new) (sym parts) (given_more in_json from lines left written new it)

  -- behind a call that answers none
  pub still_answered : (written : List ℕ) (new : Selling) → Follows [] s out new written → HasAnswered in_json from lines out s → HasAnswered in_json from lines written new
  still_answered written new none it = subst (λ ls. HasAnswered in_json from ls written new) (append-nil lines) (none in_json from lines [] it)

  -- no line more is answered
  pub given_so_far : (written : List ℕ) (new : Selling) → Follows [] s out new written → HasAnswered in_json from lines out s → HasGiven in_json from all written new
  given_so_far written new none it = given-of-all written new (still_answered written new none it).gave

  -- a call fails
  pub given_before : (written : List ℕ) (new : Selling) → StaysGiven s out new written → HasAnswered in_json from lines out s → HasGiven in_json from all written new
  given_before written new stays it = given-of-all written new (stays in_json from lines [] it)

  -- the end
  pub given_at_end : {E : Type 0} (result : Result Ending E) (written : List ℕ) (new : Selling) → FollowsAll result s out new written → HasAnswered in_json from lines out s
      → HasGiven in_json from all written new
  given_at_end (Ok ending) written new all it = given_so_far written new all it
  given_at_end (Err e) written new stays it = given_before written new stays it

  -- one line more
  pub answered_further : (line : List ℕ) (later : List (List ℕ)) (written : List ℕ) (new : Selling) → left ≡ line ∷ later → Follows (line ∷ []) s out new written
      → HasAnswered in_json from lines out s → (more : List (List ℕ)) × (all ≡ more ++ later) × HasAnswered in_json from more written new
  answered_further line later written new first next it =
      (lines ++ line ∷ [], parts ∙ ap (λ ls. lines ++ ls) first ∙ sym (append_assoc lines (line ∷ []) later), next in_json from lines [] it)

-- before its first line, where nothing is held back and all is kept
pub stands_first : (s : Selling) (lines : List (List ℕ)) → IsUnasked s → StandsIn s lines (Some lines) [] s
stands_first s lines first =
    let answered = nothing_given s [] first.said first.kept in (given_more s.in_json (beginning s) [] lines [] s answered.gave, ([], refl, answered))

-- and what an open finds of what it wrote
pub written_again : (start s : Selling) (lines : List (List ℕ)) (found : List Command) (before after : List ℕ) → AreAnswersFound s found
    → IsHandedOver (λ text. StandsIn start lines None text s) before after → IsWrittenAgain start lines found before after
written_again start s lines found before after again it = record {
  text = it.text;
  holds = again start.in_json (beginning start) lines it.text it.holds.0;
  front = it.front;
  more = it.more;
  whole = it.whole;
  given = it.given;
}

-- A broker stays on its courses: by a call that answers a line, one that may answer the first of a text, and at the end.
module _ (s new : Selling) (out written : List ℕ) where
  -- behind these lines, and others that are left
  behind_all : (start : Selling) (whole lines left : List (List ℕ)) (given : List ℕ) → whole ≡ lines ++ left → HasAnswered start.in_json (beginning start) lines given new
      → StandsIn start whole (Some left) given new
  behind_all start whole lines left given parts it =
      (given-of-all whole lines left parts start.in_json (beginning start) given new given new it.gave, (lines, parts, it))

  pub stopped_by : {more : List (List ℕ)} → Follows [] s out new written → StaysOn StandsIn s out (Some more) new written None
  stopped_by {more} follows start whole front (gave, (lines, parts, it)) =
      let none = subst (λ ls. HasAnswered start.in_json (beginning start) ls (front ++ written) new) (append-nil lines) (follows start.in_json (beginning start) lines front it) in
      ((behind_all start whole lines more (front ++ written) parts none).0, tt)

  failed_by : {more : List (List ℕ)} → StaysGiven s out new written → StaysOn StandsIn s out (Some more) new written None
  failed_by {more} stays start whole front (gave, (lines, parts, it)) =
      (given-of-all whole lines more parts start.in_json (beginning start) (front ++ out) s (front ++ written) new (stays start.in_json (beginning start) lines front it), tt)

  pub further_by : (line : List ℕ) (later : List (List ℕ)) → Follows (line ∷ []) s out new written → StaysOn StandsIn s out (Some (line ∷ later)) new written (Some later)
  further_by line later follows start whole front (gave, (lines, parts, it)) =
      behind_all start whole (lines ++ line ∷ []) later (front ++ written) (parts ∙ sym (append_assoc lines (line ∷ []) later)) (follows start.in_json (beginning start) lines front it)

  same_by : {more : List (List ℕ)} → Follows [] s out new written → StaysOn StandsIn s out (Some more) new written (Some more)
  same_by {more} follows start whole front (gave, (lines, parts, it)) =
      behind_all start whole lines more (front ++ written) parts
      (subst (λ ls. HasAnswered start.in_json (beginning start) ls (front ++ written) new) (append-nil lines) (follows start.in_json (beginning start) lines front it))

  pub stands_by_line : {E : Type 0} (result : Result (Option Ending) E) (line : List ℕ) (later : List (List ℕ)) → FollowsLine result line s out new written
      → StaysOn StandsIn s out (Some (line ∷ later)) new written (left_by result later)
  stands_by_line (Ok None) line later follows = further_by line later follows
  stands_by_line (Ok (Some ending)) line later follows = stopped_by follows
  stands_by_line (Err e) line later stays = failed_by stays

  pub further_by_front : (text line rest later : List ℕ) → IsFirstLine text line rest → Follows (line ∷ []) s out new written
      → StaysOn StandsIn s out (Some (lines_of (text ++ later))) new written (Some (lines_of (rest ++ later)))
  further_by_front text line rest later first follows =
      subst (λ more. StaysOn StandsIn s out (Some more) new written (Some (lines_of (rest ++ later)))) (sym (first_of_lines first later))
      (further_by line (lines_of (rest ++ later)) follows)

  stands-behind : {R : Type 0} (ended : Option Ending) (rest : R) (text later : List ℕ) (bytes : R → List ℕ)
      → MatchOption ended ((line : List ℕ) × IsFirstLine text line (bytes rest) × Follows (line ∷ []) s out new written) (λ _. Follows [] s out new written)
      → StaysOn StandsIn s out (Some (lines_of (text ++ later))) new written (left_behind ended rest (λ r. lines_of (bytes r ++ later)))
  stands-behind None rest text later bytes (line, first, follows) = further_by_front text line (bytes rest) later first follows
  stands-behind (Some ending) rest text later bytes follows = stopped_by follows

  pub stands_by_front : {R E : Type 0} (result : Result (Option (Option Ending × R)) E) (text later : List ℕ) (bytes : R → List ℕ) → FollowsFront result text bytes s out new written
      → StaysOn StandsIn s out (Some (lines_of (text ++ later))) new written (left_front result (lines_of (text ++ later)) (λ r. lines_of (bytes r ++ later)))
  stands_by_front (Ok None) text later bytes follows = same_by follows
  stands_by_front (Ok (Some parts)) text later bytes follows = stands-behind parts.0 parts.1 text later bytes follows
  stands_by_front (Err e) text later bytes stays = failed_by stays

  pub stands_at_end : {E : Type 0} (result : Result Ending E) → FollowsAll result s out new written → StaysOn StandsIn s out (Some []) new written None
  stands_at_end (Ok ending) follows = stopped_by follows
  stands_at_end (Err e) stays = failed_by stays
