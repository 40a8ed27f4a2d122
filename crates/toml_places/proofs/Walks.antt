-- What follows a value follows its parts, and what follows an expression follows its line.
use Rattle.std.proofs.Common.{◌≡◌, ℕ, zero, suc, ◌-◌, ◌<◌, true, false, ◌==◌, Bool, if◌then◌else◌, List, [], ◌∷◌, length, drop, fold, map, get_or, add-one, ◌+◌, ◌||◌, bytes_eq, Bor, Option, None, Some, IfSome, IsSome, option_map, refl, sym, ap, ◌∙◌, subst, inl, inr, arith}
use Rattle.std.proofs.lemmas.Option.{none-some, same_Some}
use Rattle.std.proofs.lemmas.Bool.{false≢true}
use Rattle.std.specs.Prelude.{option_and_then}
use Rattle.std.specs.List.{list_any}
use Rattle.std.proofs.Math.Seq.{drop-cons}
use Rattle.toml_parser.specs.Lexical.{Read, first, skip_blank, skip_ws}
use Rattle.toml_parser.specs.Strings.{Key}
use Rattle.toml.specs.Data.{Data, Items, no_items, push_item, Members}
use Rattle.toml.specs.Tables.{Nodes, no_nodes, close, put, Document, Expression, define}
use Rattle.toml.specs.Parse.{read_map, val, after_element, key_equals, keyval, items, members, expression, ends_line, line, lines, skip_bom, parse_document}
use Rattle.toml.proofs.Turns.{items_more, items_bad, members_more, members_bad, members_bad_put, keyval_ok, keyval_no_value, lines_more, lines_bad, lines_refused, document_none}
use Rattle.toml_places.specs.Readings.{Follows}
use Rattle.toml_places.specs.Aims.{Aim}
use Rattle.toml_places.specs.Expressions.{Located, located, expressions_within}
use Rattle.toml_places.specs.Searches.{after}
use Rattle.toml_places.specs.declared.findings.Progress.{Progress}

-- what was read, under f
pub Follows-map : {A B : Type 0} (f : A → B) (read : Read A) (rest : List ℕ) → Follows read rest → Follows (read_map f read) rest
Follows-map f None rest h = tt
Follows-map f (Some found) rest h = h

-- the same, at the front of the same text
pub follows_same : (o : Option (Bor (List ℕ))) (one other : Read Data) → other ≡ one → IfSome o (λ rest. Follows one rest.now) → IfSome o (λ rest. Follows other rest.now)
follows_same None one other e h = tt
follows_same (Some rest) one other e h = rw e h

-- the same, under f
pub follows_mapped : {A : Type 0} (f : A → Data) (o : Option (Bor (List ℕ))) (read : Read A) (other : Read Data) → other ≡ read_map f read
    → IfSome o (λ rest. Follows read rest.now) → IfSome o (λ rest. Follows other rest.now)
follows_mapped f None read other e h = tt
follows_mapped f (Some rest) read other e h = rw e (Follows-map f read rest.now h)

-- what follows in any number of turns above the least follows in one of them
pub at_fuel : {A : Type 0} (o : Option (Bor (List ℕ))) (read : ℕ → Read A) (least n : ℕ) → least < n
    → IfSome o (λ rest. (n : ℕ) → least < n → Follows (read n) rest.now) → IfSome o (λ rest. Follows (read n) rest.now)
at_fuel None read least n above h = tt
at_fuel (Some rest) read least n above h = h n above

-- one item more of an array
pub items_on : (val : List ℕ → Read Data) (m : ℕ) (found : Items) (text after next : List ℕ) → 0 < m → (first (skip_blank text) == 93) ≡ false
    → Follows (val (skip_blank text)) after → after_element 93 after ≡ Some next
    → (more : Items) × ((rest : List ℕ) → Follows (items val (m - 1) more next) rest → Follows (items val m found text) rest)
items_on val m found text after next some other read element = by (val (skip_blank text)) refl read
  where
    by : (o : Read Data) → val (skip_blank text) ≡ o → Follows o after
        → (more : Items) × ((rest : List ℕ) → Follows (items val (m - 1) more next) rest → Follows (items val m found text) rest)
    by None is h = (no_items, λ rest p. rw (items_bad val m found text some other is) tt)
    by (Some (d, behind)) is h =
        let here : val (skip_blank text) ≡ Some (d, after) = is ∙ ap (λ b. Some (d, b)) h in
        (push_item found d, λ rest p. rw (items_more val m found text d after next some other here element) p)

-- one member more of an inline table
pub members_on : (val : List ℕ → Read Data) (m : ℕ) (found : Nodes) (text : List ℕ) (key : Key) (at_value after next : List ℕ) → 0 < m → (first (skip_blank text) == 125) ≡ false
    → key_equals (skip_blank text) ≡ Some (key, at_value) → Follows (val at_value) after → after_element 125 after ≡ Some next
    → (more : Nodes) × ((rest : List ℕ) → Follows (members val (m - 1) more next) rest → Follows (members val m found text) rest)
members_on val m found text key at_value after next some other keyed read element = by (val at_value) refl read
  where
    put_by : (d : Data) → keyval val (skip_blank text) ≡ Some ((key, d), after) → (o : Option Nodes) → put key d found ≡ o
        → (more : Nodes) × ((rest : List ℕ) → Follows (members val (m - 1) more next) rest → Follows (members val m found text) rest)
    put_by d pair None is = (no_nodes, λ rest p. rw (members_bad_put val m found text key d after some other pair is) tt)
    put_by d pair (Some more) is = (more, λ rest p. rw (members_more val m found more text key d after next some other pair is element) p)

    by : (o : Read Data) → val at_value ≡ o → Follows o after
        → (more : Nodes) × ((rest : List ℕ) → Follows (members val (m - 1) more next) rest → Follows (members val m found text) rest)
    by None is h = (no_nodes, λ rest p. rw (members_bad val m found text some other (keyval_no_value val (skip_blank text) at_value key keyed is)) tt)
    by (Some (d, behind)) is h =
        let here : val at_value ≡ Some (d, after) = is ∙ ap (λ b. Some (d, b)) h in
        put_by d (keyval_ok val (skip_blank text) at_value after key d keyed here) (put key d found) refl

-- a value that a test lets through
if_some : {A : Type 0} (test : Bool) (a x : A) → (if test then Some a else None) ≡ Some x → a ≡ x
if_some true a x h = same_Some a x h
if_some false a x h = absurd (none-some x h)

-- what a line says is what its expression says
pub line-expression : (text : List ℕ) (read : Expression × List ℕ) → line text ≡ Some read → expression text ≡ Some read
unfolding line
line-expression text read h = by (expression text) h
  where
    by : (o : Read Expression) → option_and_then (λ e. if ends_line (skip_ws e.1) then Some e else None) o ≡ Some read → o ≡ Some read
    by None said = absurd (none-some read said)
    by (Some e) said = ap Some (if_some (ends_line (skip_ws e.1)) e read said)

-- the expression that a line begins with is the one that was read
pub located-line : (text : List ℕ) (e : Expression × List ℕ) (found : Located) → IfSome (expression text) (λ read. found ≡ located text read)
    → line text ≡ Some e → found ≡ located text e
located-line text e found h is = rw (line-expression text e is) at h

-- the text has a first expression, and the document goes on behind it
pub lines_on : (m : ℕ) (doc final : Document) (text : List ℕ) → 0 < m → (length (skip_blank text) == 0) ≡ false → lines m doc text ≡ Some final
    → (read : Expression × List ℕ) × (line (skip_blank text) ≡ Some read) × (next : Document) × (lines (m - 1) next read.1 ≡ Some final)
lines_on m doc final text some other said = by (line (skip_blank text)) refl
  where
    define_by : (e : Expression) (after : List ℕ) → line (skip_blank text) ≡ Some (e, after) → (o : Option Document) → define doc e ≡ o
        → (read : Expression × List ℕ) × (line (skip_blank text) ≡ Some read) × (next : Document) × (lines (m - 1) next read.1 ≡ Some final)
    define_by e after is None step = absurd (none-some final (sym (lines_refused m doc text e after some other is step) ∙ said))
    define_by e after is (Some next) step = ((e, after), is, next, sym (lines_more m doc next text e after some other is step) ∙ said)

    by : (o : Read Expression) → line (skip_blank text) ≡ o
        → (read : Expression × List ℕ) × (line (skip_blank text) ≡ Some read) × (next : Document) × (lines (m - 1) next read.1 ≡ Some final)
    by None is = absurd (none-some final (sym (lines_bad m doc text some other is) ∙ said))
    by (Some (e, after)) is = define_by e after is (define doc e) refl

-- the first expression of a text, and those behind it
pub expressions_within-more : (m : ℕ) (text : List ℕ) (read : Expression × List ℕ) → 0 < m → (length (skip_blank text) == 0) ≡ false
    → line (skip_blank text) ≡ Some read → expressions_within m text ≡ located (skip_blank text) read ∷ expressions_within (m - 1) read.1
unfolding expressions_within
expressions_within-more zero text read some other is = absurd (omega arith)
expressions_within-more (suc m) text read some other is =
    let less : suc m - 1 ≡ m = omega arith in
    rw (other, is, less) refl

-- a text without one
pub expressions_within-end : (m : ℕ) (text : List ℕ) → 0 < m → length (skip_blank text) ≡ 0 → expressions_within m text ≡ []
unfolding expressions_within
expressions_within-end zero text some none = absurd (omega arith)
expressions_within-end (suc m) text some none = rw none refl

-- a document that there is has lines
pub document-lines : (text : List ℕ) → IsSome (parse_document text) → (final : Document) × (lines (suc (length text)) (no_nodes, []) (skip_bom text) ≡ Some final)
document-lines text there = by (lines (suc (length text)) (no_nodes, []) (skip_bom text)) refl
  where
    by : (o : Option Document) → lines (suc (length text)) (no_nodes, []) (skip_bom text) ≡ o → (final : Document) × (lines (suc (length text)) (no_nodes, []) (skip_bom text) ≡ Some final)
    by None is = absurd (false≢true (rw (document_none text is) at there))
    by (Some final) is = (final, is)

-- a search behind one expression more finds what it would
pub search_on : (aim : Aim) (size m : ℕ) (progress whole : Progress) (rest : List ℕ) (found : Located) (e : Expression × List ℕ) → 0 < m → (length (skip_blank rest) == 0) ≡ false
    → line (skip_blank rest) ≡ Some e → found ≡ located (skip_blank rest) e
    → fold (after aim size) progress (expressions_within m rest) ≡ whole
    → fold (after aim size) (after aim size progress found) (expressions_within (m - 1) found.behind) ≡ whole
search_on aim size m progress whole rest found e some other is same here =
    let next : fold (after aim size) (after aim size progress (located (skip_blank rest) e)) (expressions_within (m - 1) e.1) ≡ whole = rw (expressions_within-more m rest e some other is) at here in
    rw same next

-- a name is one of some names, lent or not
pub list_any-now : (name : List ℕ) (names : List (Bor (List ℕ))) → list_any (λ one. bytes_eq one.now name) names ≡ list_any (λ one. bytes_eq one name) (map (λ one. one.now) names)
list_any-now name [] = refl
list_any-now name (one ∷ names) = ap (λ (found : Bool). bytes_eq one.now name || found) (list_any-now name names)

-- a fold over the items from one on
pub fold-drop : (f : ℕ → ℕ → ℕ) (a : ℕ) (xs : List ℕ) (i : ℕ) → i < length xs → fold f a (drop i xs) ≡ fold f (f a (get_or xs i 0)) (drop (i + 1) xs)
fold-drop f a xs i h = rw (add-one, drop-cons xs i 0) refl
