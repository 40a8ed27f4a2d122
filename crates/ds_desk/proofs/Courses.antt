-- What acts do to a history.
use Rattle.std.proofs.Common.{◌≡◌, ℕ, List, [], ◌∷◌, ◌++◌, fold, refl, ap, sym, option_to_list, subst, arith, ◌≤◌, Bool, true, false, length, take, nat_le, MatchBool}
use Rattle.std.proofs.lemmas.Bool.Decides.{nat_tests}
use mathlib.Core.List.{IsPrefix}
use Rattle.ds_broker.specs.declared.command.Command.{Command}
use Rattle.ds_desk.specs.declared.log.Act.{Act}
use Rattle.ds_desk.specs.declared.log.Act.TheVariants.{Tried, Kept}
use Rattle.ds_desk.specs.Acts.{Course, course_after, course_of, opening_course, history_in, story_in}
use Rattle.ds_desk.proofs.Fronts.{prefix_self, prefix_trans, prefixes_begin, take_begins}

fold_last : (acts : List Act) (act : Act) (c : Course) → fold course_after c (acts ++ act ∷ []) ≡ course_after (fold course_after c acts) act
fold_last [] act c = refl
fold_last (a ∷ acts) act c = fold_last acts act (course_after c a)

pub course_last : (acts : List Act) (act : Act) → course_of (acts ++ act ∷ []) ≡ course_after (course_of acts) act
course_last acts act = unfold course_of in fold_last acts act opening_course

pub history_tried : (acts : List Act) (command : Command) → history_in (acts ++ Tried command ∷ []) ≡ history_in acts
history_tried acts command = ap (λ c. c.accepted) (course_last acts (Tried command))

pub story_tried : (acts : List Act) (command : Command) → story_in (acts ++ Tried command ∷ []) ≡ history_in acts ++ command ∷ []
story_tried acts command = ap (λ c. c.accepted ++ option_to_list c.tried) (course_last acts (Tried command))

pub history_kept : (acts : List Act) → history_in (acts ++ Kept ∷ []) ≡ story_in acts
history_kept acts = ap (λ c. c.accepted) (course_last acts Kept)

fold_grows : (acts : List Act) (c : Course) → IsPrefix c.accepted (fold course_after c acts).accepted
fold_grows [] c = prefix_self c.accepted
fold_grows (Tried command ∷ acts) c = fold_grows acts (course_after c (Tried command))
fold_grows (Kept ∷ acts) c =
    prefix_trans c.accepted (c.accepted ++ option_to_list c.tried) (fold course_after (course_after c Kept) acts).accepted
    (option_to_list c.tried, refl) (fold_grows acts (course_after c Kept))

fold_parts : (xs ys : List Act) (c : Course) → fold course_after c (xs ++ ys) ≡ fold course_after (fold course_after c xs) ys
fold_parts [] ys c = refl
fold_parts (x ∷ xs) ys c = fold_parts xs ys (course_after c x)

-- a longer log has a longer history
pub history_grows : (xs ys : List Act) → IsPrefix xs ys → IsPrefix (history_in xs) (history_in ys)
history_grows xs ys p = unfold course_of in
    subst (λ (l : List Act). IsPrefix (fold course_after opening_course xs).accepted (fold course_after opening_course l).accepted) p.1
    (subst (λ (c : Course). IsPrefix (fold course_after opening_course xs).accepted c.accepted) (sym (fold_parts xs p.0 opening_course))
    (fold_grows p.0 (fold course_after opening_course xs)))

-- so many acts of a log that begins another have a beginning of its history
front_grows : (xs zs : List Act) (n : ℕ) → IsPrefix xs zs → IsPrefix (history_in (take n xs)) (history_in zs)
front_grows xs zs n p = history_grows (take n xs) zs (prefix_trans (take n xs) xs zs (take_begins xs n) p)

-- of two fronts of one log, each with the history that far, the one with the shorter history begins the other
pub covers_by : (xs ys zs : List Act) (n m : ℕ) → IsPrefix xs zs → IsPrefix ys zs
    → (b : Bool) → nat_le (length (history_in (take m ys))) (length (history_in (take n xs))) ≡ b
    → MatchBool b (IsPrefix (history_in (take m ys)) (history_in (take n xs))) (IsPrefix (history_in (take n xs)) (history_in (take m ys)))
covers_by xs ys zs n m p q true is =
    let le : length (history_in (take m ys)) ≤ length (history_in (take n xs)) = grind (arith, nat_tests) in
    prefixes_begin (history_in (take n xs)) (history_in (take m ys)) (history_in zs) (front_grows xs zs n p) (front_grows ys zs m q) le
covers_by xs ys zs n m p q false is =
    let le : length (history_in (take n xs)) ≤ length (history_in (take m ys)) = grind (arith, nat_tests) in
    prefixes_begin (history_in (take m ys)) (history_in (take n xs)) (history_in zs) (front_grows ys zs m q) (front_grows xs zs n p) le
