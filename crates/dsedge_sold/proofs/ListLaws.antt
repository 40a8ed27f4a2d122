-- The object of what is held has no float, nests two deep, and its lines are made of it.
use Rattle.std.proofs.Common.{◌≡◌, ℕ, ◌≤◌, max, suc, false, List, [], ◌∷◌, ◌++◌, codes, decimal, flat_map, map, Option, None, Some, append_assoc, refl, ap, ◌∙◌, arith}
use Rattle.std.proofs.lemmas.Bool.Decides.{nat_tests}
use Rattle.serde_json.specs.Data.{depth, items_depth}
use Rattle.serde_json.specs.Read.{max_depth}
use Rattle.serde_json.specs.View.{items_of}
use Rattle.serde_json.specs.Written.{has_float, items_have_float}
use Rattle.ds_broker.specs.declared.entry.Entry.{Entry}
use Rattle.dsedge_sold.specs.Sold.{entry_line, list_text, until_text}
use Rattle.dsedge_sold.specs.SoldObjects.{entries_lines, entry_data, entry_line_in, list_data, list_lines_in, until_data, until_word}

until_plain : (until : Option ℕ) → has_float (until_data until) ≡ false
until_plain None = refl
until_plain (Some until) = refl

until_flat : (until : Option ℕ) → depth (until_data until) ≡ 0
until_flat None = refl
until_flat (Some until) = refl

until_said : (until : Option ℕ) → codes " " ++ until_word (until_data until) ≡ until_text until
until_said None = refl
until_said (Some until) = refl

entries_plain : (entries : List Entry) → items_have_float (items_of (map entry_data entries)) ≡ false
entries_plain [] = refl
entries_plain (e ∷ entries) = rw (until_plain e.until, entries_plain entries) refl

max_below : (a b c : ℕ) → a ≤ c → b ≤ c → max a b ≤ c
max_below a b c ha hb = grind (arith, nat_tests)

entry_flat : (e : Entry) → depth (entry_data e) ≡ 1
entry_flat e = rw (until_flat e.until) refl

entries_flat : (entries : List Entry) → items_depth (items_of (map entry_data entries)) ≤ 1
entries_flat [] = omega arith
entries_flat (e ∷ entries) =
    rw (entry_flat e) (max_below 1 (items_depth (items_of (map entry_data entries))) 1 (omega arith) (entries_flat entries))

pub list_plain : (entries : List Entry) → has_float (list_data entries) ≡ false
list_plain entries = rw (entries_plain entries) refl

deep_enough : (n : ℕ) → n ≤ 1 → suc (max 0 (max (suc n) 0)) ≤ max_depth
deep_enough n h = grind (arith, nat_tests)

pub list_shallow : (entries : List Entry) → depth (list_data entries) ≤ max_depth
list_shallow entries = deep_enough (items_depth (items_of (map entry_data entries))) (entries_flat entries)

entry_joined : (id name since word until : List ℕ) → codes " " ++ word ≡ until
    → id ++ (32 ∷ (name ++ (32 ∷ (since ++ (32 ∷ (word ++ (10 ∷ []))))))) ≡ id ++ codes " " ++ name ++ (codes " " ++ since) ++ until ++ codes "\n"
entry_joined id name since word until same = rw (← same) (simp append_assoc)

entry_says : (e : Entry) → entry_line_in (entry_data e) ≡ entry_line e
entry_says e = entry_joined (decimal e.id) e.name (decimal e.since) (until_word (until_data e.until)) (until_text e.until) (until_said e.until)

entries_say : (entries : List Entry) → entries_lines (items_of (map entry_data entries)) ≡ flat_map entry_line entries
entries_say [] = refl
entries_say (e ∷ entries) =
    ap (λ line. line ++ entries_lines (items_of (map entry_data entries))) (entry_says e) ∙ ap (λ lines. entry_line e ++ lines) (entries_say entries)

pub list_says : (entries : List Entry) → list_lines_in (list_data entries) ≡ list_text entries
list_says [] = refl
list_says (e ∷ entries) = entries_say (e ∷ entries)
