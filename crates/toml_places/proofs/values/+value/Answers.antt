use Rattle.std.proofs.Common.{◌≡◌, ◌<◌, ◌||◌, ◌==◌, ◌-◌, true, false, Some, length, le_refl, refl, sym, rules, arith}
use Rattle.std.proofs.lemmas.Grind.{common_steps}
use Rattle.toml_parser.specs.Lexical.{first, skip_blank}
use Rattle.toml_parser.specs.Reading.{key_view}
use Rattle.toml_parser.specs.Strings.{Key}
use Rattle.toml.specs.Data.{array, no_items, table}
use Rattle.toml.specs.Parse.{after_element, items, key_equals, members, val}
use Rattle.toml.specs.Tables.{no_nodes}
use Rattle.toml.proofs.Turns.{items_end, members_end, val_atom, val_open_array, val_open_table}
use Rattle.toml_places.proofs.Walks.{at_fuel, follows_mapped, follows_same, items_on, members_on}
use Rattle.toml_places.proofs.values.+value.Goals as goal

pub behind_items-items-init : goal.behind_items-items-init
behind_items-items-init t c = (search rules, le_refl _, λ n h. (n, h, no_items, λ rest p. p))

pub behind_items-returns-then-first-eq93-clause-value : goal.behind_items-returns-then-first-eq93-clause-value
behind_items-returns-then-first-eq93-clause-value t c n h =
    let l = c.items in
    let closing : (first (skip_blank l.rest.now) == 93) ≡ true = grind (arith, common_steps) in
    let (m, room, found, on) = l.invariant.2 n h in
    on c.skip.result.now (rw (items_end (val c.args.depth) m found l.rest.now (omega arith) closing, c.skip.ensures.rest, c.skip_blank-start.ensures.rest) refl)

pub behind_items-items-preserved : goal.behind_items-items-preserved
behind_items-items-preserved t c =
    let l = c.items in
    let start_is = c.skip_blank-start.ensures.rest in
    let other : (first (skip_blank l.rest.now) == 93) ≡ false = grind (arith, common_steps) in
    let shorter = c.in-Some.ensures.shorter in
    let within = c.in-Some-after_element.ensures.within in
    let before = c.skip_blank-start.ensures.within in
    let element : after_element 93 c.in-Some.after.now ≡ Some c.in-Some-after_element.next.now = sym c.in-Some-after_element.ensures.value in (
      search rules,
      omega (arith, l.invariant.1),
      λ n h.
          let (m, room, found, on) = l.invariant.2 n h in
          let (more, step) = items_on (val c.args.depth) m found l.rest.now c.in-Some.after.now c.in-Some-after_element.next.now (omega arith) other (rw start_is at c.in-Some.ensures.value) element in
          (m - 1, omega arith, more, λ rest p. on rest (step rest p)),
    )

pub behind_members-members-init : goal.behind_members-members-init
behind_members-members-init t c = (search rules, le_refl _, λ n h. (n, h, no_nodes, λ rest p. p))

pub behind_members-returns-then-first-eq125-clause-value : goal.behind_members-returns-then-first-eq125-clause-value
behind_members-returns-then-first-eq125-clause-value t c n h =
    let l = c.members in
    let closing : (first (skip_blank l.rest.now) == 125) ≡ true = grind (arith, common_steps) in
    let (m, room, found, on) = l.invariant.2 n h in
    on c.skip.result.now (rw (members_end (val c.args.depth) m found l.rest.now (omega arith) closing, c.skip.ensures.rest, c.skip_blank-start.ensures.rest) refl)

pub behind_members-members-preserved : goal.behind_members-members-preserved
behind_members-members-preserved t c =
    let l = c.members in
    let start_is = c.skip_blank-start.ensures.rest in
    let other : (first (skip_blank l.rest.now) == 125) ≡ false = grind (arith, common_steps) in
    let key : Key = key_view c.in-Some.field-0-0 in
    let keyed : key_equals (skip_blank l.rest.now) ≡ Some (key, c.in-Some.at_value.now) = rw start_is at c.in-Some.ensures.value in
    let shorter = c.in-Some.ensures.shorter in
    let shorter_again = c.in-Some-behind_value.ensures.shorter in
    let within = c.in-Some-after_element.ensures.within in
    let before = c.skip_blank-start.ensures.within in
    let element : after_element 125 c.in-Some-behind_value.after.now ≡ Some c.in-Some-after_element.next.now = sym c.in-Some-after_element.ensures.value in (
      search rules,
      omega (arith, l.invariant.1),
      λ n h.
          let (m, room, found, on) = l.invariant.2 n h in
          let (more, step) = members_on (val c.args.depth) m found l.rest.now key c.in-Some.at_value.now c.in-Some-behind_value.after.now c.in-Some-after_element.next.now (omega arith) other keyed c.in-Some-behind_value.ensures.value element in
          (m - 1, omega arith, more, λ rest p. on rest (step rest p)),
    )

pub behind_value-returns-then-byte-ne123-clause-value : goal.behind_value-returns-then-byte-ne123-clause-value
behind_value-returns-then-byte-ne123-clause-value t c =
    let s = c.args.s.now in
    let a : (first s == 91) ≡ false = grind (arith, common_steps) in
    let b : (first s == 123) ≡ false = grind (arith, common_steps) in
    follows_same _ _ _ (val_atom c.args.depth s a b) c.behind_atom.ensures.value

pub behind_value-returns-then-byte-eq91-clause-value : goal.behind_value-returns-then-byte-eq91-clause-value
behind_value-returns-then-byte-eq91-clause-value t c =
    let s = c.args.s.now in
    let some : 0 < c.args.depth = omega arith in
    let a : (first s == 91) ≡ true = grind (arith, common_steps) in
    follows_mapped array _ _ (val c.args.depth s) (rw c.skip.ensures.rest (val_open_array c.args.depth s some a))
    (at_fuel _ (λ n. items (val (c.args.depth - 1)) n no_items c.skip.result.now) (length c.skip.result.now) (length s) c.skip.ensures.shorter c.behind_items.ensures.value)

pub behind_value-returns-else-byte-eq91-clause-value : goal.behind_value-returns-else-byte-eq91-clause-value
behind_value-returns-else-byte-eq91-clause-value t c =
    let s = c.args.s.now in
    let some : 0 < c.args.depth = omega arith in
    let a : (first s == 91) ≡ false = grind (arith, common_steps) in
    let b : (first s == 123) ≡ true = grind (arith, common_steps) in
    follows_mapped table _ _ (val c.args.depth s) (rw c.skip-else-byte-eq91.ensures.rest (val_open_table c.args.depth s some a b))
    (at_fuel _ (λ n. members (val (c.args.depth - 1)) n no_nodes c.skip-else-byte-eq91.result.now) (length c.skip-else-byte-eq91.result.now) (length s) c.skip-else-byte-eq91.ensures.shorter c.behind_members.ensures.value)
