-- What the fields of a book keep is kept by each command.
use Rattle.std.proofs.Common.{◌≡◌, ◌≤◌, ◌+◌, ◌^◌, ℕ, true, false, List, [], ◌∷◌, ◌++◌, None, Some, sym, ap, subst, ◌∙◌, arith, refl, cond, length, max, slice_get, append-nil, append_assoc, set, bytes_eq, leb-false}
use Rattle.std.specs.List.{IsDistinct, list_any, remove}
use Rattle.std.proofs.lemmas.Cmp.{nat_list_eq_equiv}
use Rattle.std.proofs.lemmas.List.{map-append, length_push}
use Rattle.std.proofs.lemmas.Map.Keys.{IsDistinct-push}
use Rattle.ds_domain_base.specs.Domains.{Domain}
use Rattle.ds_domain_base.specs.declared.contract.Contract.{Contract}
use Rattle.ds_checker.specs.Acceptance.{IsAcceptable}
use Rattle.ds_broker.specs.Books.{Book, held_of, is_held, table_in, table_of}
use Rattle.ds_broker.specs.Changes.{Applies, IsChange, place_in, table_changed}
use Rattle.ds_broker.specs.Entries.{flows_of}
use Rattle.ds_broker.specs.Histories.{Holding, after, begun, opening, standing_of, with_released, with_retired}
use Rattle.ds_broker.specs.Kept.{IsBook, book_of, held_in, ids_in, names_in, opened_as, released_in}
use Rattle.ds_broker.specs.Refusals.{refusal_in, room_refusal}
use Rattle.ds_broker.specs.Requests.{AreUnrefused}
use Rattle.ds_broker.specs.declared.book.Book.TheInside as book
use Rattle.ds_broker.specs.declared.change.Change.{Change}
use Rattle.ds_broker.specs.declared.command.Command.{Command}
use Rattle.ds_broker.specs.declared.command.Command.TheVariants.{Reserve, Release, Retire}
use Rattle.ds_broker.proofs.HoldingLaws.{length-released, length-retired, map-retired, released-set, map-released}
use Rattle.ds_broker.proofs.NameLaws.{any-names, apart-retired, held-push, held-released, held-retired}
use Rattle.ds_broker.proofs.RefusalLaws.{passed, roomy, unfilled}
use Rattle.ds_broker.proofs.StandingLaws.{standing-push}
use Rattle.ds_broker.proofs.TableLaws.{own-domain}

-- nothing stood against one command more
pub AreUnrefused-push : (b : Book) (commands : List Command) (command : Command) → AreUnrefused b commands → refusal_in (record b { history = b.history ++ commands }) command ≡ None
    → AreUnrefused b (commands ++ command ∷ [])
unfolding AreUnrefused
AreUnrefused-push b [] command unrefused none = (subst (λ history. refusal_in (record b { history = history }) command ≡ None) (append-nil b.history) none, tt)
AreUnrefused-push b (first ∷ commands) command unrefused none = (
  unrefused.0,
  AreUnrefused-push (record b { history = b.history ++ first ∷ [] }) commands command unrefused.1
      (subst (λ history. refusal_in (record b { history = history }) command ≡ None) (sym (append_assoc b.history (first ∷ []) commands)) none),
)

unrefused-more : (old new : book.Inside) (command : Command) → AreUnrefused (opened_as old) old.history.items → refusal_in (book_of old) command ≡ None
    → new.table.domain ≡ old.table.domain → new.limits ≡ old.limits → new.history.items ≡ old.history.items ++ command ∷ []
    → AreUnrefused (opened_as new) new.history.items
unrefused-more old new command unrefused none domain limits history =
    let opened : opened_as old ≡ opened_as new =
    ap (λ d. record { domain = d; limits = old.limits; history = [] }) (sym domain) ∙ ap (λ l. record { domain = new.table.domain; limits = l; history = [] }) (sym limits) in
    subst (λ b. AreUnrefused b new.history.items) opened
    (subst (AreUnrefused (opened_as old)) (sym history) (AreUnrefused-push (opened_as old) old.history.items command unrefused none))

-- what a command and its change keep, whatever the command is
record IsTaken (old new : book.Inside) (command : Command) : Type 0 where
  stood : standing_of new.history.items ≡ after (standing_of old.history.items) command
  table : new.table ≡ table_in new.table.domain (held_in new)
  newest : new.newest ≡ (standing_of new.history.items).newest
  accepted : length new.history.items ≤ new.limits.history
  short : length new.history.items ≤ 2 ^ 24
  unrefused : AreUnrefused (opened_as new) new.history.items

taken : (old new : book.Inside) (command : Command) (change : Change) → IsBook old → IsChange (book_of old) command change
    → new.table ≡ table_changed change.step old.table → new.limits ≡ old.limits → new.newest ≡ change.newest
    → new.history.items ≡ old.history.items ++ command ∷ [] → IsTaken old new command
taken old new command change kept is changed limits newest history =
    let table : new.table ≡ table_in old.table.domain (held_in new) =
    changed ∙ ap (table_changed change.step) kept.table ∙ sym is.leads.table ∙ ap (λ h. table_in old.table.domain (standing_of h).held) (sym history) in record {
      stood = ap standing_of history ∙ standing-push old.history.items command;
      table = own-domain old.table.domain new.table (held_in new) table;
      newest = newest ∙ is.newest ∙ ap (λ h. (standing_of h).newest) (sym history);
      accepted = rw (limits, history) (omega (arith, length_push old.history.items command, leb-false old.limits.history (length old.history.items) (unfilled (book_of old) command is.unrefused)));
      short = rw history (omega (arith, length_push old.history.items command, is.room));
      unrefused = unrefused-more old new command kept.unrefused is.unrefused (ap (λ t. t.domain) table) limits history;
    }

-- the table of a book has what the change of a command asks for
pub applied : (i : book.Inside) (b : Book) (command : Command) (change : Change) → book_of i ≡ b → IsBook i → IsChange b command change
    → (flows : List ℕ) × Applies change.step i.table flows
applied i b command change view kept is =
    let own : i.table ≡ table_of b = kept.table ∙ ap table_of view in
    (flows_of b, subst (λ t. Applies change.step t (flows_of b)) (sym own) is.leads.applies)

pub kept-reserved : (old new : book.Inside) (c : Contract) (change : Change) → IsBook old → IsChange (book_of old) (Reserve c) change
    → new.table ≡ table_changed change.step old.table
    → IsAcceptable new.table
    → new.ids.items ≡ old.ids.items ++ new.granted ∷ []
    → new.released.items ≡ old.released.items ++ false ∷ []
    → ((name : List ℕ) → list_any (bytes_eq name) new.names.keys ≡ cond (bytes_eq c.name name) true (list_any (bytes_eq name) old.names.keys))
    → new.limits ≡ old.limits
    → new.granted ≡ old.granted + 1
    → new.newest ≡ change.newest
    → new.history.items ≡ old.history.items ++ Reserve c ∷ []
    → IsBook new
kept-reserved old new c change kept is table acceptable ids released names limits granted newest history =
    let s = standing_of old.history.items in
    let next : Holding = record { id = s.granted + 1; contract = begun s.newest c; released = false } in
    let t = taken old new (Reserve c) change kept is table limits newest history in
    let st = t.stood in
    let passes = passed (book_of old) c (roomy (room_refusal (book_of old) c) (book_of old) c is.unrefused) in
    let number : new.granted ≡ s.granted + 1 = granted ∙ ap (λ n. n + 1) kept.granted in
    let unheld : list_any (bytes_eq c.name) (names_in s.held) ≡ false = any-names c.name s.held ∙ passes.new in
    record {
      table = t.table;
      acceptable = acceptable;
      ids = ids ∙ ap (λ n. old.ids.items ++ n ∷ []) number ∙ ap (λ ns. ns ++ (s.granted + 1) ∷ []) kept.ids
          ∙ sym (map-append (λ h. h.id) s.held (next ∷ [])) ∙ ap (λ x. ids_in x.held) (sym st);
      released = released ∙ ap (λ bs. bs ++ false ∷ []) kept.released
          ∙ sym (map-append (λ h. h.released) s.held (next ∷ [])) ∙ ap (λ x. released_in x.held) (sym st);
      names = λ name. names name ∙ ap (cond (bytes_eq c.name name) true) (kept.names name) ∙ sym (held-push name s.held next) ∙ ap (λ x. is_held name x.held) (sym st);
      apart = subst (IsDistinct bytes_eq) (sym (map-append (λ h. h.contract.name) s.held (next ∷ [])) ∙ ap (λ x. names_in x.held) (sym st))
          (IsDistinct-push nat_list_eq_equiv (names_in s.held) c.name kept.apart unheld);
      granted = number ∙ ap (λ x. x.granted) (sym st);
      newest = t.newest;
      room = omega (arith, ap (λ l. l.table) limits, (let count : length (held_in new) ≡ length (s.held ++ next ∷ []) = ap (λ x. length x.held) st in count), length_push s.held next, leb-false old.limits.table (length s.held) passes.table);
      accepted = t.accepted;
      short = t.short;
      unrefused = t.unrefused;
    }

pub kept-released : (old new : book.Inside) (id at : ℕ) (change : Change) → IsBook old → IsChange (book_of old) (Release id at) change
    → new.table ≡ table_changed change.step old.table
    → IsAcceptable new.table
    → new.ids.items ≡ old.ids.items
    → new.released.items ≡ set old.released.items (place_in change.step) true
    → new.names.keys ≡ old.names.keys
    → new.limits ≡ old.limits
    → new.granted ≡ old.granted
    → new.newest ≡ change.newest
    → new.history.items ≡ old.history.items ++ Release id at ∷ []
    → IsBook new
kept-released old new id at change kept is table acceptable ids marked names limits granted newest history =
    let s = standing_of old.history.items in
    let m = max s.newest at in
    let t = taken old new (Release id at) change kept is table limits newest history in
    let st = t.stood in
    record {
      table = t.table;
      acceptable = acceptable;
      ids = ids ∙ kept.ids ∙ sym (map-released (λ h. h.id) id m s.held (λ h. refl)) ∙ ap (λ x. ids_in x.held) (sym st);
      released = marked ∙ ap (λ bs. set bs (place_in change.step) true) kept.released ∙ sym (released-set id m s.held (place_in change.step) is.placed.first)
          ∙ ap (λ x. released_in x.held) (sym st);
      names = λ name. ap (list_any (bytes_eq name)) names ∙ kept.names name ∙ sym (held-released name id m s.held) ∙ ap (λ x. is_held name x.held) (sym st);
      apart = subst (IsDistinct bytes_eq) (sym (map-released (λ h. h.contract.name) id m s.held (λ h. refl)) ∙ ap (λ x. names_in x.held) (sym st)) kept.apart;
      granted = granted ∙ kept.granted ∙ ap (λ x. x.granted) (sym st);
      newest = t.newest;
      room = omega (arith, ap (λ l. l.table) limits, (let count : length (held_in new) ≡ length (with_released id m s.held) = ap (λ x. length x.held) st in count), length-released id m s.held, kept.room);
      accepted = t.accepted;
      short = t.short;
      unrefused = t.unrefused;
    }

pub kept-retired : (old new : book.Inside) (id at : ℕ) (change : Change) (name : List ℕ) → IsBook old → IsChange (book_of old) (Retire id at) change
    → ((h : Holding) → slice_get (held_of (book_of old)) (place_in change.step) ≡ Some h → name ≡ h.contract.name)
    → new.table ≡ table_changed change.step old.table
    → IsAcceptable new.table
    → new.ids.items ≡ remove old.ids.items (place_in change.step)
    → new.released.items ≡ remove old.released.items (place_in change.step)
    → ((other : List ℕ) → list_any (bytes_eq other) new.names.keys ≡ cond (bytes_eq name other) false (list_any (bytes_eq other) old.names.keys))
    → new.limits ≡ old.limits
    → new.granted ≡ old.granted
    → new.newest ≡ change.newest
    → new.history.items ≡ old.history.items ++ Retire id at ∷ []
    → IsBook new
kept-retired old new id at change name kept is own table acceptable ids marks names limits granted newest history =
    let s = standing_of old.history.items in
    let place = place_in change.step in
    let first = is.placed.first in
    let holding = is.placed.holding in
    let t = taken old new (Retire id at) change kept is table limits newest history in
    let st = t.stood in
    let named : name ≡ holding.contract.name = own holding is.placed.at in
    record {
      table = t.table;
      acceptable = acceptable;
      ids = ids ∙ ap (λ ns. remove ns place) kept.ids ∙ sym (map-retired (λ h. h.id) id s.held place first) ∙ ap (λ x. ids_in x.held) (sym st);
      released = marks ∙ ap (λ bs. remove bs place) kept.released ∙ sym (map-retired (λ h. h.released) id s.held place first) ∙ ap (λ x. released_in x.held) (sym st);
      names = λ other. names other ∙ ap (λ n. cond (bytes_eq n other) false (list_any (bytes_eq other) old.names.keys)) named
          ∙ ap (cond (bytes_eq holding.contract.name other) false) (kept.names other)
          ∙ sym (held-retired other id s.held place holding kept.apart first is.placed.at) ∙ ap (λ x. is_held other x.held) (sym st);
      apart = subst (IsDistinct bytes_eq) (ap (λ x. names_in x.held) (sym st)) (apart-retired id s.held kept.apart);
      granted = granted ∙ kept.granted ∙ ap (λ x. x.granted) (sym st);
      newest = t.newest;
      room = omega (arith, ap (λ l. l.table) limits, (let count : length (held_in new) ≡ length (with_retired id s.held) = ap (λ x. length x.held) st in count), length-retired id s.held, kept.room);
      accepted = t.accepted;
      short = t.short;
      unrefused = t.unrefused;
    }

pub kept-opened : (i : book.Inside) (d : Domain) → i.table ≡ record { domain = d; contracts = []; certificate = [] } → IsAcceptable i.table
    → i.ids.items ≡ [] → i.released.items ≡ [] → i.names.keys ≡ [] → i.granted ≡ 0 → i.newest ≡ 0 → i.history.items ≡ [] → IsBook i
unfolding standing_of AreUnrefused IsDistinct
kept-opened i d table acceptable ids released names granted newest history =
    let st : standing_of i.history.items ≡ opening = ap standing_of history in
    let length_is : length i.history.items ≡ 0 = ap length history in
    record {
      table = own-domain d i.table (held_in i) (table ∙ ap (λ s. table_in d s.held) (sym st));
      acceptable = acceptable;
      ids = ids ∙ ap (λ s. ids_in s.held) (sym st);
      released = released ∙ ap (λ s. released_in s.held) (sym st);
      names = λ name. ap (list_any (bytes_eq name)) names ∙ ap (λ s. is_held name s.held) (sym st);
      apart = subst (IsDistinct bytes_eq) (ap (λ s. names_in s.held) (sym st)) tt;
      granted = granted ∙ ap (λ s. s.granted) (sym st);
      newest = newest ∙ ap (λ s. s.newest) (sym st);
      room = omega (arith, (let count : length (held_in i) ≡ 0 = ap (λ s. length s.held) st in count));
      accepted = omega (arith, length_is);
      short = omega (arith, length_is);
      unrefused = subst (AreUnrefused (opened_as i)) (sym history) tt;
    }
