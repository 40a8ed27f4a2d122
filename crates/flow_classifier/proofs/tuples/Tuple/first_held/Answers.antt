use Rattle.std.proofs.Common.{◌≡◌, ◌≤◌, ◌-◌, true, false, List, ap, drop, length, subst, sym, take, ◌∙◌, arith}
use Rattle.std.specs.Prelude.{All}
use Rattle.std.specs.List.Sorted.{IsSorted}
use Rattle.std.proofs.lemmas.List.{take_rest}
use Rattle.flow_classifier.specs.Tuples.{IsHeldAt, row_cmp}
use Rattle.flow_classifier.specs.declared.tuples.Row.{Row}
use Rattle.flow_classifier.proofs.TupleLaws.{NoneOf, decided_rows, none_of_tuple, sorted_rest}
use Rattle.flow_classifier.proofs.tuples.Tuple.first_held.Goals as goal
use Rattle.flow_classifier.proofs.tuples.Tuple.first_held.Goals.{then-self, else-self}

pub returns-clause-none : goal.returns-clause-none
returns-clause-none c =
    let rows = c.args.self.now.rows.items in
    let seen = c.deref.result.now in
    let start = c.start_of-start.result in
    let asked = c.addresses-addresses.result in
    let run = take (length seen - start) (drop start seen) in
    let same : run ≡ drop start rows = take_rest seen start ∙ ap (λ (rs : List Row). drop start rs) c.deref.ensures.value in
    let found : NoneOf run asked c.args.rules.now c.args.key.now c.first_of_run.result =
    c.first_of_run.ensures.none (subst (λ (rs : List Row). IsSorted row_cmp rs) (sym same) (sorted_rest rows start c.requires.sorted))
    (subst (λ (rs : List Row). All (λ r. asked ≤ r.addresses) rs) (sym same) c.start_of-start.ensures.behind) in
    none_of_tuple c.args.self.now c.args.rules.now c.args.key.now start c.first_of_run.result c.addresses-addresses.ensures.source c.addresses-addresses.ensures.target c.requires
    (λ k d less. omega (arith, c.start_of-start.ensures.before k d less, c.addresses-addresses.ensures.value))
    (subst (λ n. NoneOf (drop start rows) n c.args.rules.now c.args.key.now c.first_of_run.result) c.addresses-addresses.ensures.value
    (subst (λ (rs : List Row). NoneOf rs asked c.args.rules.now c.args.key.now c.first_of_run.result) same found))

pub first_of_run-requires-clause-decided : goal.first_of_run-requires-clause-decided
first_of_run-requires-clause-decided c = λ sure.
    let rows = c.args.self.now.rows.items in
    let seen = c.deref.result.now in
    let start = c.start_of-start.result in
    let asked = c.addresses-addresses.result in
    let run = take (length seen - start) (drop start seen) in
    let same : run ≡ drop start rows = take_rest seen start ∙ ap (λ (rs : List Row). drop start rs) c.deref.ensures.value in
    elim c.if-self.branch [
      | then-self w ↦
          subst (λ (rs : List Row). All (λ r. r.addresses ≡ asked → IsHeldAt c.args.rules.now c.args.key.now r.place) rs) (sym same)
          (subst (λ n. All (λ r. r.addresses ≡ n → IsHeldAt c.args.rules.now c.args.key.now r.place) (drop start rows)) (sym c.addresses-addresses.ensures.value)
          (decided_rows c.args.self.now c.args.rules.now c.args.key.now start c.requires w.if-self.true
          (sym w.are_ipv4-decided.ensures ∙ sym w.decided-is ∙ sure) c.addresses-addresses.ensures.target))
      | else-self w ↦ absurd (wrong (sym w.if-self.false ∙ sym w.decided-is ∙ sure))
    ]
  where
    wrong : false ≡ true → ⊥
    wrong e = absurd cc
