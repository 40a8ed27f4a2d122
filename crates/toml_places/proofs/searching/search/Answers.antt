use Rattle.std.proofs.Common.{◌≡◌, ◌==◌, ◌-◌, ◌∙◌, ℕ, List, suc, length, false, [], refl, ap, rules, arith}
use Rattle.toml.specs.Parse.{lines}
use Rattle.std.proofs.lemmas.Grind.{common_steps}
use Rattle.toml_parser.specs.Lexical.{skip_blank}
use Rattle.toml.specs.Tables.{no_nodes}
use Rattle.toml_places.specs.Expressions.{Located, located, located_by}
use Rattle.toml_places.specs.declared.findings.Progress.{Progress}
use Rattle.toml_places.proofs.Walks.{document-lines, expressions_within-end, lines_on, located-line, search_on}
use Rattle.toml_places.proofs.searching.search.Goals as goal

pub lines-init : goal.lines-init
lines-init c = (
  search rules,
  c.skip_bom-rest.ensures.within,
  λ final said. (
    suc (length c.args.text.now),
    omega (arith, c.skip_bom-rest.ensures.within),
    (no_nodes, []),
    rw c.skip_bom-rest.ensures.rest said,
    rw (c.skip_bom-rest.ensures.rest, c.start-progress.ensures) refl,
  ),
)

pub returns-then-is_empty : goal.returns-then-is_empty
returns-then-is_empty c there =
    let l = c.lines in
    let start_is = c.skip_blank-start.ensures.rest in
    let none : length (skip_blank l.rest.now) ≡ 0 = grind (arith, common_steps) in
    let (final, said) = document-lines c.args.text.now there in
    let (m, room, doc, read, same) = l.invariant.2 final said in
    ap (λ (p : Progress). p.findings) (rw (expressions_within-end m l.rest.now (omega arith) none) at same)

pub lines-preserved : goal.lines-preserved
lines-preserved c =
    let l = c.lines in
    let start_is = c.skip_blank-start.ensures.rest in
    let other : (length (skip_blank l.rest.now) == 0) ≡ false = grind (arith, common_steps) in
    let shorter = c.in-Some.ensures.shorter in
    let before = c.skip_blank-start.ensures.within in (
      search rules,
      omega (arith, l.invariant.1),
      λ final said.
          let (m, room, doc, read, same) = l.invariant.2 final said in
          let (e, is, next, more) = lines_on m doc final l.rest.now (omega arith) other read in
          let found = located_by (skip_blank l.rest.now) c.in-Some.found in
          let here : found ≡ located (skip_blank l.rest.now) e = located-line (skip_blank l.rest.now) e found (rw start_is at c.in-Some.ensures.value) is in (
            m - 1,
            omega arith,
            next,
            ap (λ (b : List ℕ). lines (m - 1) next b) (ap (λ (x : Located). x.behind) here) ∙ more,
            rw (c.after-progress.ensures, start_is) (search_on c.args.sought.now (length c.args.text.now) m l.progress _ l.rest.now found e (omega arith) other is here same),
          ),
    )
