-- The object of what is answered to a quote has no float, nests no deeper than twice, and the lines are made of it.
use Rattle.std.proofs.Common.{◌≡◌, ℕ, ◌≤◌, suc, max, false, List, [], ◌∷◌, ◌++◌, codes, decimal, None, Some, append-nil, refl, ap, arith, append_assoc}
use Rattle.std.proofs.lemmas.Bool.Decides.{nat_tests}
use Rattle.serde_json.specs.Data.{depth}
use Rattle.serde_json.specs.Read.{max_depth}
use Rattle.serde_json.specs.Written.{has_float}
use Rattle.json_lines.proofs.FigureLaws.{figure_flat, figure_plain, figure_said}
use Rattle.ds_quotes.specs.Words.{field_text}
use Rattle.dsedge_texts.specs.Quoted.{Fitting, Greatest, Nothing, Quote, lines_of_quote}
use Rattle.dsedge_json.specs.Objects.{refusal_data}
use Rattle.dsedge_json.specs.Quotations.{IsTold, quote_data, quote_lines_in}
use Rattle.dsedge_json.proofs.ObjectLaws.{refusal_flat, refusal_plain, refusal_says}

pub quote_plain : (q : Quote) → has_float (quote_data q) ≡ false
quote_plain (Greatest field value) = rw (figure_plain value) refl
quote_plain (Fitting n) = rw (figure_plain n) refl
quote_plain (Nothing contracts None) = refl
quote_plain (Nothing contracts (Some refusal)) = rw (refusal_plain contracts refusal) refl

deep_enough : (n : ℕ) → n ≤ 1 → suc (max 0 (max n 0)) ≤ max_depth
deep_enough n h = grind (arith, nat_tests)

pub quote_shallow : (q : Quote) → depth (quote_data q) ≤ max_depth
quote_shallow (Greatest field value) = rw (figure_flat value) (omega arith)
quote_shallow (Fitting n) = rw (figure_flat n) (omega arith)
quote_shallow (Nothing contracts None) = omega arith
quote_shallow (Nothing contracts (Some refusal)) = deep_enough (depth (refusal_data contracts refusal)) (refusal_flat contracts refusal)

value_said : (field value : List ℕ) → field ++ (32 ∷ (value ++ (10 ∷ []))) ≡ field ++ (codes " " ++ value) ++ codes "\n"
value_said field value = simp append_assoc

pub quote_says : (q : Quote) → IsTold q → quote_lines_in (quote_data q) ≡ (lines_of_quote q).0
quote_says (Greatest field value) told = rw (figure_said value) (value_said (field_text field) (decimal value))
quote_says (Fitting n) told = rw (figure_said n) (append-nil (codes "count" ++ (codes " " ++ decimal n) ++ codes "\n"))
quote_says (Nothing contracts None) told = refl
quote_says (Nothing contracts (Some refusal)) told = ap (λ line. codes "none\n" ++ line) (refusal_says contracts refusal told)
