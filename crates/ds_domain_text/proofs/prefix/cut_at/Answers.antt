use Rattle.std.proofs.Common.{◌≡◌, ◌++◌, ◌∷◌, false, List, ℕ, Option, None, Some, option_map, MatchOption, Bor, sym, ◌∙◌, ap}
use Rattle.line_text.specs.Lines.{has_byte}
use Rattle.ds_domain_text.specs.Prefixes.{cut_at}
use Rattle.ds_domain_text.proofs.PrefixLemmas.{cut_at-none, cut_at-first}
use Rattle.ds_domain_text.proofs.prefix.cut_at.Goals as goal

of_cut : (mark : ℕ) (text : List ℕ) (result : Option (Bor (List ℕ) × Bor (List ℕ)))
    → MatchOption result (has_byte mark text ≡ false) (λ parts. (has_byte mark parts.0.now ≡ false) × (text ≡ parts.0.now ++ mark ∷ parts.1.now))
    → option_map (λ parts. (parts.0.now, parts.1.now)) result ≡ cut_at mark text
of_cut mark text None h = sym (cut_at-none mark text h)
of_cut mark text (Some parts) h = sym (ap (cut_at mark) h.1 ∙ cut_at-first mark parts.0.now parts.1.now h.0)

pub returns : goal.returns
returns c = of_cut c.args.mark c.args.text.now c.cut.result c.cut.ensures
