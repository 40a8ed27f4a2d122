use Rattle.std.proofs.Common.{◌≡◌, ℕ, ◌<◌, ◌≤◌, length, suc, [], fold, Some}
use denote.Text.{Utf8}
use denote.Shadow.{shadow}
use Rattle.toml.specs.Tables.{no_nodes, Document}
use Rattle.toml.specs.Parse.{lines, skip_bom}
use Rattle.toml_places.specs.Expressions.{expressions_of, expressions_within}
use Rattle.toml_places.specs.Searches.{after, started}
use Rattle.toml_places.proofs.searching.search.Given as goal

abbrev pub invariant-lines : goal.invariant-lines
invariant-lines l =
    shadow (Utf8 l.rest) × (length l.rest ≤ length l.fn.text)
    × ((final : Document) → lines (suc (length l.fn.text)) (no_nodes, []) (skip_bom l.fn.text) ≡ Some final
    → (m : ℕ) × (length l.rest < m) × (doc : Document) × (lines m doc l.rest ≡ Some final)
    × (fold (after l.sought l.size) l.progress (expressions_within m l.rest) ≡ fold (after l.sought (length l.fn.text)) (started l.sought) (expressions_of l.fn.text)))

abbrev pub decreases-lines : goal.decreases-lines
decreases-lines l = length l.rest
