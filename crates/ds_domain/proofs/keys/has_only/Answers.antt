use Rattle.std.proofs.Common.{◌||◌, ◌∙◌, string_bytes, rules, tests}
use Rattle.std.proofs.lemmas.Iterator.Consumers.{YieldsList-from_rest}
use Rattle.std.proofs.lemmas.Iterator.Search.{all_from_yields_List}
use Rattle.std.specs.Map.{keys_of}
use Rattle.ds_domain.specs.Keys.{has_only, is_key_of}
use Rattle.ds_domain.proofs.KeyLemmas.{keys_in-entries}
use Rattle.ds_domain.proofs.keys.has_only.Goals as goal

pub returns : goal.returns
unfolding has_only
returns c =
    let tested = all_from_yields_List (λ key. is_key_of c.args.common.now (string_bytes key) || is_key_of c.args.own.now (string_bytes key)) _ _ c.all.result c.all.ensures.ran (YieldsList-from_rest (keys_of c.args.table.now.entries) cc) (λ x b q k. search (rules, tests)) in
    tested ∙ keys_in-entries c.args.common.now c.args.own.now c.args.table.now.entries
