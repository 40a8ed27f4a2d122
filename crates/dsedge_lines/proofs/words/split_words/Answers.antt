use Rattle.std.proofs.Common.{sym, ap, ◌∙◌, lit<}
use Rattle.std.specs.Str.Iter.{split_text, split_has_more, split_pattern}
use Rattle.std.proofs.lemmas.Iterator.Splits.{YieldsList-from_str_split}
use Rattle.std.proofs.lemmas.Iterator.Consumers.{YieldsList-end}
use Rattle.line_text.proofs.LineLemmas.{fields_of-slice_split}
use Rattle.dsedge_lines.proofs.words.split_words.Goals as goal

pub returns : goal.returns
returns c =
    let same = c.into_iter-word-iterator.ensures.into_iter_gives in
    let split = c.split-word-items.ensures in
    let all = YieldsList-from_str_split 32 c.args.line.now (lit< tt) (ap split_text same ∙ split.text) (ap split_has_more same ∙ split.has_more) (ap split_pattern same ∙ split.pattern) in
    let parts = YieldsList-end all c.loop-word.yielded _ c.loop-word.yielded_by _ _ c.in-None.is c.next.ensures.steps in
    c.loop-word.invariant ∙ parts.0 ∙ sym (fields_of-slice_split c.args.line.now)
