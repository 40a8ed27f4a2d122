use Rattle.std.proofs.Common.{◌∙◌, Global, List, String, ap, map, string_bytes}
use Rattle.std.specs.List.{list_any}
use Rattle.dsedge_explained.specs.Asked.{asks}
use Rattle.dsedge_explained.proofs.QuestionLemmas.{list_any-bytes, plain_words-bytes}
use Rattle.dsedge_explained.proofs.asking.take_question.Goals as goal

pub returns-clause-asked : goal.returns-clause-asked
returns-clause-asked c =
    c.has_question-is_asked.ensures
    ∙ (ap (λ (words : List (String Global)). list_any (λ word. asks (string_bytes word)) words) c.as_slice.ensures.value
    ∙ list_any-bytes c.args.words.now.items)

pub returns-clause-plain : goal.returns-clause-plain
returns-clause-plain c = ap (map string_bytes) c.drop_questions.ensures ∙ plain_words-bytes c.args.words.now.items
