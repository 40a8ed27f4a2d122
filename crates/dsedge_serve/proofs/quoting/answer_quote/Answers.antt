use Rattle.dsedge_json.specs.Quotations.{quote_said}
use Rattle.dsedge_texts.specs.Quoted.{quote_in}
use Rattle.dsedge_serve.proofs.QuoteLemmas.{starved_quote}
use Rattle.dsedge_serve.proofs.quoting.answer_quote.Goals as goal

pub returns-in-Err-NoMemory-clause-served : goal.returns-in-Err-NoMemory-clause-served
returns-in-Err-NoMemory-clause-served g c told =
    starved_quote (quote_said c.args.in_json (quote_in c.args.domain.now c.args.name.now c.args.asked)) _
