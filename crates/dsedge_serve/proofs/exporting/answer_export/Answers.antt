use Rattle.dsedge_export.specs.Exported.{export_in}
use Rattle.dsedge_serve.proofs.QuoteLemmas.{starved_quote}
use Rattle.dsedge_serve.proofs.exporting.answer_export.Goals as goal

pub returns-in-Err-NoMemory-clause-served : goal.returns-in-Err-NoMemory-clause-served
returns-in-Err-NoMemory-clause-served g c told = starved_quote (export_in c.args.domain.now c.args.name.now c.args.device) _
