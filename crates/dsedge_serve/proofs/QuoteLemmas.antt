-- What is answered to a quote where memory runs out.
use Rattle.std.proofs.Common.{ℕ, List, [], Result, Ok, Err, refl}
use Rattle.pcap_capture.proofs.FrontLaws.{IsFrontOf-none}
use Rattle.dsedge_lines.specs.declared.fault.PumpFault.TheVariants as pump_faults
use Rattle.dsedge_texts.specs.Quoted.{Told}
use Rattle.dsedge_texts.specs.declared.quoting.QuoteFault.{QuoteFault}
use Rattle.dsedge_texts.specs.declared.quoting.QuoteFault.TheVariants as quotes
use Rattle.dsedge_answers.specs.Replies.{IsServed, Reply}
use Rattle.dsedge_serve.specs.Served.{IsQuoteReplied, reply_quoted}
use Rattle.dsedge_answers.specs.declared.conclusion.Conclusion.TheVariants.{Unsound}

-- nothing was written of a reply
starved_reply : (reply : Reply) (before : List ℕ) → IsServed reply (Err pump_faults.NoMemory) before before
starved_reply reply before = record { whole = tt; front = IsFrontOf-none before reply.text }

-- nothing was written of any quote
pub starved_quote : (found : Result Told QuoteFault) (before : List ℕ)
    → IsQuoteReplied found (Err pump_faults.NoMemory) before before
starved_quote (Ok told) before = starved_reply (reply_quoted told) before
starved_quote (Err (quotes.Domain fault)) before = starved_reply (record { text = []; conclusion = Unsound fault }) before
starved_quote (Err quotes.Unnamed) before = (refl, refl)
starved_quote (Err quotes.NoField) before = (refl, refl)
starved_quote (Err quotes.NoMemory) before = (refl, refl)
