-- What an answer to a quote says.
use Rattle.dsedge_texts.specs.Quoted.{Fitting, Greatest, Quote, nothing_told}
use Rattle.dsedge_texts.specs.declared.quoting.Quoted.{Quoted}
use Rattle.dsedge_texts.specs.declared.quoting.Quoted.TheVariants as answers

-- contracts that the refusal does not name are left aside
abbrev pub said_in : Quoted → Quote
said_in (answers.Most field value) = Greatest field value
said_in (answers.Count n) = Fitting n
said_in (answers.None contracts refusal) = nothing_told contracts.items refusal
