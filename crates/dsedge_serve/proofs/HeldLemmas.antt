-- What is settled of an outcome that tells of a book.
use Rattle.std.proofs.Common.{◌≡◌, ◌⊎◌, List, Result, Ok, Err, IfErr, ap, inl, inr}
use Rattle.ds_domain_base.specs.Domains.{Domain}
use Rattle.ds_domain_base.specs.declared.contract.Contract.{Contract}
use Rattle.ds_domain_base.specs.declared.fault.DomainFault.{DomainFault}
use Rattle.dsedge_answers.specs.declared.conclusion.Conclusion.{Conclusion}
use Rattle.dsedge_answers.specs.declared.conclusion.Conclusion.TheVariants.{Unsound}
use Rattle.dsedge_lines.specs.declared.fault.PumpFault.{PumpFault}
use Rattle.dsedge_lines.specs.declared.fault.PumpFault.TheVariants as pump_faults
use Rattle.dsedge_serve.specs.Served.{IsUnsoundBefore}
use Rattle.dsedge_serve.specs.declared.outcome.Outcome.TheVariants.{Answered}

-- where the domain's text has a fault, that is told, or want of memory
pub unsound_held : (found : Result (Domain × List Contract) DomainFault) (held : Result Conclusion PumpFault)
    → IfErr found (λ fault. (held ≡ Ok (Unsound fault)) ⊎ (held ≡ Err pump_faults.NoMemory))
    → IsUnsoundBefore found (Answered held)
unsound_held (Ok parsed) held told = tt
unsound_held (Err fault) held (inl unsound) = inl (ap Answered unsound)
unsound_held (Err fault) held (inr memory) = inr (ap Answered memory)
