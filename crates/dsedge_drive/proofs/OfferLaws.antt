-- What is answered to an offer, by what became of it.
use Rattle.std.proofs.Common.{◌≡◌, ◌≢◌, ◌⊎◌, ℕ, Bool, List, [], ◌∷◌, ◌++◌, Result, Ok, Err, OnOk, inl, inr, ap}
use Rattle.ds_domain_base.specs.Faults.{no_memory}
use Rattle.ds_domain_base.specs.declared.contract.Contract.{Contract}
use Rattle.ds_domain_base.specs.declared.fault.DomainFault.{DomainFault}
use Rattle.ds_domain_base.specs.declared.fault.Kind.TheVariants.{NoMemory}
use Rattle.dsedge_drive.specs.Driven.{offered_as}
use Rattle.dsedge_sold.specs.Said.{offered_said, unoffered_said}

-- a contract that is said is offered, and its name is told
pub offered_text : (in_json : Bool) (offered : List Contract) (said : Result Contract DomainFault) (c : Contract) (old text : List ℕ)
    → said ≡ Ok c → text ≡ old ++ offered_said in_json c.name → text ≡ old ++ (offered_as in_json offered said).text
offered_text in_json offered said c old text is told = rw is told

pub offered_all : (in_json : Bool) (said : Result Contract DomainFault) (c : Contract) (offered new : List Contract)
    → said ≡ Ok c → new ≡ offered ++ c ∷ [] → new ≡ (offered_as in_json offered said).offered
offered_all in_json said c offered new is pushed = rw is pushed

module _ {T E P : Type 0} (said : Result Contract DomainFault) (fault : DomainFault) (offered : List Contract) (in_json : Bool) where
  -- a fault is told, where it is not want of memory, and nothing more is offered
  pub unoffered_text : (done : Result T E) (old text : List ℕ) → ((fault ≡ no_memory) × P) ⊎ (said ≡ Err fault)
      → OnOk done (fault.kind ≢ NoMemory) → OnOk done (text ≡ old ++ unoffered_said in_json fault) → OnOk done (text ≡ old ++ (offered_as in_json offered said).text)
  unoffered_text (Ok value) old text (inl memory) some told = absurd (some (ap (λ (f : DomainFault). f.kind) memory.0))
  unoffered_text (Ok value) old text (inr stands) some told = rw stands told
  unoffered_text (Err e) old text refused some told = tt

  pub unoffered_all : (done : Result T E) (new : List Contract) → ((fault ≡ no_memory) × P) ⊎ (said ≡ Err fault)
      → OnOk done (fault.kind ≢ NoMemory) → new ≡ offered → OnOk done (new ≡ (offered_as in_json offered said).offered)
  unoffered_all (Ok value) new (inl memory) some same = absurd (some (ap (λ (f : DomainFault). f.kind) memory.0))
  unoffered_all (Ok value) new (inr stands) some same = rw stands same
  unoffered_all (Err e) new refused some same = tt
