-- What is read of a contract, as its text says it.
use Rattle.std.specs.Borrow.{Bor}
use Rattle.std.specs.Prelude.{ℕ, List, map}
use Rattle.ds_domain.specs.ContractEntries.{ContractText}
use Rattle.ds_domain.specs.declared.contract_keys.ContractKeys.{ContractKeys}
use Rattle.ds_domain.specs.declared.contract_keys.ContractRest.{ContractRest}

abbrev pub text_parts : List ℕ → List ℕ → List (Bor (List ℕ)) → ContractRest → ContractText
text_parts name port path rest = record { name = name; port = port; path = map (λ name. name.now) path; rest = rest }

abbrev pub text_of : ContractKeys → ContractText
text_of keys = text_parts keys.name keys.port.now keys.path.items keys.rest
