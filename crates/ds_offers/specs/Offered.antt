-- Contracts by their names.
use Rattle.std.specs.Prelude.{◌≡◌, ℕ, Bool, List, IsTrue, position, bytes_eq}
use Rattle.std.specs.List.{list_any}
use Rattle.std.specs.Map.{lookup}
use Rattle.ds_domain_base.specs.Names.{is_name}
use Rattle.ds_domain_base.specs.declared.contract.Contract.{Contract}

-- a contract has the name
abbrev pub has_name : List Contract → List ℕ → Bool
has_name contracts name = list_any (λ c. bytes_eq name c.name) contracts

-- Names are names, and under each stands the place of the first contract that has it.
pub record AreOffered (places : List (List ℕ × ℕ)) (contracts : List Contract) : Type 0 where
  pub named : (name : List ℕ) → IsTrue (has_name contracts name) → IsTrue (is_name name)
  pub placed : (name : List ℕ) → lookup (bytes_eq name) places ≡ position (λ c. bytes_eq name c.name) contracts
