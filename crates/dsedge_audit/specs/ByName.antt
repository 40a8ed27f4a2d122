-- What the contracts by their names keep.
use Rattle.std.specs.Prelude.{◌≡◌, ℕ, List, position, bytes_eq}
use Rattle.std.specs.Map.{lookup}
use Rattle.dsedge_audit.specs.declared.flows.Flows.TheInside as flows

-- under each name stands the place of the first contract that has it
abbrev pub IsFlows : flows.Inside → Type 0
IsFlows f =
    (name : List ℕ) → lookup (λ key. bytes_eq name key.now) f.places.entries
    ≡ position (λ c. bytes_eq name c.name) f.accepted.now.contracts
