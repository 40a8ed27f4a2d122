use Rattle.std.proofs.Common.{◌≡◌, ℕ, List, position, take, bytes_eq}
use Rattle.std.specs.Map.{lookup}
use Rattle.dsedge_audit.proofs.flows.Flows.new.Given as goal

-- under each name of a contract so far stands the place of the first that has it
abbrev pub invariant-loop-place : goal.invariant-loop-place
invariant-loop-place l =
    (name : List ℕ) → lookup (λ key. bytes_eq name key.now) l.places.entries
    ≡ position (λ c. bytes_eq name c.name) (take l.place l.accepted.contracts)
