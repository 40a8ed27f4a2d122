-- What runs stand on.
use Rattle.std.specs.Prelude.{ℕ, nat_eq, List, length, min, take, option_map, Option}
use Rattle.std.specs.List.{enumerate_from, find}
use Rattle.ds_domain_base.specs.Domains.{Domain}
use Rattle.ds_domain_base.specs.declared.contract.Contract.{Contract}
use Rattle.ds_checker.specs.Acceptance.{Table}

-- a domain, and contracts, each behind the number of its flow
pub record Ground : Type 0 where
  pub domain : Domain
  pub contracts : List (ℕ × Contract)

-- the contract of a flow, if there is one
abbrev pub contract_of : Ground → ℕ → Option Contract
contract_of g flow = option_map (λ entry. entry.1) (find (λ entry. nat_eq entry.0 flow) g.contracts)

-- How many contracts of a table packets can be of: the first 2^32 - 1024. A domain has at most 1024 meters, so the
-- number of each edge behind them has 32 bits.
abbrev pub most_flows : ℕ
most_flows = 4294966272

abbrev pub flow_count : Table → ℕ
flow_count t = min (length t.contracts) most_flows

-- a table as a ground: the flow of a contract is its place
abbrev pub ground_of : Table → Ground
ground_of t = record { domain = t.domain; contracts = enumerate_from 0 (take most_flows t.contracts) }
