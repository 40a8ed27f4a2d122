-- The sites of a domain and its contracts: the meters in order, then behind them an edge for each contract that is
-- policed. A hop is a step of a packet's way: its number is that of the meters of the path that are passed, its site
-- where it leads.
use Rattle.std.specs.Prelude.{ℕ, suc, ◌+◌, List, [], ◌∷◌, ◌++◌, length, position, unwrap_or, bytes_eq}
use Rattle.std.specs.Map.{keys_of}
use Rattle.ds_domain_base.specs.Domains.{Domain}
use Rattle.ds_domain_base.specs.declared.contract.Contract.{Contract}
use Rattle.ds_domain_base.specs.declared.terms.Terms.{Terms}
use Rattle.ds_domain_base.specs.declared.terms.Terms.TheVariants.{Trusted, Policed}
use Rattle.meter_fabric_base.specs.declared.hop.Hop.{Hop}

-- the site of a meter is its place among the meters; each name of a path that fits is a meter's
abbrev pub site_of : Domain → List ℕ → ℕ
site_of d name = unwrap_or (position (bytes_eq name) (keys_of d.meters)) 0

-- what is policed comes to its edge as hop 0
abbrev pub edge_hops : Domain → ℕ → Terms → List Hop
edge_hops d flow (Trusted committed peak) = []
edge_hops d flow (Policed parameters mode) = record { number = 0; site = length d.meters + flow } ∷ []

-- the meters of a path, of which the first is the hop of this number
unfoldable pub hops_along : Domain → ℕ → List (List ℕ) → List Hop
hops_along d number [] = []
hops_along d number (name ∷ path) = record { number = number; site = site_of d name } ∷ hops_along d (suc number) path

-- the hops of the packets of a contract: its edge, if it is policed, then the meters of its path from hop 1 on
abbrev pub hops_of : Domain → ℕ → Contract → List Hop
hops_of d flow c = edge_hops d flow c.terms ++ hops_along d 1 c.path
