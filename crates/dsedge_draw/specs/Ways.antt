-- Links and contracts drawn.
use Rattle.std.specs.Prelude.{ℕ, ◌%◌, ◌+◌, nat_eq, if◌then◌else◌, List, [], ◌∷◌, ◌++◌, flat_map, Option, None, Some, codes, decimal}
use Rattle.ds_domain_base.specs.Parameters.{Parameters}
use Rattle.ds_domain_base.specs.Parameters.TheVariants.{SrTcm, TrTcm, Rfc4115}
use Rattle.ds_domain_base.specs.declared.contract.Contract.{Contract}
use Rattle.ds_domain_base.specs.declared.parts.Link.{Link}
use Rattle.ds_domain_base.specs.declared.terms.Peak.{Peak}
use Rattle.ds_domain_base.specs.declared.terms.Terms.{Terms}
use Rattle.ds_domain_base.specs.declared.terms.Terms.TheVariants.{Policed, Trusted}
use Rattle.dsedge_texts.specs.Wording.{figure}
use Rattle.dsedge_draw.specs.Bars.{quoted}

-- to a meter or a port
unfoldable pub hop_text : List ℕ → List ℕ
hop_text name = codes " -> " ++ quoted name

-- a link is an edge with its floor and its jitter
unfoldable pub link_text : (List ℕ × List ℕ) × Link → List ℕ
link_text entry =
    quoted entry.0.0 ++ hop_text entry.0.1 ++ codes " [label=\"floor" ++ figure entry.1.floor
    ++ codes " ns\\njitter" ++ figure entry.1.jitter ++ codes " ns\"];\n"

-- the colours of ways, one after the other
abbrev pub colour_at : ℕ → List ℕ
colour_at place =
    if nat_eq place 0 then codes "#4e79a7"
    else if nat_eq place 1 then codes "#f28e2b"
    else if nat_eq place 2 then codes "#b07aa1"
    else if nat_eq place 3 then codes "#499894"
    else if nat_eq place 4 then codes "#9c755f"
    else codes "#d37295"

-- of the contract of a number
unfoldable pub colour_of : ℕ → List ℕ
colour_of number = colour_at (number % 6)

-- a committed rate, and another behind its key
abbrev pub committed_text : ℕ → List ℕ
committed_text rate = codes "cir" ++ figure rate ++ codes " bit/s"

abbrev pub rates_text : ℕ → List ℕ → ℕ → List ℕ
rates_text rate key other = committed_text rate ++ codes "\\n" ++ key ++ figure other ++ codes " bit/s"

-- the rates of a meter's parameters
abbrev pub parameters_text : Parameters → List ℕ
parameters_text (SrTcm p) = committed_text p.committed_rate
parameters_text (TrTcm p) = rates_text p.committed_rate (codes "pir") p.peak_rate
parameters_text (Rfc4115 p) = rates_text p.committed_rate (codes "eir") p.excess_rate

-- the rates of a contract
abbrev pub terms_text : Terms → List ℕ
terms_text (Trusted committed None) = committed_text committed.rate
terms_text (Trusted committed (Some peak)) = rates_text committed.rate (codes "pir") peak.profile.rate
terms_text (Policed parameters mode) = parameters_text parameters

-- the kind of a contract
abbrev pub trust_text : Terms → List ℕ
trust_text (Trusted committed peak) = codes "trusted"
trust_text (Policed parameters mode) = codes "policed"

-- the node of a contract; no meter and no port has a name like that
abbrev pub source_name : Contract → List ℕ
source_name c = codes "\"contract " ++ c.name ++ codes "\""

-- there its name is written, its kind, its class and its rates
unfoldable pub label_text : Contract → List ℕ
label_text c =
    c.name ++ codes "\\n" ++ trust_text c.terms ++ codes ", class AF" ++ decimal c.class ++ codes "\\n" ++ terms_text c.terms

-- in its colour
unfoldable pub source_text : List ℕ → Contract → List ℕ
source_text colour c =
    source_name c ++ codes " [color=\"" ++ colour ++ codes "\", fillcolor=\"" ++ colour ++ codes "\", label=\""
    ++ label_text c ++ codes "\"];\n"

-- its way goes from there to its port and along its path, in its colour
unfoldable pub way_text : List ℕ → Contract → List ℕ
way_text colour c =
    source_name c ++ hop_text c.port ++ flat_map hop_text c.path ++ codes " [color=\"" ++ colour ++ codes "\"];\n"

-- contracts in their order, the first of which has a number
unfoldable pub ways_text : ℕ → List Contract → List ℕ
ways_text number [] = []
ways_text number (c ∷ contracts) =
    source_text (colour_of number) c ++ way_text (colour_of number) c ++ ways_text (number + 1) contracts
