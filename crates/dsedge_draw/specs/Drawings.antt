-- A domain drawn, in the words of Graphviz (the DOT language): contracts, ports, meters and links from left to right.
use Rattle.std.specs.Prelude.{ℕ, List, [], ◌∷◌, ◌++◌, flat_map, Option, None, Some, Result, Ok, Err, codes}
use Rattle.ds_checker.specs.Acceptance.{Table, refusal_of}
use Rattle.ds_checker.specs.Surveys.{headrooms_of}
use Rattle.ds_checker.specs.declared.headroom.Headroom.{Headroom}
use Rattle.ds_checker.specs.declared.refusal.Refusal.{Refusal}
use Rattle.ds_domain.specs.DomainTexts.{parse_of}
use Rattle.ds_domain_base.specs.Domains.{Domain}
use Rattle.ds_domain_base.specs.declared.contract.Contract.{Contract}
use Rattle.ds_domain_base.specs.declared.fault.DomainFault.{DomainFault}
use Rattle.ds_domain_base.specs.declared.parts.Meter.{Meter}
use Rattle.dsedge_texts.specs.Headed.{least_table}
use Rattle.dsedge_texts.specs.Refused.{refusal_line}
use Rattle.dsedge_draw.specs.Bars.{meter_text, quoted}
use Rattle.dsedge_draw.specs.Ways.{link_text, ways_text}

-- how the picture is laid out, and how its words are written
abbrev pub head_text : List ℕ
head_text = codes "digraph domain {\nrankdir=LR;\nranksep=0.8;\nlabelloc=t;\nfontname=\"Helvetica\";\nfontcolor=\"#d62728\";\nnode [fontname=\"Helvetica\", fontsize=11];\nedge [fontname=\"Helvetica\", fontsize=10];\n"

-- the caption is the checker's line, where it refuses
abbrev pub caption_text : List Contract → Option Refusal → List ℕ
caption_text contracts None = []
caption_text contracts (Some refusal) = codes "label=\"" ++ refusal_line contracts refusal ++ codes "\";\n"

-- a port is a node
abbrev pub port_text : List ℕ → List ℕ
port_text name = quoted name ++ codes ";\n"

-- each meter with what is taken and what there is
unfoldable pub meters_text : List (List ℕ × Meter) → List Headroom → List ℕ
meters_text (entry ∷ meters) (headroom ∷ headrooms) = meter_text entry.0 headroom ++ meters_text meters headrooms
meters_text meters headrooms = []

-- the nodes and edges of a domain
abbrev pub domain_text : Domain → List Headroom → List ℕ
domain_text d headrooms =
    codes "node [shape=cds, style=filled, fillcolor=\"#dddddd\"];\n"
    ++ flat_map (λ entry. port_text entry.0) d.ports
    ++ codes "node [shape=plain, style=\"\"];\n"
    ++ meters_text d.meters headrooms
    ++ codes "edge [style=dashed, color=\"#888888\"];\n"
    ++ flat_map link_text d.links

-- the nodes and ways of contracts
abbrev pub contracts_text : List Contract → List ℕ
contracts_text contracts =
    codes "node [shape=box, style=\"rounded,filled\", fontcolor=\"#ffffff\"];\nedge [style=solid, penwidth=2];\n"
    ++ ways_text 0 contracts

-- the whole, by what is taken at each meter and by what the checker refuses
abbrev pub picture_text : Domain → List Contract → List Headroom → Option Refusal → List ℕ
picture_text d contracts headrooms refusal =
    head_text ++ caption_text contracts refusal ++ domain_text d headrooms ++ contracts_text contracts ++ codes "}\n"

-- a table, accepted or refused
abbrev pub drawing_of : Table → List ℕ
drawing_of t = picture_text t.domain t.contracts (headrooms_of t) (refusal_of t)

-- a domain with its contracts, under their least certificate
abbrev pub drawn_by : Result (Domain × List Contract) DomainFault → Result (List ℕ) DomainFault
drawn_by (Ok parsed) = Ok (drawing_of (least_table parsed))
drawn_by (Err fault) = Err fault

-- what a domain text says, or its first fault
abbrev pub drawn_in : List ℕ → Result (List ℕ) DomainFault
drawn_in text = drawn_by (parse_of text)
