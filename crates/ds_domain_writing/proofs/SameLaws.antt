-- When two values are the same.
use Rattle.std.proofs.Common.{◌≡◌}
use Rattle.flow_classifier.specs.declared.rule.Rule.{Rule}
use Rattle.ds_domain_base.specs.declared.contract.Contract.{Contract}

-- contracts that agree in each part
pub same_contract : (a b : Contract) → (a.port ≡ b.port) × (a.path ≡ b.path) × (a.class ≡ b.class)
    → (a.name ≡ b.name) × (a.terms ≡ b.terms) × (a.lifetime ≡ b.lifetime) → a.rule ≡ b.rule → a ≡ b
same_contract a b way sale rule i = record {
  name = sale.0 i;
  terms = sale.1 i;
  port = way.0 i;
  path = way.1 i;
  class = way.2 i;
  lifetime = sale.2 i;
  rule = rule i;
}

-- rules that agree in each part
pub same_rule : (a b : Rule) → (a.source ≡ b.source) × (a.target ≡ b.target) × (a.protocol ≡ b.protocol)
    → (a.source_ports ≡ b.source_ports) × (a.target_ports ≡ b.target_ports) × (a.dscp ≡ b.dscp) → a ≡ b
same_rule a b ends ports i = record {
  source = ends.0 i;
  target = ends.1 i;
  protocol = ends.2 i;
  source_ports = ports.0 i;
  target_ports = ports.1 i;
  dscp = ports.2 i;
}
