-- What the types of names and of domains keep.
use Rattle.std.specs.Prelude.{◌≡◌, ℕ, ◌≤◌, List, length, IsTrue, IsSome, None, bytes_eq}
use Rattle.std.specs.List.{IsDistinct}
use Rattle.std.specs.Map.{keys_of}
use Rattle.ds_domain_base.specs.Domains.{Domain, is_meter, is_taken, link_of, port_of, same_ends}
use Rattle.ds_domain_base.specs.Names.{is_name}

-- Names are names, and differ; none is that of a meter and of a port; a link goes from a meter or a port to a meter,
-- and there is one at most from a name to a name.
pub record IsDomain (d : Domain) : Type 0 where
  pub few_meters : length d.meters ≤ 1024
  pub few_ports : length d.ports ≤ 1024
  pub few_links : length d.links ≤ 65536
  pub named : (name : List ℕ) → IsTrue (is_taken d name) → IsTrue (is_name name)
  pub meters_differ : IsDistinct bytes_eq (keys_of d.meters)
  pub ports_differ : IsDistinct bytes_eq (keys_of d.ports)
  pub apart : (name : List ℕ) → IsTrue (is_meter d name) → port_of d name ≡ None
  pub links_differ : IsDistinct same_ends (keys_of d.links)
  pub linked : (from to : List ℕ) → IsSome (link_of d from to) → IsTrue (is_taken d from) × IsTrue (is_meter d to)
