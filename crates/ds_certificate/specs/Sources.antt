-- What a contract's traffic keeps where it enters a domain, and by how much delays differ on its way.
use Rattle.std.specs.Prelude.{ℕ, List, [], ◌∷◌, None, Some, unwrap_or}
use Rattle.envelope_core.specs.Curve.{Curve, widened}
use Rattle.moment_core.specs.declared.column.Column.{Column}
use Rattle.moment_core.specs.declared.column.Column.TheVariants.{Green, All, Excess}
use Rattle.ds_domain_base.specs.Envelopes.{output_in}
use Rattle.ds_domain_base.specs.Domains.{Domain, jitter_of, link_of, port_of, skew_of}
use Rattle.ds_domain_base.specs.Routes.{Route}
use Rattle.ds_domain_base.specs.declared.contract.Contract.{Contract}
use Rattle.ds_domain_base.specs.declared.parts.Version.{Version}
use Rattle.ds_domain_base.specs.declared.parts.Version.TheVariants.{One, Two, Three}
use Rattle.ds_domain_base.specs.declared.terms.Peak.{Peak}
use Rattle.ds_domain_base.specs.declared.terms.Profile.{Profile}
use Rattle.ds_domain_base.specs.declared.terms.Terms.{Terms}
use Rattle.ds_domain_base.specs.declared.terms.Terms.TheVariants.{Trusted, Policed}
use Rattle.ds_certificate.specs.declared.source.Source.{Source}

abbrev pub curve_of : Profile → Curve
curve_of p = record { rate = p.rate; burst = p.burst }

-- what its yellow packets keep on their own: what is said of them, or else what green and yellow ones keep together
abbrev pub excess_profile : Peak → Profile
excess_profile p = unwrap_or p.excess p.profile

-- the column that speaks of what an edge lets through yellow: in the first version the one of green and yellow packets
abbrev pub edge_column : Version → Column
edge_column One = All
edge_column Two = Excess
edge_column Three = Excess

-- What traffic keeps where it enters at a port with a skew. Trusted traffic keeps what it is trusted with: green and
-- yellow packets together the peak, or without a peak what green ones keep. Policed traffic keeps what leaves the meter
-- at the edge, widened by the skew.
abbrev pub source_by : Version → ℕ → Terms → Source
source_by version skew (Trusted committed None) =
    record { green = curve_of committed; all = curve_of committed; excess = curve_of committed }
source_by version skew (Trusted committed (Some peak)) = record {
  green = curve_of committed;
  all = curve_of peak.profile;
  excess = curve_of (excess_profile peak);
}
source_by version skew (Policed parameters mode) = record {
  green = widened skew (output_in Green parameters);
  all = widened skew (output_in All parameters);
  excess = widened skew (output_in (edge_column version) parameters);
}

-- what traffic on these terms keeps where it enters a domain by a route
abbrev pub source_on : Domain → Route → Terms → Source
source_on d route terms = source_by d.version route.skew terms

-- what a contract's traffic keeps where it enters a domain
unfoldable pub source_of : Domain → Contract → Source
source_of d c = source_by d.version (skew_of (port_of d c.port)) c.terms

-- the jitters of the links from a name on along a path
unfoldable pub jitters_along : Domain → List ℕ → List (List ℕ) → List ℕ
jitters_along d from [] = []
jitters_along d from (to ∷ rest) = jitter_of (link_of d from to) ∷ jitters_along d to rest

-- the jitters of a contract's links, of which the first goes from its port to its first meter
abbrev pub jitters_of : Domain → Contract → List ℕ
jitters_of d c = jitters_along d c.port c.path
