-- Contracts that fit a domain fit it with other parameters of a meter too: nothing of a way turns on them.
use Rattle.std.proofs.Common.{◌≡◌, ℕ, Bool, true, false, ◌||◌, ◌&&◌, List, [], ◌∷◌, map, Option, None, Some, is_none, not, refl, sym, ap, ap₂, ◌∙◌, bytes_eq, if◌then◌else◌}
use Rattle.std.specs.List.{list_all, list_any}
use Rattle.std.specs.Map.{lookup}
use Rattle.ds_certificate.specs.Bounds.{fits}
use Rattle.ds_domain_base.specs.Domains.{Domain, link_of, meter_of}
use Rattle.ds_domain_base.specs.Fitting.{lacks_link, names_unknown, repeats}
use Rattle.ds_domain_base.specs.Parameters.{Parameters}
use Rattle.ds_domain_base.specs.declared.contract.Contract.{Contract}
use Rattle.ds_domain_base.specs.declared.parts.Meter.{Meter}
use Rattle.ds_export.specs.Remade.{changed, with_parameters}

-- the same names are missing
missing_by : (here : Bool) (one other : Meter) (rest more : Option Meter) → is_none rest ≡ is_none more
    → is_none (if here then Some one else rest) ≡ is_none (if here then Some other else more)
missing_by true one other rest more same = refl
missing_by false one other rest more same = same

missing : (name : List ℕ) (p : Parameters) (meters : List (List ℕ × Meter)) (sought : List ℕ)
    → is_none (lookup (bytes_eq sought) (map (changed name p) meters)) ≡ is_none (lookup (bytes_eq sought) meters)
missing name p [] sought = refl
missing name p (entry ∷ meters) sought =
    missing_by (bytes_eq sought entry.0) (changed name p entry).1 entry.1 _ _ (missing name p meters sought)

unknown : (d : Domain) (name : List ℕ) (p : Parameters) (path : List (List ℕ))
    → names_unknown (with_parameters d name p) path ≡ names_unknown d path
unfolding names_unknown
unknown d name p [] = refl
unknown d name p (to ∷ path) = ap₂ ◌||◌ (missing name p d.meters to) (unknown d name p path)

-- the links are the same
lacking : (d : Domain) (name : List ℕ) (p : Parameters) (from : List ℕ) (path : List (List ℕ))
    → lacks_link (with_parameters d name p) from path ≡ lacks_link d from path
unfolding lacks_link
lacking d name p from [] = refl
lacking d name p from (to ∷ path) = ap (λ rest. is_none (link_of d from to) || rest) (lacking d name p to path)

fitting : (d : Domain) (name : List ℕ) (p : Parameters) (c : Contract) → fits (with_parameters d name p) c ≡ fits d c
fitting d name p c = rw (unknown d name p c.path, lacking d name p c.port c.path) refl

-- so do all of them
pub fitting-all : (d : Domain) (name : List ℕ) (p : Parameters) (contracts : List Contract)
    → list_all (fits (with_parameters d name p)) contracts ≡ list_all (fits d) contracts
fitting-all d name p [] = refl
fitting-all d name p (c ∷ contracts) = ap₂ ◌&&◌ (fitting d name p c) (fitting-all d name p contracts)
