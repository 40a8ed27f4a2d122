-- What contracts bring to a meter, and what of it is held against what the meter has.
use Rattle.std.specs.Prelude.{ℕ, Bool, List, [], ◌∷◌, ◌++◌, drop, filter, map, option_map, option_to_list, Option, None, Some, if◌then◌else◌, bytes_eq}
use Rattle.std.specs.List.{list_any}
use Rattle.moment_core.specs.declared.column.Column.{Column}
use Rattle.envelope_core.specs.Curve.{Curve, total, widened}
use Rattle.ds_domain_base.specs.Parameters.{Parameters}
use Rattle.ds_domain_base.specs.Parameters.TheVariants.{SrTcm, TrTcm, Rfc4115}
use Rattle.ds_domain_base.specs.Domains.{Domain}
use Rattle.ds_domain_base.specs.Sent.{has_peak}
use Rattle.ds_domain_base.specs.declared.contract.Contract.{Contract}
use Rattle.ds_certificate.specs.Columns.{Bound, bytes_in, envelope_in}
use Rattle.ds_certificate.specs.Sources.{source_of}
use Rattle.ds_certificate.specs.declared.source.Source.{Source}

-- what a contract brings to a meter: what its traffic kept where it entered, the bound of the hop into the meter, and
-- whether it may send yellow packets
pub record Share : Type 0 where
  pub source : Source
  pub bound : Bound
  pub has_peak : Bool

-- the bound that stands for a meter, where a path leads through it
unfoldable pub bound_into : List ℕ → List (List ℕ) → List Bound → Option Bound
bound_into name (to ∷ path) (bound ∷ bounds) = if bytes_eq name to then Some bound else bound_into name path bounds
bound_into name path bounds = None

-- the share of a contract, none where it passes by; its first bound is that of its port
abbrev pub share_of : Domain → List ℕ → Contract → List Bound → List Share
share_of d name c bounds = option_to_list (option_map
    (λ bound. record { source = source_of d c; bound = bound; has_peak = has_peak c.terms })
    (bound_into name c.path (drop 1 bounds)))

-- the shares of contracts in order
unfoldable pub shares_at : Domain → List ℕ → List Contract → List (List Bound) → List Share
shares_at d name (c ∷ contracts) (bounds ∷ rows) = share_of d name c bounds ++ shares_at d name contracts rows
shares_at d name contracts rows = []

-- what a share keeps where it arrives at the meter, in a column
abbrev pub kept : Column → Share → Curve
kept column share = record { rate = (envelope_in column share.source).rate; burst = bytes_in column share.bound }

-- what shares keep together where the meter uses them: each is widened by the meter's skew, and they add
abbrev pub load : Column → ℕ → List Share → Curve
load column skew shares = total (map (λ share. widened skew (kept column share)) shares)

-- The shares that are held against what a meter has for green and yellow packets. With a single rate all of them, if
-- one may send yellow packets, else none; with a committed and an excess rate those that may.
abbrev pub counted : Parameters → List Share → List Share
counted (SrTcm p) shares = if list_any (λ share. share.has_peak) shares then shares else []
counted (TrTcm p) shares = shares
counted (Rfc4115 p) shares = filter (λ share. share.has_peak) shares
