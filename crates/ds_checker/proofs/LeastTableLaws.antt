-- Where any certificate is acceptable, the least one is: lower bounds bring less to each meter.
use Rattle.std.proofs.Common.{◌≡◌, ◌≤◌, ℕ, Bool, true, List, [], ◌∷◌, ◌++◌, refl, sym, subst, ◌∙◌, arith, inl, inr, drop, filter, map, sum_by, bytes_eq}
use Rattle.std.specs.List.{AllZip, list_all, list_any}
use Rattle.std.proofs.lemmas.Bool.{cases_Bool, and_from}
use Rattle.std.proofs.lemmas.List.Elements.{All-weaker}
use Rattle.std.proofs.lemmas.List.Sums.{sum_by-cons}
use Rattle.envelope_core.specs.Curve.{Curve, widened}
use Rattle.ds_domain_base.specs.Limits.{held_column}
use Rattle.ds_domain_base.specs.Parameters.{Parameters}
use Rattle.ds_domain_base.specs.Parameters.TheVariants.{SrTcm, TrTcm, Rfc4115}
use Rattle.ds_domain_base.specs.Domains.{Domain}
use Rattle.ds_domain_base.specs.Sent.{has_peak}
use Rattle.ds_domain_base.specs.declared.contract.Contract.{Contract}
use Rattle.ds_domain_base.specs.declared.parts.Meter.{Meter}
use Rattle.ds_certificate.specs.Bounds.{AreAtMost, IsAtMost, IsCertificate, fits, least, least_along, least_of}
use Rattle.moment_core.specs.declared.column.Column.{Column}
use Rattle.moment_core.specs.declared.column.Column.TheVariants.{Green}
use Rattle.ds_certificate.specs.Columns.{Bound, bytes_in, envelope_in}
use Rattle.ds_certificate.proofs.ColumnLaws.{in_column}
use Rattle.ds_certificate.specs.Sources.{jitters_along, source_of}
use Rattle.ds_certificate.specs.declared.source.Source.{Source}
use Rattle.ds_certificate.proofs.LeastLaws.{IsCertificate-least, least-below}
use Rattle.ds_certificate.proofs.LesserLaws.{IsUnder, KeepsLess, KeepsLess-itself, least_along-less}
use Rattle.ds_certificate.proofs.Volumes.{bytes_over-rate}
use Rattle.ds_checker.specs.Acceptance.{Carries, IsAcceptable}
use Rattle.ds_checker.specs.Loads.{Share, bound_into, counted, kept, load, share_of, shares_at}
use Rattle.ds_checker.specs.Sums.{share_by}

-- a share that brings no more than another
pub record IsLess (a b : Share) : Type 0 where
  pub source : KeepsLess a.source b.source
  pub bound : IsAtMost a.bound b.bound
  pub peak : a.has_peak ≡ b.has_peak

abbrev pub AreLess : List Share → List Share → Type 0
AreLess xs ys = AllZip IsLess xs ys

pub AreLess-append : (xs ys more others : List Share) → AreLess xs ys → AreLess more others → AreLess (xs ++ more) (ys ++ others)
AreLess-append [] [] more others low lower = lower
AreLess-append [] (y ∷ ys) more others low lower = absurd low
AreLess-append (x ∷ xs) [] more others low lower = absurd low
AreLess-append (x ∷ xs) (y ∷ ys) more others low lower = (low.0, AreLess-append xs ys more others low.1 lower)

share_into : (source more : Source) (peak : Bool) (name : List ℕ) (path : List (List ℕ)) (low high : List Bound) → KeepsLess source more → AllZip IsAtMost low high
    → AreLess (share_by source peak (bound_into name path low)) (share_by more peak (bound_into name path high))
unfolding bound_into
share_into source more peak name [] low high keeps less = tt
share_into source more peak name (to ∷ path) [] [] keeps less = tt
share_into source more peak name (to ∷ path) [] (h ∷ high) keeps less = absurd less
share_into source more peak name (to ∷ path) (l ∷ low) [] keeps less = absurd less
share_into source more peak name (to ∷ path) (l ∷ low) (h ∷ high) keeps less = elim (cases_Bool (bytes_eq name to)) [
  | inl same ↦ rw same (record { source = keeps; bound = less.0; peak = refl }, tt)
  | inr other ↦ rw other (share_into source more peak name path low high keeps less.1)
]

behind_first : (low high : List Bound) → AllZip IsAtMost low high → AllZip IsAtMost (drop 1 low) (drop 1 high)
behind_first [] [] less = tt
behind_first [] (h ∷ high) less = absurd less
behind_first (l ∷ low) [] less = absurd less
behind_first (l ∷ low) (h ∷ high) less = less.1

shares_less : (d : Domain) (name : List ℕ) (contracts : List Contract) (low high : List (List Bound)) → AreAtMost low high
    → AreLess (shares_at d name contracts low) (shares_at d name contracts high)
unfolding shares_at
shares_less d name [] low high less = tt
shares_less d name (c ∷ contracts) [] [] less = tt
shares_less d name (c ∷ contracts) [] (h ∷ high) less = absurd less
shares_less d name (c ∷ contracts) (l ∷ low) [] less = absurd less
shares_less d name (c ∷ contracts) (l ∷ low) (h ∷ high) less =
    AreLess-append (share_of d name c l) (share_of d name c h) (shares_at d name contracts low) (shares_at d name contracts high)
    (share_into (source_of d c) (source_of d c) (has_peak c.terms) name c.path (drop 1 l) (drop 1 h) (KeepsLess-itself (source_of d c)) (behind_first l h less.0))
    (shares_less d name contracts low high less.1)

-- what two contracts bring that go one way, of which the one keeps no more than the other
pub record IsLesser (d : Domain) (a b : Contract) : Type 0 where
  pub port : a.port ≡ b.port
  pub path : a.path ≡ b.path
  pub peak : has_peak a.terms ≡ has_peak b.terms
  pub source : KeepsLess (source_of d a) (source_of d b)

least_bounds_less : (d : Domain) (a b : Contract) → IsLesser d a b → AllZip IsAtMost (least_of d a) (least_of d b)
least_bounds_less d a b lesser =
    subst (λ path. AllZip IsAtMost (least_along (source_of d a) (jitters_along d a.port a.path)) (least_along (source_of d b) (jitters_along d b.port path))) lesser.path
    (subst (λ port. AllZip IsAtMost (least_along (source_of d a) (jitters_along d a.port a.path)) (least_along (source_of d b) (jitters_along d port a.path))) lesser.port
    (least_along-less (source_of d a) (source_of d b) (jitters_along d a.port a.path) lesser.source))

pub share_less : (d : Domain) (name : List ℕ) (a b : Contract) → IsLesser d a b → AreLess (share_of d name a (least_of d a)) (share_of d name b (least_of d b))
share_less d name a b lesser =
    let low = drop 1 (least_of d a) in
    let high = drop 1 (least_of d b) in
    subst (λ path. AreLess (share_of d name a (least_of d a)) (share_by (source_of d b) (has_peak b.terms) (bound_into name path high))) lesser.path
    (subst (λ peak. AreLess (share_of d name a (least_of d a)) (share_by (source_of d b) peak (bound_into name a.path high))) lesser.peak
    (share_into (source_of d a) (source_of d b) (has_peak a.terms) name a.path low high lesser.source (behind_first (least_of d a) (least_of d b) (least_bounds_less d a b lesser))))

sums_less : (f : Curve → ℕ) (g : Share → Curve) → ((a b : Share) → IsLess a b → f (g a) ≤ f (g b)) → (xs ys : List Share) → AreLess xs ys
    → sum_by f (map g xs) ≤ sum_by f (map g ys)
sums_less f g below [] [] less = omega arith
sums_less f g below [] (y ∷ ys) less = absurd less
sums_less f g below (x ∷ xs) [] less = absurd less
sums_less f g below (x ∷ xs) (y ∷ ys) less =
    let first = below x y less.0 in
    let later = sums_less f g below xs ys less.1 in
    let left = sum_by-cons f (g x) (map g xs) in
    let right = sum_by-cons f (g y) (map g ys) in
    omega (arith, first, later, left, right)

low_rate : (column : Column) (a b : Source) → KeepsLess a b → (envelope_in column a).rate ≤ (envelope_in column b).rate
low_rate column a b keeps = (in_column (λ k. IsUnder (envelope_in k a) (envelope_in k b)) keeps column).0

load_rate : (column : Column) (skew : ℕ) (xs ys : List Share) → AreLess xs ys → (load column skew xs).rate ≤ (load column skew ys).rate
load_rate column skew xs ys less =
    sums_less (λ curve. curve.rate) (λ share. widened skew (kept column share)) (λ a b is. low_rate column a.source b.source is.source) xs ys less

load_burst : (column : Column) (skew : ℕ) (xs ys : List Share) → AreLess xs ys → (load column skew xs).burst ≤ (load column skew ys).burst
load_burst column skew xs ys less =
    sums_less (λ curve. curve.burst) (λ share. widened skew (kept column share))
    (λ a b is. omega (
      arith,
      in_column (λ k. bytes_in k a.bound ≤ bytes_in k b.bound) is.bound column,
      bytes_over-rate (envelope_in column a.source).rate (envelope_in column b.source).rate skew (low_rate column a.source b.source is.source),
    )) xs ys less

-- those that are held against a meter
peaked_less : (xs ys : List Share) → AreLess xs ys → AreLess (filter (λ share. share.has_peak) xs) (filter (λ share. share.has_peak) ys)
peaked_less [] [] less = tt
peaked_less [] (y ∷ ys) less = absurd less
peaked_less (x ∷ xs) [] less = absurd less
peaked_less (x ∷ xs) (y ∷ ys) less = elim (cases_Bool x.has_peak) [
  | inl peak ↦ rw (peak, sym less.0.peak ∙ peak) (record { source = less.0.source; bound = less.0.bound; peak = refl }, peaked_less xs ys less.1)
  | inr none ↦ rw (none, sym less.0.peak ∙ none) (peaked_less xs ys less.1)
]

any_same : (xs ys : List Share) → AreLess xs ys → list_any (λ share. share.has_peak) xs ≡ list_any (λ share. share.has_peak) ys
any_same [] [] less = refl
any_same [] (y ∷ ys) less = absurd less
any_same (x ∷ xs) [] less = absurd less
any_same (x ∷ xs) (y ∷ ys) less = rw (less.0.peak, any_same xs ys less.1) refl

counted_less : (p : Parameters) (xs ys : List Share) → AreLess xs ys → AreLess (counted p xs) (counted p ys)
counted_less (SrTcm p) xs ys less = elim (cases_Bool (list_any (λ share. share.has_peak) xs)) [
  | inl peak ↦ rw (peak, sym (any_same xs ys less) ∙ peak) less
  | inr none ↦ rw (none, sym (any_same xs ys less) ∙ none) tt
]
counted_less (TrTcm p) xs ys less = less
counted_less (Rfc4115 p) xs ys less = peaked_less xs ys less

pub Carries-less : (m : Meter) (xs ys : List Share) → AreLess xs ys → Carries m ys → Carries m xs
Carries-less m xs ys less met =
    let all = counted_less m.parameters xs ys less in (
      (omega (arith, load_rate Green m.skew xs ys less, met.0.0), omega (arith, load_burst Green m.skew xs ys less, met.0.1)),
      (
        omega (arith, load_rate (held_column m.parameters) m.skew (counted m.parameters xs) (counted m.parameters ys) all, met.1.0),
        omega (arith, load_burst (held_column m.parameters) m.skew (counted m.parameters xs) (counted m.parameters ys) all, met.1.1),
      ),
    )

pub all_fit : (d : Domain) (contracts : List Contract) (rows : List (List Bound)) → IsCertificate d contracts rows → list_all (fits d) contracts ≡ true
all_fit d [] [] met = refl
all_fit d [] (bounds ∷ rows) met = absurd met
all_fit d (c ∷ contracts) [] met = absurd met
all_fit d (c ∷ contracts) (bounds ∷ rows) met = and_from (fits d c) (list_all (fits d) contracts) met.0.0.0 (all_fit d contracts rows met.1)

pub least_accepted : (d : Domain) (contracts : List Contract) (rows : List (List Bound))
    → IsAcceptable (record { domain = d; contracts = contracts; certificate = rows })
    → IsAcceptable (record { domain = d; contracts = contracts; certificate = least d contracts })
least_accepted d contracts rows met =
    let less = least-below d contracts rows met.0 in (
      IsCertificate-least d contracts (all_fit d contracts rows met.0),
      All-weaker (λ entry. Carries entry.1 (shares_at d entry.0 contracts rows)) (λ entry. Carries entry.1 (shares_at d entry.0 contracts (least d contracts)))
          (λ entry carries. Carries-less entry.1 (shares_at d entry.0 contracts (least d contracts)) (shares_at d entry.0 contracts rows)
          (shares_less d entry.0 contracts (least d contracts) rows less) carries)
          d.meters met.1,
    )
