-- Acceptance does not look at lifetimes.
use Rattle.std.proofs.Common.{arith, ◌≡◌, ℕ, zero, suc, ◌<◌, List, [], ◌∷◌, ◌++◌, length, map, get_or, set, refl, sym, ap, subst, ◌∙◌, All}
use Rattle.std.specs.List.{AllByRecursion}
use Rattle.std.proofs.lemmas.List.Elements.{All-weaker}
use Rattle.ds_domain_base.specs.Domains.{Domain}
use Rattle.ds_domain_base.specs.Lifetimes.{Span}
use Rattle.ds_domain_base.specs.declared.contract.Contract.{Contract}
use Rattle.ds_domain_base.specs.declared.parts.Meter.{Meter}
use Rattle.ds_certificate.specs.Bounds.{IsCertificate}
use Rattle.ds_certificate.specs.Columns.{Bound}
use Rattle.ds_certificate.specs.Sources.{source_of}
use Rattle.ds_checker.specs.Acceptance.{Carries, IsAcceptable, Table}
use Rattle.ds_checker.specs.Changes.{lasting, lasting_at, with_lifetime}
use Rattle.ds_checker.specs.Loads.{shares_at, share_of}
use Rattle.ds_checker.specs.Sums.{AreSmall, IsKept, IsSmall, IsSound, sums_of}
use Rattle.ds_checker.specs.declared.load.Loads.{Loads}
use Rattle.ds_checker.proofs.ChangeLaws.{table}
use Rattle.ds_checker.proofs.AcceptanceLaws.{CarriesAt}

-- a contract that is written over
pub lasting-set : (contracts : List Contract) (i : ℕ) (lifetime : Span) (c : Contract) → i < length contracts → c ≡ get_or contracts i c
    → set contracts i (lasting lifetime c) ≡ lasting_at i lifetime contracts
unfolding lasting_at
lasting-set [] i lifetime c inside is = absurd (omega (arith, inside))
lasting-set (own ∷ contracts) zero lifetime c inside is = ap (λ x. lasting lifetime x ∷ contracts) is
lasting-set (own ∷ contracts) (suc i) lifetime c inside is = ap (λ rest. own ∷ rest) (lasting-set contracts i lifetime c (omega (arith, inside)) is)

shares-lasting : (d : Domain) (name : List ℕ) (contracts : List Contract) (rows : List (List Bound)) (i : ℕ) (lifetime : Span)
    → shares_at d name (lasting_at i lifetime contracts) rows ≡ shares_at d name contracts rows
unfolding lasting_at shares_at source_of
shares-lasting d name [] rows zero lifetime = refl
shares-lasting d name [] rows (suc i) lifetime = refl
shares-lasting d name (c ∷ contracts) [] zero lifetime = refl
shares-lasting d name (c ∷ contracts) [] (suc i) lifetime = refl
shares-lasting d name (c ∷ contracts) (row ∷ rows) zero lifetime = refl
shares-lasting d name (c ∷ contracts) (row ∷ rows) (suc i) lifetime = ap (λ rest. share_of d name c row ++ rest) (shares-lasting d name contracts rows i lifetime)

certified-lasting : (d : Domain) (contracts : List Contract) (rows : List (List Bound)) (i : ℕ) (lifetime : Span) → IsCertificate d contracts rows
    → IsCertificate d (lasting_at i lifetime contracts) rows
unfolding lasting_at source_of
certified-lasting d [] rows zero lifetime met = met
certified-lasting d [] rows (suc i) lifetime met = met
certified-lasting d (c ∷ contracts) [] i lifetime met = absurd met
certified-lasting d (c ∷ contracts) (row ∷ rows) zero lifetime met = met
certified-lasting d (c ∷ contracts) (row ∷ rows) (suc i) lifetime met = (met.0, certified-lasting d contracts rows i lifetime met.1)

carried-lasting : (d : Domain) (contracts : List Contract) (rows : List (List Bound)) (i : ℕ) (lifetime : Span) (meters : List (List ℕ × Meter))
    → All (λ entry. Carries entry.1 (shares_at d entry.0 contracts rows)) meters → All (λ entry. Carries entry.1 (shares_at d entry.0 (lasting_at i lifetime contracts) rows)) meters
carried-lasting d contracts rows i lifetime =
    All-weaker (CarriesAt d contracts rows) (CarriesAt d (lasting_at i lifetime contracts) rows) (λ entry. subst (Carries entry.1) (sym (shares-lasting d entry.0 contracts rows i lifetime)))

pub acceptable-lasting : (t : Table) (i : ℕ) (lifetime : Span) → IsAcceptable t → IsAcceptable (with_lifetime t i lifetime)
acceptable-lasting t i lifetime met =
    (certified-lasting t.domain t.contracts t.certificate i lifetime met.0, carried-lasting t.domain t.contracts t.certificate i lifetime t.domain.meters met.1)

loads-lasting : (d : Domain) (contracts : List Contract) (rows : List (List Bound)) (i : ℕ) (lifetime : Span) (meters : List (List ℕ × Meter))
    → map (λ entry. sums_of entry.1.skew (shares_at d entry.0 contracts rows)) meters
    ≡ map (λ entry. sums_of entry.1.skew (shares_at d entry.0 (lasting_at i lifetime contracts) rows)) meters
loads-lasting d contracts rows i lifetime [] = refl
loads-lasting d contracts rows i lifetime (entry ∷ meters) =
    ap (λ shares. sums_of entry.1.skew shares ∷ map (λ other. sums_of other.1.skew (shares_at d other.0 contracts rows)) meters) (sym (shares-lasting d entry.0 contracts rows i lifetime))
    ∙ ap (λ rest. sums_of entry.1.skew (shares_at d entry.0 (lasting_at i lifetime contracts) rows) ∷ rest) (loads-lasting d contracts rows i lifetime meters)

small-lasting : (d : Domain) (contracts : List Contract) (rows : List (List Bound)) (i : ℕ) (lifetime : Span) (meters : List (List ℕ × Meter))
    → AreSmall (λ name. shares_at d name contracts rows) meters → AreSmall (λ name. shares_at d name (lasting_at i lifetime contracts) rows) meters
small-lasting d contracts rows i lifetime [] small = tt
small-lasting d contracts rows i lifetime (entry ∷ meters) small =
    (subst (AllByRecursion IsSmall) (sym (shares-lasting d entry.0 contracts rows i lifetime)) small.0, small-lasting d contracts rows i lifetime meters small.1)

pub kept-lasting : (t : Table) (i : ℕ) (lifetime : Span) (sums : List Loads) → IsKept t sums → IsKept (with_lifetime t i lifetime) sums
kept-lasting t i lifetime sums kept = record {
  sums = kept.sums ∙ loads-lasting t.domain t.contracts t.certificate i lifetime t.domain.meters;
  small = small-lasting t.domain t.contracts t.certificate i lifetime t.domain.meters kept.small;
  short = kept.short;
}

pub sound-lasting : (d : Domain) (contracts new : List Contract) (rows : List (List Bound)) (sums : List Loads) (i : ℕ) (lifetime : Span) (c : Contract) → i < length contracts
    → c ≡ get_or contracts i c → new ≡ set contracts i (lasting lifetime c) → IsSound (table d contracts rows) sums
    → IsSound (table d new rows) sums
sound-lasting d contracts new rows sums i lifetime c inside is is_new sound =
    let t = table d contracts rows in
    subst (λ list. IsSound (table d list rows) sums) (sym (is_new ∙ lasting-set contracts i lifetime c inside is))
    (record { acceptable = acceptable-lasting t i lifetime sound.acceptable; kept = kept-lasting t i lifetime sums sound.kept })

pub table-lasting : (d : Domain) (contracts new : List Contract) (rows : List (List Bound)) (i : ℕ) (lifetime : Span) (c : Contract) (t : Table) → i < length contracts
    → c ≡ get_or contracts i c → new ≡ set contracts i (lasting lifetime c) → (table d contracts rows) ≡ t
    → (table d new rows) ≡ with_lifetime t i lifetime
table-lasting d contracts new rows i lifetime c t inside is is_new is_table =
    ap (λ list. table d list rows) (is_new ∙ lasting-set contracts i lifetime c inside is) ∙ ap (λ own. with_lifetime own i lifetime) is_table
