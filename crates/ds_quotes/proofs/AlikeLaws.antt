-- Contracts that are alike, behind the others of a table: what they bring to each meter.
use Rattle.std.proofs.Common.{arith, ◌≡◌, ℕ, zero, suc, ◌+◌, ◌<◌, List, [], ◌∷◌, ◌++◌, length, get_or, None, refl, sym, ap, subst, ◌∙◌, IsTrue, bytes_eq}
use Rattle.std.specs.List.{AllByRecursion, IsDistinct, fold}
use Rattle.std.specs.Map.{keys_of}
use Rattle.std.proofs.lemmas.List.{append-nil, append_assoc, length-append, length-map}
use Rattle.ds_domain_base.specs.Domains.{Domain}
use Rattle.ds_domain_base.specs.Routes.{IsRoute, jitters_in, route_of}
use Rattle.ds_domain_base.specs.Sent.{has_peak}
use Rattle.ds_domain_base.specs.declared.contract.Contract.{Contract}
use Rattle.ds_domain_base.specs.declared.route.Leg.{Leg}
use Rattle.ds_certificate.specs.Bounds.{IsCertificate, entering, fits, least, least_behind, least_of}
use Rattle.ds_certificate.specs.Columns.{Bound}
use Rattle.ds_certificate.specs.Sources.{source_on}
use Rattle.ds_certificate.specs.declared.source.Source.{Source}
use Rattle.ds_certificate.proofs.LeastLaws.{HasShape-least, Meets-least}
use Rattle.ds_checker.specs.Acceptance.{IsAcceptable, Table}
use Rattle.ds_checker.specs.Changes.{with_contract}
use Rattle.ds_checker.specs.Loads.{shares_at}
use Rattle.ds_checker.specs.Routed.{bound_at, with_legs}
use Rattle.ds_checker.specs.Sums.{loads_of, share_by, sums_of, sums_tests, with_share}
use Rattle.ds_checker.specs.Tests.{first_failed}
use Rattle.ds_checker.specs.declared.load.Loads.{Loads}
use Rattle.ds_checker.proofs.AcceptanceLaws.{all_carry}
use Rattle.ds_checker.proofs.ChangeLaws.{sums-grown, sums_pass}
use Rattle.ds_checker.proofs.LoadLaws.{sums_tests-are}
use Rattle.ds_checker.proofs.RoutedLaws.{routed-least}
use Rattle.ds_checker.proofs.WalkLaws.{held-at}
use Rattle.ds_quotes.specs.Counts.{IsLike, with_each}
use Rattle.ds_quotes.proofs.LesserTables.{certificate_more}

-- so many times, one after the other
abbrev pub times : {X : Type 0} → ℕ → (X → X) → X → X
times zero f x = x
times (suc n) f x = times n f (f x)

-- ---- the way of a contract, and what its traffic keeps on it
abbrev pub way : Domain → Contract → List Leg
way d c = (route_of d c).legs

abbrev pub keeps : Domain → Contract → Source
keeps d c = source_on d (route_of d c) c.terms

abbrev pub bounds_on : Domain → Contract → List Bound
bounds_on d c = least_behind (keeps d c) (jitters_in (way d c)) (entering (keeps d c))

-- a contract with the port, the path and the terms of another
abbrev pub as_like : Contract → Contract → Contract
as_like c o = record o { port = c.port; path = c.path; terms = c.terms }

pub like-is : (c o : Contract) → IsLike c o → o ≡ as_like c o
like-is c o like =
    ap (λ port. record o { port = port }) like.port
    ∙ ap (λ path. record o { port = c.port; path = path }) like.path
    ∙ ap (λ terms. record o { port = c.port; path = c.path; terms = terms }) like.terms

-- ---- one contract more that is like another
one-like : (t : Table) (c o : Contract) → IsTrue (fits t.domain c) → IsDistinct bytes_eq (keys_of t.domain.meters) → length t.certificate ≡ length t.contracts
    → with_legs (keeps t.domain c) (has_peak c.terms) (way t.domain c) (bounds_on t.domain c) (loads_of t)
    ≡ loads_of (with_contract t (as_like c o) (least_of t.domain (as_like c o)))
one-like t c o fit apart long =
    let d = t.domain in
    let own = as_like c o in
    routed-least d own (route_of d c) c.terms (keeps d c) (has_peak c.terms) (way d c) (loads_of t) refl refl refl refl fit apart
    (length-map d.meters (λ entry. sums_of entry.1.skew (shares_at d entry.0 t.contracts t.certificate)))
    ∙ sums-grown d t.contracts t.certificate own (least_of d own) d.meters long

-- ---- several, one after the other
each-more : (t : Table) (o : Contract) (others : List Contract) → with_each t (o ∷ others) ≡ with_each (with_contract t o (least_of t.domain o)) others
each-more t o others =
    ap (λ contracts. record t { contracts = contracts; certificate = t.certificate ++ (least_of t.domain o ∷ least t.domain others) }) (sym (append_assoc t.contracts (o ∷ []) others))
    ∙ ap (λ rows. record t { contracts = t.contracts ++ o ∷ [] ++ others; certificate = rows }) (sym (append_assoc t.certificate (least_of t.domain o ∷ []) (least t.domain others)))

pub none-more : (t : Table) → with_each t [] ≡ t
none-more t =
    ap (λ contracts. record t { contracts = contracts; certificate = t.certificate ++ [] }) (append-nil t.contracts)
    ∙ ap (λ rows. record t { certificate = rows }) (append-nil t.certificate)

-- what a meter at a place is brought with one more
abbrev pub step : Domain → Contract → ℕ → Loads → Loads
step d c j l = fold with_share l (share_by (keeps d c) (has_peak c.terms) (bound_at j (way d c) (bounds_on d c)))

pub each-at : (t : Table) (c : Contract) (others : List Contract) (j : ℕ) (l : Loads) → IsTrue (fits t.domain c) → IsDistinct bytes_eq (keys_of t.domain.meters)
    → IsRoute (route_of t.domain c) → length t.certificate ≡ length t.contracts → AllByRecursion (IsLike c) others → j < length t.domain.meters
    → get_or (loads_of (with_each t others)) j l ≡ times (length others) (step t.domain c j) (get_or (loads_of t) j l)
each-at t c [] j l fit apart route long like inside = ap (λ (u : Table). get_or (loads_of u) j l) (none-more t)
each-at t c (o ∷ others) j l fit apart route long like inside =
    let d = t.domain in
    let own = as_like c o in
    let next = with_contract t own (least_of d own) in
    let within : j < length (loads_of t) = omega (arith, inside, length-map d.meters (λ entry. sums_of entry.1.skew (shares_at d entry.0 t.contracts t.certificate))) in
    let longer : length next.certificate ≡ length next.contracts =
    omega (arith, long, length-append t.certificate (least_of d own ∷ []), length-append t.contracts (own ∷ [])) in
    let here : get_or (loads_of next) j l ≡ step d c j (get_or (loads_of t) j l) =
    ap (λ list. get_or list j l) (sym (one-like t c o fit apart long))
    ∙ held-at j (way d c) (bounds_on d c) (keeps d c) (has_peak c.terms) (loads_of t) l within route.once in
    ap (λ (u : Table). get_or (loads_of u) j l) (each-more t o others)
    ∙ ap (λ x. get_or (loads_of (with_each (with_contract t x (least_of d x)) others)) j l) (like-is c o like.0)
    ∙ each-at next c others j l fit apart route longer like.1 inside
    ∙ ap (times (length others) (step d c j)) here

-- ---- the certificate says enough of each
fits-like : (d : Domain) (c o : Contract) → IsLike c o → IsTrue (fits d c) → IsTrue (fits d o)
fits-like d c o like fit = subst (λ x. IsTrue (fits d x)) (sym (like-is c o like)) fit

each-certified : (d : Domain) (contracts : List Contract) (rows : List (List Bound)) (c : Contract) (others : List Contract) → IsTrue (fits d c) → AllByRecursion (IsLike c) others
    → IsCertificate d contracts rows → IsCertificate d (contracts ++ others) (rows ++ least d others)
each-certified d contracts rows c [] fit like met =
    subst (λ list. IsCertificate d list (rows ++ [])) (sym (append-nil contracts)) (subst (IsCertificate d contracts) (sym (append-nil rows)) met)
each-certified d contracts rows c (o ∷ others) fit like met =
    subst (λ list. IsCertificate d list (rows ++ (least_of d o ∷ least d others))) (append_assoc contracts (o ∷ []) others)
    (subst (IsCertificate d (contracts ++ o ∷ [] ++ others)) (append_assoc rows (least_of d o ∷ []) (least d others))
    (each-certified d (contracts ++ o ∷ []) (rows ++ least_of d o ∷ []) c others fit like.1
    (certificate_more d contracts rows o (least_of d o) met (HasShape-least d o (fits-like d c o like.0 fit), Meets-least d o))))

-- so the table is acceptable exactly where the sums of all meters pass their tests
pub each-passes : (t : Table) (others : List Contract) → IsAcceptable (with_each t others)
    → first_failed (sums_tests t.domain.meters (loads_of (with_each t others))) ≡ None
each-passes t others met = sums_pass (with_each t others) (loads_of (with_each t others)) met refl

pub passes-each : (t : Table) (c : Contract) (others : List Contract) → IsAcceptable t → IsTrue (fits t.domain c) → AllByRecursion (IsLike c) others
    → first_failed (sums_tests t.domain.meters (loads_of (with_each t others))) ≡ None → IsAcceptable (with_each t others)
passes-each t c others met fit like passed =
    let u = with_each t others in (
      each-certified t.domain t.contracts t.certificate c others fit like met.0,
      all_carry t.domain u.contracts u.certificate t.domain.meters (sym (ap first_failed (sums_tests-are t.domain u.contracts u.certificate t.domain.meters)) ∙ passed),
    )
