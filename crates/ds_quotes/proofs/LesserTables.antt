-- Acceptable tables, of which a contract is changed to one that keeps no more.
use Rattle.std.proofs.Common.{arith, ◌≡◌, ℕ, zero, suc, ◌≤◌, true, List, [], ◌∷◌, ◌++◌, set, Some, refl, sym, ap, subst, ◌∙◌, IsTrue}
use Rattle.std.specs.List.{AllZip, list_all}
use Rattle.std.proofs.lemmas.Bool.{and_from, and_parts}
use Rattle.std.proofs.lemmas.List.Elements.{All-weaker}
use Rattle.ds_domain_base.specs.Domains.{Domain, port_of, skew_of}
use Rattle.ds_domain_base.specs.declared.contract.Contract.{Contract}
use Rattle.ds_domain_base.specs.declared.parts.Meter.{Meter}
use Rattle.ds_domain_base.specs.declared.terms.Terms.{Terms}
use Rattle.ds_certificate.specs.Bounds.{HasShape, IsAtMost, IsCertificate, Meets, fits, least, least_of}
use Rattle.ds_certificate.specs.Columns.{Bound, bytes_in}
use Rattle.ds_certificate.specs.Sources.{source_of}
use Rattle.ds_certificate.proofs.ColumnLaws.{each_of}
use Rattle.ds_certificate.proofs.LeastLaws.{HasShape-least, IsCertificate-least, Meets-least}
use Rattle.ds_certificate.proofs.LesserLaws.{KeepsLess-itself}
use Rattle.ds_checker.specs.Acceptance.{Carries, IsAcceptable, Table}
use Rattle.ds_checker.specs.Changes.{on_terms, with_contract}
use Rattle.ds_checker.specs.Loads.{Share, share_of, shares_at}
use Rattle.ds_checker.proofs.ChangeLaws.{last_shape, rows_long, shares_at-append}
use Rattle.ds_checker.proofs.LeastTableLaws.{AreLess, AreLess-append, Carries-less, IsLesser, all_fit, share_less}
use Rattle.ds_quotes.specs.Fields.{terms_with}
use Rattle.ds_quotes.specs.Quotes.{with_least}
use Rattle.ds_quotes.specs.declared.field.Field.{Field}
use Rattle.ds_quotes.proofs.LesserTerms.{terms-lower}

pub lesser-itself : (d : Domain) (c : Contract) → IsLesser d c c
lesser-itself d c = record { port = refl; path = refl; peak = refl; source = KeepsLess-itself (source_of d c) }

-- a contract with a lower value of a field keeps no more
pub lesser-on_terms : (d : Domain) (c : Contract) (field : Field) (value more : ℕ) (low high : Terms) → value ≤ more → terms_with field value c.terms ≡ Some low
    → terms_with field more c.terms ≡ Some high → IsLesser d (on_terms low c) (on_terms high c)
unfolding source_of
lesser-on_terms d c field value more low high order is are =
    let lower = terms-lower field c.terms d.version (skew_of (port_of d c.port)) value more low high order is are in
    record { port = refl; path = refl; peak = lower.1; source = lower.0 }

-- ---- contracts with their least bounds
least_shares_less : (d : Domain) (name : List ℕ) (xs ys : List Contract) → AllZip (IsLesser d) xs ys → AreLess (shares_at d name xs (least d xs)) (shares_at d name ys (least d ys))
unfolding shares_at
least_shares_less d name [] [] lesser = tt
least_shares_less d name [] (y ∷ ys) lesser = absurd lesser
least_shares_less d name (x ∷ xs) [] lesser = absurd lesser
least_shares_less d name (x ∷ xs) (y ∷ ys) lesser =
    AreLess-append (share_of d name x (least_of d x)) (share_of d name y (least_of d y)) (shares_at d name xs (least d xs)) (shares_at d name ys (least d ys))
    (share_less d name x y lesser.0) (least_shares_less d name xs ys lesser.1)

fits_too : (d : Domain) (a b : Contract) → IsLesser d a b → fits d b ≡ true → fits d a ≡ true
fits_too d a b lesser fit =
    let by_path : fits d (record a { path = b.path }) ≡ true = ap (λ port. fits d (record a { port = port; path = b.path })) lesser.port ∙ fit in
    ap (λ path. fits d (record a { path = path })) lesser.path ∙ by_path

all_fit_too : (d : Domain) (xs ys : List Contract) → AllZip (IsLesser d) xs ys → list_all (fits d) ys ≡ true → list_all (fits d) xs ≡ true
all_fit_too d [] [] lesser fit = refl
all_fit_too d [] (y ∷ ys) lesser fit = absurd lesser
all_fit_too d (x ∷ xs) [] lesser fit = absurd lesser
all_fit_too d (x ∷ xs) (y ∷ ys) lesser fit =
    let both = and_parts (fits d y) (list_all (fits d) ys) fit in
    and_from (fits d x) (list_all (fits d) xs) (fits_too d x y lesser.0 both.0) (all_fit_too d xs ys lesser.1 both.1)

pub least-accepted-too : (d : Domain) (xs ys : List Contract) → AllZip (IsLesser d) xs ys → IsAcceptable (with_least d ys) → IsAcceptable (with_least d xs)
least-accepted-too d xs ys lesser met = (
  IsCertificate-least d xs (all_fit_too d xs ys lesser (all_fit d ys (least d ys) met.0)),
  All-weaker (λ entry. Carries entry.1 (shares_at d entry.0 ys (least d ys))) (λ entry. Carries entry.1 (shares_at d entry.0 xs (least d xs)))
      (λ entry carries. Carries-less entry.1 (shares_at d entry.0 xs (least d xs)) (shares_at d entry.0 ys (least d ys)) (least_shares_less d entry.0 xs ys lesser) carries)
      d.meters met.1,
)

all_lesser : (d : Domain) (xs : List Contract) → AllZip (IsLesser d) xs xs
all_lesser d [] = tt
all_lesser d (x ∷ xs) = (lesser-itself d x, all_lesser d xs)

lesser_at : (d : Domain) (xs : List Contract) (place : ℕ) (a b : Contract) → IsLesser d a b → AllZip (IsLesser d) (set xs place a) (set xs place b)
lesser_at d [] place a b lesser = tt
lesser_at d (x ∷ xs) zero a b lesser = (lesser, all_lesser d xs)
lesser_at d (x ∷ xs) (suc place) a b lesser = (lesser-itself d x, lesser_at d xs place a b lesser)

-- a lower value of a field of the contract at a place
pub accepted-with-less : (d : Domain) (contracts : List Contract) (place : ℕ) (c : Contract) (field : Field) (value more : ℕ) (low high : Terms) → value ≤ more
    → terms_with field value c.terms ≡ Some low → terms_with field more c.terms ≡ Some high
    → IsAcceptable (with_least d (set contracts place (on_terms high c))) → IsAcceptable (with_least d (set contracts place (on_terms low c)))
accepted-with-less d contracts place c field value more low high order is are met =
    least-accepted-too d (set contracts place (on_terms low c)) (set contracts place (on_terms high c))
    (lesser_at d contracts place (on_terms low c) (on_terms high c) (lesser-on_terms d c field value more low high order is are)) met

-- ---- one contract more
pub certificate_more : (d : Domain) (contracts : List Contract) (rows : List (List Bound)) (c : Contract) (bounds : List Bound) → IsCertificate d contracts rows
    → HasShape d c bounds × Meets d c bounds → IsCertificate d (contracts ++ c ∷ []) (rows ++ bounds ∷ [])
certificate_more d [] [] c bounds met own = (own, tt)
certificate_more d [] (row ∷ rows) c bounds met own = absurd met
certificate_more d (x ∷ contracts) [] c bounds met own = absurd met
certificate_more d (x ∷ contracts) (row ∷ rows) c bounds met own = (met.0, certificate_more d contracts rows c bounds met.1 own)

bound-itself : (b : Bound) → IsAtMost b b
bound-itself b = each_of (λ column. bytes_in column b ≤ bytes_in column b) (λ column. omega arith)

itself_less : (d : Domain) (name : List ℕ) (contracts : List Contract) (rows : List (List Bound)) → AreLess (shares_at d name contracts rows) (shares_at d name contracts rows)
itself_less d name contracts rows = by (shares_at d name contracts rows)
  where
    by : (xs : List Share) → AreLess xs xs
    by [] = tt
    by (x ∷ xs) = (record { source = KeepsLess-itself x.source; bound = bound-itself x.bound; peak = refl }, by xs)

-- a table that carries a contract carries one in its place that keeps no more
pub carries-too : (t : Table) (a b : Contract) → IsLesser t.domain a b → IsAcceptable t → IsAcceptable (with_contract t b (least_of t.domain b))
    → IsAcceptable (with_contract t a (least_of t.domain a))
carries-too t a b lesser own met =
    let d = t.domain in
    let long = rows_long d t.contracts t.certificate own.0 in
    let shape = last_shape d t.contracts t.certificate b (least_of d b) long met.0 in
    let fit : IsTrue (fits d a) = fits_too d a b lesser shape.0 in (
      certificate_more d t.contracts t.certificate a (least_of d a) own.0 (HasShape-least d a fit, Meets-least d a),
      All-weaker (λ entry. Carries entry.1 (shares_at d entry.0 (t.contracts ++ b ∷ []) (t.certificate ++ least_of d b ∷ [])))
          (λ entry. Carries entry.1 (shares_at d entry.0 (t.contracts ++ a ∷ []) (t.certificate ++ least_of d a ∷ [])))
          (λ entry carries. lower entry carries)
          d.meters met.1,
    )
  where
    lower : (entry : List ℕ × Meter) → Carries entry.1 (shares_at t.domain entry.0 (t.contracts ++ b ∷ []) (t.certificate ++ least_of t.domain b ∷ []))
        → Carries entry.1 (shares_at t.domain entry.0 (t.contracts ++ a ∷ []) (t.certificate ++ least_of t.domain a ∷ []))
    lower entry carries =
        let d = t.domain in
        let long = rows_long d t.contracts t.certificate own.0 in
        let before = shares_at d entry.0 t.contracts t.certificate in
        Carries-less entry.1 (shares_at d entry.0 (t.contracts ++ a ∷ []) (t.certificate ++ least_of d a ∷ []))
        (shares_at d entry.0 (t.contracts ++ b ∷ []) (t.certificate ++ least_of d b ∷ []))
        (subst (λ xs. AreLess xs (shares_at d entry.0 (t.contracts ++ b ∷ []) (t.certificate ++ least_of d b ∷ [])))
        (sym (shares_at-append d entry.0 t.contracts t.certificate a (least_of d a) long))
        (subst (λ ys. AreLess (before ++ share_of d entry.0 a (least_of d a)) ys) (sym (shares_at-append d entry.0 t.contracts t.certificate b (least_of d b) long))
        (AreLess-append before before (share_of d entry.0 a (least_of d a)) (share_of d entry.0 b (least_of d b)) (itself_less d entry.0 t.contracts t.certificate)
        (share_less d entry.0 a b lesser))))
        carries
