-- A certificate that is read has the shape of its contracts.
use Rattle.std.proofs.Common.{◌≡◌, ℕ, zero, suc, ◌+◌, true, eqb, List, [], ◌∷◌, length, Result, Ok, Err, refl, sym, ap, subst, ◌∙◌, arith}
use Rattle.std.proofs.lemmas.Bool.Decides.{nat_tests}
use Rattle.ds_domain_base.specs.declared.contract.Contract.{Contract}
use Rattle.ds_certificate.specs.Columns.{Bound}
use Rattle.ds_certificate.specs.Readings.{Read, and_then, bound_in, bounds_in, onto, row_onto, rows_in}
use Rattle.ds_certificate.specs.Texts.{is_shaped}
use Rattle.ds_certificate.specs.declared.fault.CertificateFault.{CertificateFault}
use Rattle.ds_certificate.specs.declared.form.Form.{Form}

ok_is : {A : Type 0} {x y : A} → (the_ok : Result A CertificateFault) → the_ok ≡ Ok x → the_ok ≡ Ok y → x ≡ y
ok_is the_ok is_x is_y = cc

onto_long : (said : Result Bound CertificateFault) (later : Result Read CertificateFault) (read : Read) (count : ℕ) → ((r : Read) → later ≡ Ok r → length r.0 ≡ count)
    → onto said later ≡ Ok read → length read.0 ≡ suc count
onto_long (Err fault) later read count long is = absurd cc
onto_long (Ok b) (Err fault) read count long is = absurd cc
onto_long (Ok b) (Ok r) read count long is = sym (ap (λ (x : Read). length x.0) (ok_is (Ok (b ∷ r.0, r.1)) refl is)) ∙ ap suc (long r refl)

-- as many bounds as were asked for
bounds_in-long : (form : Form) (name : List ℕ) (hop count : ℕ) (lines : List (List ℕ)) (read : Read) → bounds_in form name hop count lines ≡ Ok read → length read.0 ≡ count
unfolding bounds_in
bounds_in-long form name hop zero lines read is = sym (ap (λ (x : Read). length x.0) (ok_is (Ok ([], lines)) refl is))
bounds_in-long form name hop (suc count) [] read is = absurd cc
bounds_in-long form name hop (suc count) (line ∷ lines) read is =
    onto_long (bound_in form name hop line) (bounds_in form name (suc hop) count lines) read count (bounds_in-long form name (suc hop) count lines) is

long_test : (n m : ℕ) → n ≡ m + 1 → eqb n (suc m) ≡ true
long_test n m same = grind (arith, nat_tests)

row_shape : (c : Contract) (contracts : List Contract) (bounds : List Bound) (later : Result (List (List Bound)) CertificateFault) (rows : List (List Bound))
    → length bounds ≡ length c.path + 1 → ((rest : List (List Bound)) → later ≡ Ok rest → is_shaped contracts rest ≡ true)
    → row_onto bounds later ≡ Ok rows → is_shaped (c ∷ contracts) rows ≡ true
unfolding is_shaped
row_shape c contracts bounds (Err fault) rows long behind is = absurd cc
row_shape c contracts bounds (Ok rest) rows long behind is =
    subst (λ (all : List (List Bound)). is_shaped (c ∷ contracts) all ≡ true) (ok_is (Ok (bounds ∷ rest)) refl is)
    (rw (long_test (length bounds) (length c.path) long) (behind rest refl))

rows_shape : (form : Form) (c : Contract) (contracts : List Contract) (read : Result Read CertificateFault) (rows : List (List Bound))
    → ((r : Read) → read ≡ Ok r → length r.0 ≡ length c.path + 1) → ((left : List (List ℕ)) (rest : List (List Bound)) → rows_in form contracts left ≡ Ok rest → is_shaped contracts rest ≡ true)
    → and_then read (λ left. rows_in form contracts left) ≡ Ok rows → is_shaped (c ∷ contracts) rows ≡ true
rows_shape form c contracts (Err fault) rows long behind is = absurd cc
rows_shape form c contracts (Ok r) rows long behind is = row_shape c contracts r.0 (rows_in form contracts r.1) rows (long r refl) (behind r.1) is

pub rows_in-shape : (form : Form) (contracts : List Contract) (lines : List (List ℕ)) (rows : List (List Bound)) → rows_in form contracts lines ≡ Ok rows → is_shaped contracts rows ≡ true
unfolding rows_in is_shaped
rows_in-shape form [] [] rows is = subst (λ (all : List (List Bound)). is_shaped [] all ≡ true) (ok_is (Ok []) refl is) refl
rows_in-shape form [] (line ∷ lines) rows is = absurd cc
rows_in-shape form (c ∷ contracts) lines rows is =
    rows_shape form c contracts (bounds_in form c.name 0 (length c.path + 1) lines) rows (bounds_in-long form c.name 0 (length c.path + 1) lines) (rows_in-shape form contracts) is
