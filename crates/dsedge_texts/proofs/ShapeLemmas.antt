-- A certificate has the shape of its contracts.
use Rattle.std.proofs.Common.{◌≡◌, ◌⊎◌, inl, inr, ℕ, suc, true, eqb, List, [], ◌∷◌, length, None, Some, Err, refl, sym, ap, ◌∙◌, arith}
use Rattle.std.proofs.lemmas.Bool.Decides.{nat_tests}
use Rattle.ds_domain_base.specs.Domains.{Domain}
use Rattle.ds_domain_base.specs.declared.contract.Contract.{Contract}
use Rattle.ds_certificate.specs.Bounds.{IsCertificate}
use Rattle.ds_certificate.specs.Columns.{Bound}
use Rattle.ds_certificate.specs.Texts.{is_shaped}
use Rattle.ds_checker.specs.Acceptance.{Table, bounds_refusal_of, refusal_of}
use Rattle.ds_checker.specs.declared.refusal.Refusal.{Refusal}
use Rattle.ds_checker.proofs.CheckLaws.{never_memory}
use Rattle.dsedge_texts.specs.Accepted.{judged}
use Rattle.dsedge_texts.specs.Refused.{refusal_line}
use Rattle.dsedge_texts.specs.declared.accepting.TableFault.{TableFault}
use Rattle.dsedge_texts.specs.declared.accepting.TableFault.TheVariants as faults
use Rattle.ds_checker.specs.declared.refusal.Refusal.TheVariants as refusals

long_test : (n m : ℕ) → n ≡ suc m → eqb n (suc m) ≡ true
long_test n m same = grind (arith, nat_tests)

pub is_shaped-certificate : (d : Domain) (contracts : List Contract) (rows : List (List Bound)) → IsCertificate d contracts rows → is_shaped contracts rows ≡ true
unfolding is_shaped
is_shaped-certificate d [] [] is = refl
is_shaped-certificate d [] (bounds ∷ rows) is = absurd is
is_shaped-certificate d (c ∷ contracts) [] is = absurd is
is_shaped-certificate d (c ∷ contracts) (bounds ∷ rows) is =
    rw (long_test (length bounds) (length c.path) is.0.0.1) (is_shaped-certificate d contracts rows is.1)

-- what is told of a refusal of a candidate
pub judge-told : (t : Table) (contracts : List Contract) (refusal : Refusal) (fault : TableFault) → contracts ≡ t.contracts
    → ((refusal ≡ refusals.NoMemory) × (bounds_refusal_of t ≡ None)) ⊎ (refusal_of t ≡ Some refusal) → (refusal ≡ refusals.NoMemory → fault ≡ faults.NoMemory)
    → ((fault ≡ faults.NoMemory) × (refusal ≡ refusals.NoMemory)) ⊎ (fault ≡ faults.Refused (refusal_line contracts refusal))
    → ((fault ≡ faults.NoMemory) × (bounds_refusal_of t ≡ None)) ⊎ (judged t (refusal_of t) ≡ Err fault)
judge-told t contracts refusal fault is (inl lacking) memory line = inl (memory lacking.0, lacking.1)
judge-told t contracts refusal fault is (inr found) memory (inl both) = absurd (never_memory t (found ∙ ap Some both.1))
judge-told t contracts refusal fault is (inr found) memory (inr told) =
    inr (ap (judged t) found ∙ ap (λ list. Err (faults.Refused (refusal_line list refusal))) (sym is) ∙ ap Err (sym told))
