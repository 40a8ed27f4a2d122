-- What fields ask for, where they are too many or too few.
use Rattle.std.proofs.Common.{◌≡◌, ◌≢◌, ℕ, List, [], ◌∷◌, length, None, refl}
use Rattle.line_text.specs.Lines.{fields_of}
use Rattle.line_text.proofs.LineLemmas.{fields_of-some}
use Rattle.ds_domain_base.specs.declared.contract.Contract.{Contract}
use Rattle.dsedge_drive.specs.Requests.{alone, quote_of, reserve_of, timed_of}
use Rattle.dsedge_drive.specs.declared.request.Request.{Request}

-- fields that are not two say no id and moment
pub not_two : (fields : List (List ℕ)) → length fields ≢ 2 → timed_of fields ≡ None
not_two [] other = refl
not_two (id ∷ []) other = refl
not_two (id ∷ moment ∷ []) other = absurd (other refl)
not_two (id ∷ moment ∷ next ∷ more) other = refl

-- nor a name and a field
pub no_quote : (offered : List Contract) (fields : List (List ℕ)) → length fields ≢ 2 → quote_of offered fields ≡ None
no_quote offered [] other = refl
no_quote offered (name ∷ []) other = refl
no_quote offered (name ∷ word ∷ []) other = absurd (other refl)
no_quote offered (name ∷ word ∷ next ∷ more) other = refl

behind_alone : (request : Request) (fields : List (List ℕ)) → length fields ≢ 0 → alone request fields ≡ None
behind_alone request [] some = absurd (some refl)
behind_alone request (field ∷ fields) some = refl

-- a word does not stand alone before others
pub not_alone : (request : Request) (line : List ℕ) → alone request (fields_of line) ≡ None
not_alone request line = behind_alone request (fields_of line) (fields_of-some line)

behind_name : (offered : List Contract) (name : List ℕ) (fields : List (List ℕ)) → length fields ≢ 0 → reserve_of offered (name ∷ fields) ≡ None
behind_name offered name [] some = absurd (some refl)
behind_name offered name (field ∷ fields) some = refl

-- nor does a name
pub not_one : (offered : List Contract) (name line : List ℕ) → reserve_of offered (name ∷ fields_of line) ≡ None
not_one offered name line = behind_name offered name (fields_of line) (fields_of-some line)
