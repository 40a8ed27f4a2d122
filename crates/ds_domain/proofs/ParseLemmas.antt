-- Which bytes are a domain text, or a line that says a contract, and the fault of a document whose contracts are refused.
use Rattle.std.proofs.Common.{◌≡◌, ℕ, List, [], Some, Result, Ok, Err, IfErr, ◌⊎◌, IsUtf8, refl, inl, inr}
use Rattle.std.proofs.lemmas.Bool.{cases_Bool}
use Rattle.std.proofs.lemmas.Str.{IsUtf8-from_is_utf8, is_utf8-from_IsUtf8}
use Rattle.std.specs.Str.{is_utf8}
use Rattle.toml.specs.Data.{Data, Members}
use Rattle.toml.specs.Parse.{parse_document, parse_value}
use Rattle.ds_domain_base.specs.Domains.{Domain}
use Rattle.ds_domain_base.specs.Faults.{no_memory}
use Rattle.ds_domain_base.specs.declared.contract.Contract.{Contract}
use Rattle.ds_domain_base.specs.declared.fault.DomainFault.{DomainFault}
use Rattle.ds_domain_base.specs.declared.fault.Field.TheVariants as fields
use Rattle.ds_domain_base.specs.declared.parts.Version.{Version}
use Rattle.ds_domain.specs.ContractEntries.{with_contract_of}
use Rattle.ds_domain.specs.DomainTexts.{SectionTables, document_of, domain_of, no_text, parse_of, parts_of}
use Rattle.ds_domain.specs.OfferedTexts.{contract_said, contract_told}
use Rattle.ds_domain.specs.Sections.{section_in}

-- bytes that are not UTF-8
pub parse_of-other : (bytes : List ℕ) → ¬ IsUtf8 bytes → parse_of bytes ≡ Err no_text
unfolding parse_of
parse_of-other bytes other =
    elim (cases_Bool (is_utf8 bytes)) [
      | inl same ↦ absurd (other (IsUtf8-from_is_utf8 bytes same))
      | inr differs ↦ rw differs refl
    ]

-- a text that is TOML
pub parse_of-document : (bytes : List ℕ) (members : Members) → IsUtf8 bytes → parse_document bytes ≡ Some members → parse_of bytes ≡ document_of members
unfolding parse_of
parse_of-document bytes members utf8 some = rw (is_utf8-from_IsUtf8 bytes utf8, some) refl

-- of a text want of memory says that it is one
pub with_text : {A B : Type 0} (bytes : List ℕ) (whole : Result B DomainFault) (r : Result A DomainFault) → IsUtf8 bytes
    → IfErr r (λ fault. (fault ≡ no_memory) ⊎ (whole ≡ Err fault))
    → IfErr r (λ fault. ((fault ≡ no_memory) × IsUtf8 bytes) ⊎ (whole ≡ Err fault))
with_text bytes whole (Ok value) text told = tt
with_text bytes whole (Err fault) text (inl none) = inl (none, text)
with_text bytes whole (Err fault) text (inr said) = inr said

-- a line that is not UTF-8 says no contract
pub contract_said-other : (d : Domain) (offered : List Contract) (line : List ℕ) → ¬ IsUtf8 line → contract_said d offered line ≡ Err no_text
unfolding contract_said
contract_said-other d offered line other =
    elim (cases_Bool (is_utf8 line)) [
      | inl same ↦ absurd (other (IsUtf8-from_is_utf8 line same))
      | inr differs ↦ rw differs refl
    ]

-- a line that is a value of TOML
pub contract_said-value : (d : Domain) (offered : List Contract) (line : List ℕ) (value : Data) → IsUtf8 line → parse_value line ≡ Some value
    → contract_said d offered line ≡ contract_told d offered value
unfolding contract_said
contract_said-value d offered line value utf8 some = rw (is_utf8-from_IsUtf8 line utf8, some) refl

-- a good domain whose contracts are refused
pub parts_of-refused : (version : Version) (tables : SectionTables) (d : Domain) (contracts : List Members) (fault : DomainFault)
    → domain_of version tables ≡ Ok d → contracts ≡ tables.contracts
    → (fault ≡ no_memory) ⊎ (section_in fields.Contract 4096 (with_contract_of d) [] contracts ≡ Err fault)
    → (fault ≡ no_memory) ⊎ (parts_of version tables ≡ Err fault)
unfolding parts_of
parts_of-refused version tables d contracts fault whole same (inl memory) = inl memory
parts_of-refused version tables d contracts fault whole same (inr refused) = inr (rw (whole, ← same, refused) refl)
