-- The contracts of a domain text fit its domain.
use Rattle.std.proofs.Common.{◌≡◌, ℕ, Bool, true, false, if◌then◌else◌, List, [], ◌∷◌, ◌++◌, length, Option, None, Some, is_none, Result, Ok, Err, refl, sym, ap, ◌∙◌}
use Rattle.std.specs.List.{list_all}
use Rattle.std.specs.Str.{is_utf8}
use Rattle.std.proofs.lemmas.Bool.{and_parts}
use Rattle.toml.specs.Data.{Members}
use Rattle.toml.specs.Parse.{parse_document}
use Rattle.ds_domain_base.specs.Domains.{Domain}
use Rattle.ds_domain_base.specs.Fitting.{way_fault}
use Rattle.ds_domain_base.specs.declared.contract.Contract.{Contract}
use Rattle.ds_domain_base.specs.declared.fault.DomainFault.{DomainFault}
use Rattle.ds_domain_base.specs.declared.fault.Field.TheVariants as fields
use Rattle.ds_domain_text.specs.Steps.{◌>>=◌, or_fail}
use Rattle.ds_domain.specs.ContractEntries.{ContractText, contract_in, contract_of, contract_terms, contract_text, next_contract, with_contract_of}
use Rattle.ds_domain.specs.DomainTexts.{document_of, domain_of, no_text, parse_of, parts_of, sections_of, top_of}
use Rattle.ds_domain.specs.Parts.{refused_by}
use Rattle.ds_domain.specs.Sections.{few, in_turn, section_in}
use Rattle.ds_domain.proofs.WayLemmas.{moved, way_fault-moved}
use Rattle.ds_certificate.specs.Bounds.{fits}

-- what two steps give, the second gives of what the first gave
step : {A B : Type 0} (first : Result A DomainFault) (next : A → Result B DomainFault) (last : B) → (first >>= next) ≡ Ok last
    → (a : A) × (first ≡ Ok a) × (next a ≡ Ok last)
step (Ok a) next last is = (a, refl, is)
step (Err fault) next last is = absurd cc

ok_is : {A : Type 0} (x y : A) → (let the_x : Result A DomainFault = Ok x in the_x) ≡ Ok y → x ≡ y
ok_is x y is = cc

-- a list and one more
all_push : (p : Contract → Bool) (done : List Contract) (c : Contract) → list_all p done ≡ true → p c ≡ true → list_all p (done ++ c ∷ []) ≡ true
all_push p [] c good one = rw one refl
all_push p (first ∷ done) c good one = let parts = and_parts (p first) (list_all p done) good in rw parts.0 (all_push p done c parts.1 one)

unmoved : (place : ℕ) (fault : Option DomainFault) → refused_by (moved place fault) ≡ Ok tt → is_none fault ≡ true
unmoved place None is = refl
unmoved place (Some fault) is = absurd cc

-- nothing stands against the way of a contract that is taken
contract_of-fits : (d : Domain) (done : List Contract) (text : ContractText) (c : Contract) → contract_of d done text ≡ Ok c → fits d c ≡ true
unfolding contract_of
contract_of-fits d done text c is =
    let judged = step (contract_terms done text.name text.rest) _ c is in
    let way = step (refused_by (way_fault (length done) d text.port text.path)) _ c judged.2 in
    let same = ok_is _ c way.2 in
    rw (← same) (unmoved (length done) (way_fault 0 d text.port text.path) (ap refused_by (sym (way_fault-moved (length done) d text.port text.path)) ∙ way.1))

contract_in-fits : (d : Domain) (done : List Contract) (members : Members) (c : Contract) → contract_in d done members ≡ Ok c → fits d c ≡ true
unfolding contract_in
contract_in-fits d done members c is =
    let text = step (contract_text (next_contract done) d.version members) _ c is in
    contract_of-fits d done text.0 c text.2

-- so contracts that fit stay so with one more
with_contract_of-fits : (d : Domain) (done : List Contract) (members : Members) (after : List Contract) → list_all (fits d) done ≡ true
    → with_contract_of d done members ≡ Ok after → list_all (fits d) after ≡ true
unfolding with_contract_of
with_contract_of-fits d done members after good is =
    let contract = step (contract_in d done members) _ after is in
    rw (← ok_is _ after contract.2) (all_push (fits d) done contract.0 good (contract_in-fits d done members contract.0 contract.1))

in_turn-fits : (d : Domain) (done : List Contract) (entries : List Members) (last : List Contract) → list_all (fits d) done ≡ true
    → in_turn (with_contract_of d) done entries ≡ Ok last → list_all (fits d) last ≡ true
unfolding in_turn
in_turn-fits d done [] last good is = rw (← ok_is done last is) good
in_turn-fits d done (members ∷ entries) last good is =
    let next = step (with_contract_of d done members) _ last is in
    in_turn-fits d next.0 entries last (with_contract_of-fits d done members next.0 good next.1) next.2

document_of-fits : (members : Members) (parsed : Domain × List Contract) → document_of members ≡ Ok parsed → list_all (fits parsed.0) parsed.1 ≡ true
unfolding document_of parts_of section_in
document_of-fits members parsed is =
    let top = step (top_of members) _ parsed is in
    let tables = step (sections_of members) _ parsed top.2 in
    let domain = step (domain_of top.0 tables.0) _ parsed tables.2 in
    let contracts = step (section_in fields.Contract 4096 (with_contract_of domain.0) [] tables.0.contracts) _ parsed domain.2 in
    let counted = step (few fields.Contract 4096 tables.0.contracts) _ contracts.0 contracts.1 in
    rw (← ok_is _ parsed contracts.2) (in_turn-fits domain.0 [] tables.0.contracts contracts.0 refl counted.2)

text_fits : (valid : Bool) (document : Option Members) (parsed : Domain × List Contract)
    → (if valid then or_fail document no_text >>= document_of else Err no_text) ≡ Ok parsed → list_all (fits parsed.0) parsed.1 ≡ true
text_fits true (Some members) parsed is = document_of-fits members parsed is
text_fits true None parsed is = absurd cc
text_fits false document parsed is = absurd cc

-- the contracts of a domain text fit its domain
pub parse_of-fits : (bytes : List ℕ) (parsed : Domain × List Contract) → parse_of bytes ≡ Ok parsed → list_all (fits parsed.0) parsed.1 ≡ true
unfolding parse_of
parse_of-fits bytes parsed is = text_fits (is_utf8 bytes) (parse_document bytes) parsed is
