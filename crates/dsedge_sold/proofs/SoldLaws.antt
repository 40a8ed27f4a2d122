-- What is answered to commands and offers has no float, nests nothing, and its line is made of the object.
use Rattle.std.proofs.Common.{◌≡◌, ◌≢◌, ℕ, ◌≤◌, false, List, [], ◌∷◌, ◌++◌, codes, decimal, append_assoc, refl, sym, ap, ◌∙◌, arith}
use Rattle.std.proofs.lemmas.Fmt.{decimal_digit}
use Rattle.serde_json.specs.Data.{depth}
use Rattle.serde_json.specs.Read.{max_depth}
use Rattle.serde_json.specs.Written.{has_float}
use Rattle.json_lines.proofs.FigureLaws.{figure_flat, figure_plain, figure_said}
use Rattle.ds_broker.specs.declared.entry.Grant.{Grant}
use Rattle.ds_broker.specs.declared.refusal.BrokerRefusal.{BrokerRefusal}
use Rattle.ds_broker.specs.declared.refusal.BrokerRefusal.TheVariants as refusals
use Rattle.ds_checker.specs.declared.refusal.Refusal.{Refusal}
use Rattle.ds_checker.specs.declared.refusal.Refusal.TheVariants as checks
use Rattle.ds_domain_base.specs.Faults.{field_text}
use Rattle.ds_domain_base.specs.declared.contract.Contract.{Contract}
use Rattle.ds_domain_base.specs.declared.fault.DomainFault.{DomainFault}
use Rattle.dsedge_json.specs.Objects.{check_line_in, refusal_data}
use Rattle.dsedge_json.proofs.BlankLaws.{text_flat, text_plain, text_said}
use Rattle.dsedge_json.proofs.ObjectLaws.{refusal_says}
use Rattle.dsedge_texts.specs.Refused.{refusal_line}
use Rattle.dsedge_texts.specs.Wording.{kind_text, text_or_dash}
use Rattle.dsedge_sold.specs.Sold.{done_line, fault_line, granted_line, offered_line, refused_line, sight_line, unoffered_line}
use Rattle.dsedge_sold.specs.SoldObjects.{done_data, granted_data, hold_data, kind_data, offered_data, refused_data, sight_data, sight_line_in, sold_line_in, unoffered_data}

-- ---- commands that are accepted

granted_rest : (id serial since : List ℕ) → id ++ (32 ∷ (serial ++ (32 ∷ (since ++ (10 ∷ []))))) ≡ id ++ (codes " " ++ serial) ++ (codes " " ++ since) ++ codes "\n"
granted_rest id serial since =
    sym (append_assoc (id ++ (codes " " ++ serial)) (codes " " ++ since) (codes "\n") ∙ append_assoc id (codes " " ++ serial) ((codes " " ++ since) ++ codes "\n"))

granted_joined : (id serial since : List ℕ) → codes "granted" ++ (32 ∷ (id ++ (32 ∷ (serial ++ (32 ∷ (since ++ (10 ∷ [])))))))
    ≡ codes "granted" ++ (codes " " ++ id) ++ (codes " " ++ serial) ++ (codes " " ++ since) ++ codes "\n"
granted_joined id serial since = ap (λ rest. codes "granted " ++ rest) (granted_rest id serial since)

pub granted_says : (g : Grant) → sold_line_in (granted_data g) ≡ granted_line g
granted_says g = granted_joined (decimal g.id) (decimal g.serial) (decimal g.since)

done_joined : (done id serial : List ℕ) → done ++ (32 ∷ (id ++ (32 ∷ (serial ++ (10 ∷ []))))) ≡ done ++ (codes " " ++ id) ++ (codes " " ++ serial) ++ codes "\n"
done_joined done id serial = simp append_assoc

pub done_says : (done : List ℕ) (id serial : ℕ) → sold_line_in (done_data done id serial) ≡ done_line done id serial
done_says done id serial = done_joined done (decimal id) (decimal serial)

pub offered_says : (name : List ℕ) → sold_line_in (offered_data name) ≡ offered_line name
offered_says name = refl

sight_rest : (serial contracts : List ℕ) → serial ++ (codes " contracts" ++ (32 ∷ (contracts ++ (10 ∷ [])))) ≡ serial ++ codes " contracts" ++ (codes " " ++ contracts) ++ codes "\n"
sight_rest serial contracts =
    sym (append_assoc (serial ++ codes " contracts") (codes " " ++ contracts) (codes "\n") ∙ append_assoc serial (codes " contracts") ((codes " " ++ contracts) ++ codes "\n"))

sight_joined : (serial contracts : List ℕ) → codes "serial" ++ (32 ∷ (serial ++ (codes " contracts" ++ (32 ∷ (contracts ++ (10 ∷ []))))))
    ≡ codes "serial" ++ (codes " " ++ serial) ++ codes " contracts" ++ (codes " " ++ contracts) ++ codes "\n"
sight_joined serial contracts = ap (λ rest. codes "serial " ++ rest) (sight_rest serial contracts)

pub sight_says : (serial contracts : ℕ) → sight_line_in (sight_data serial contracts) ≡ sight_line serial contracts
sight_says serial contracts = sight_joined (decimal serial) (decimal contracts)

-- ---- offers that are refused

pub unoffered_plain : (fault : DomainFault) → has_float (unoffered_data fault) ≡ false
unoffered_plain fault = rw (text_plain (field_text fault.field)) refl

pub unoffered_shallow : (fault : DomainFault) → depth (unoffered_data fault) ≤ max_depth
unoffered_shallow fault = rw (text_flat (field_text fault.field)) (omega arith)

unoffered_joined : (kind field : List ℕ) → kind ++ (32 ∷ (field ++ (10 ∷ []))) ≡ (kind ++ codes " " ++ field) ++ codes "\n"
unoffered_joined kind field = simp append_assoc

pub unoffered_says : (fault : DomainFault) → sold_line_in (unoffered_data fault) ≡ unoffered_line fault
unoffered_says fault = rw (text_said (field_text fault.field), decimal_digit 1 (omega arith))
    (ap (λ text. codes "refused 1 " ++ text) (unoffered_joined (kind_text fault.kind) (text_or_dash (field_text fault.field))))

-- ---- commands that are refused

pub hold_plain : (nanoseconds : ℕ) → has_float (hold_data nanoseconds) ≡ false
hold_plain nanoseconds = rw (figure_plain nanoseconds) refl

pub hold_shallow : (nanoseconds : ℕ) → depth (hold_data nanoseconds) ≤ max_depth
hold_shallow nanoseconds = rw (figure_flat nanoseconds) (omega arith)

hold_joined : (left : List ℕ) → codes "refused 9 HoldLeft" ++ (32 ∷ (left ++ (10 ∷ []))) ≡ codes "refused 9 HoldLeft" ++ (codes " " ++ left) ++ codes "\n"
hold_joined left = simp append_assoc

kind_says : (kind : List ℕ) → sold_line_in (kind_data 1 kind) ≡ fault_line kind
kind_says kind = rw (decimal_digit 1 (omega arith)) refl

-- the words at the checker's keys are those of its own line
checked_words : (held : List Contract) (refusal : Refusal) → sold_line_in (refusal_data held refusal) ≡ check_line_in (refusal_data held refusal)
checked_words held (checks.Shape place) = refl
checked_words held (checks.FirstBound place column needed given) = refl
checked_words held (checks.HopBound place hop column needed given) = refl
checked_words held (checks.GreenRate meter needed available) = refl
checked_words held (checks.GreenBurst meter needed available) = refl
checked_words held (checks.AllRate meter needed available) = refl
checked_words held (checks.AllBurst meter needed available) = refl
checked_words held checks.NoMemory = refl

checked_says : (held : List Contract) (refusal : Refusal) → refusals.Checker refusal ≢ refusals.Checker checks.NoMemory
    → sold_line_in (refusal_data held refusal) ≡ refusal_line held refusal
checked_says held refusal told = checked_words held refusal ∙ refusal_says held refusal (λ e. told (ap refusals.Checker e))

pub refused_says : (held : List Contract) (refusal : BrokerRefusal) → refusal ≢ refusals.Checker checks.NoMemory → sold_line_in (refused_data held refusal) ≡ refused_line held refusal
refused_says held (refusals.Contract fault) told = kind_says (kind_text fault.kind)
refused_says held refusals.TableFull told = rw (decimal_digit 2 (omega arith)) refl
refused_says held (refusals.Checker refusal) told = checked_says held refusal told
refused_says held refusals.UnknownId told = rw (decimal_digit 4 (omega arith)) refl
refused_says held refusals.AlreadyReleased told = rw (decimal_digit 5 (omega arith)) refl
refused_says held refusals.HistoryFull told = rw (decimal_digit 6 (omega arith)) refl
refused_says held refusals.NoMemory told = rw (decimal_digit 7 (omega arith)) refl
refused_says held refusals.NotReleased told = rw (decimal_digit 8 (omega arith)) refl
refused_says held (refusals.HoldLeft nanoseconds) told =
    rw (figure_said nanoseconds, decimal_digit 9 (omega arith)) (hold_joined (decimal nanoseconds))
