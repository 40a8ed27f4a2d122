-- Fronts of a text that is given in parts.
use Rattle.std.proofs.Common.{◌≡◌, ℕ, ◌+◌, ◌<◌, List, [], ◌∷◌, ◌++◌, length, get_or, flat_map, take, drop, Result, Ok, Err, MatchResult, refl, sym, ap, ◌∙◌, append-nil, append_assoc, take-append-drop, cond, is_ok, inl, inr, codes, decimal}
use Rattle.std.proofs.lemmas.Grind.{flat_map-append}
use Rattle.std.proofs.lemmas.List.{drop_more}
use Rattle.pcap_capture.specs.Counts.{next_count}
use Rattle.pcap_capture.specs.Fronts.{IsFrontOf}
use Rattle.pcap_capture.proofs.FrontLaws.{IsFrontOf-first, IsFrontOf-given, IsFrontOf-second}
use Rattle.ds_domain_base.specs.Faults.{field_text, kind_code, section_text}
use Rattle.ds_domain_base.specs.declared.fault.DomainFault.{DomainFault}
use Rattle.dsedge_texts.specs.Wording.{kind_text}
use Rattle.ds_ledger_base.specs.declared.fault.BookFault.TheVariants as books
use Rattle.ds_ledger_base.specs.declared.fault.RefusedReplay.{RefusedReplay}
use Rattle.dsedge_texts.specs.Wording.{text_or_dash}
use Rattle.dsedge_faults.specs.Faults.{IsTold, broker_refusal_text, coded_text, fault_text}
use Rattle.dsedge_faults.specs.declared.fault.Fault.TheVariants.{Book, Domain}

-- what a call gave of a text: all of it, or a front
pub given_or_front : {E : Type 0} (result : Result (Unit {0}) E) (before after text : List ℕ)
    → MatchResult result (λ _. after ≡ before ++ text) (λ _. (given : ℕ) × (after ≡ before ++ take given text))
    → MatchResult result (λ _. after ≡ before ++ text) (λ _. IsFrontOf before text after)
given_or_front (Ok x) before after text h = h
given_or_front (Err e) before after text h =
    IsFrontOf-given before text after h.0 h.1

-- what a call told that gave a text, or a front of it where it failed
pub told_since : {E : Type 0} (result : Result (Unit {0}) E) (before after text : List ℕ) (failed now : ℕ)
    → MatchResult result (λ _. after ≡ before ++ text) (λ _. IsFrontOf before text after)
    → now ≡ cond (is_ok result) failed (next_count failed) → IsTold text before after failed now
told_since (Ok x) before after text failed now h e = inl h
told_since (Err fault) before after text failed now h e = inr (h, e)

-- all parts: those up to a place, the next, and the rest
parts_around : {X : Type 0} (f : X → List ℕ) (parts : List X) (index : ℕ) (d : X) → index < length parts
    → flat_map f parts ≡ flat_map f (take index parts) ++ (f (get_or parts index d) ++ flat_map f (drop (index + 1) parts))
parts_around f parts index d within =
    ap (λ t. flat_map f t) (sym (take-append-drop index parts) ∙ ap (λ t. take index parts ++ t) (drop_more parts index d within))
    ∙ flat_map-append f (take index parts) (get_or parts index d ∷ drop (index + 1) parts)

-- a front of the next part was given
pub part_refused : {X : Type 0} (f : X → List ℕ) (parts : List X) (index : ℕ) (d : X) (text before mid after : List ℕ) → index < length parts
    → text ≡ f (get_or parts index d) → mid ≡ before ++ flat_map f (take index parts) → (given : ℕ) × (after ≡ mid ++ take given text)
    → IsFrontOf before (flat_map f parts) after
part_refused f parts index d text before mid after within is so given =
    rw (parts_around f parts index d within, ← is)
    (IsFrontOf-second before mid after (flat_map f (take index parts)) (text ++ flat_map f (drop (index + 1) parts)) so
    (IsFrontOf-first mid after text (flat_map f (drop (index + 1) parts)) (IsFrontOf-given mid text after given.0 given.1)))

-- what was given of a text was given of a line that is the same
pub given_as : {E : Type 0} (result : Result (Unit {0}) E) (before after text line : List ℕ) → text ≡ line
    → MatchResult result (λ _. after ≡ before ++ text) (λ _. IsFrontOf before text after)
    → MatchResult result (λ _. after ≡ before ++ line) (λ _. IsFrontOf before line after)
given_as result before after text line same h = rw (← same) h

-- a front of the first of three texts was given
pub first_of_three : (before after first second third : List ℕ) → IsFrontOf before first after
    → IsFrontOf before (first ++ (second ++ third)) after
first_of_three before after first second third h = IsFrontOf-first before after first (second ++ third) h

-- a front of the second, behind the first
pub second_of_three : (before mid after first second third : List ℕ) → mid ≡ before ++ first → IsFrontOf mid second after
    → IsFrontOf before (first ++ (second ++ third)) after
second_of_three before mid after first second third so h =
    IsFrontOf-second before mid after first (second ++ third) so (IsFrontOf-first mid after second third h)

-- a word between two texts
pub between : (front middle word back : List ℕ) → middle ≡ word → front ++ (middle ++ (back ++ [])) ≡ front ++ (word ++ back)
between front middle word back same = rw (same, append-nil back) refl

-- the line of a domain's fault, by its parts
pub domain_line : (fault : DomainFault) (code kind section index field : List ℕ) → code ≡ decimal (kind_code fault.kind) → kind ≡ kind_text fault.kind
    → section ≡ section_text fault.section → index ≡ decimal fault.index → field ≡ text_or_dash (field_text fault.field)
    → codes "dsedge: domain " ++ (code ++ (codes " " ++ (kind ++ (codes " " ++ (section ++ (codes " " ++ (index ++ (codes " " ++ (field ++ (codes "\n" ++ []))))))))))
    ≡ fault_text (Domain fault)
domain_line fault code kind section index field is_code is_kind is_section is_index is_field =
    rw (is_code, is_kind, is_section, is_index, is_field) (ap (λ t. codes "dsedge: domain " ++ t) (simp append_assoc))

-- a line of a number and a kind, by its parts
pub coded_line : (front digits : List ℕ) (code : ℕ) (kind : List ℕ) → digits ≡ decimal code
    → front ++ (digits ++ (codes " " ++ (kind ++ (codes "\n" ++ [])))) ≡ front ++ (coded_text code kind ++ codes "\n")
coded_line front digits code kind is_code = rw is_code (ap (λ t. front ++ t) (simp append_assoc))

-- the line of a number and a kind that are the same
pub kind_told : (front : List ℕ) (code number : ℕ) (text kind : List ℕ) → code ≡ number → text ≡ kind
    → front ++ (coded_text code text ++ codes "\n") ≡ front ++ (coded_text number kind ++ codes "\n")
kind_told front code number text kind is_code is_kind = rw (is_code, is_kind) refl

-- the line of a command that its book refuses, by its parts
pub refused_line : (refused : RefusedReplay) (serial refusal : List ℕ) → serial ≡ decimal refused.serial → refusal ≡ broker_refusal_text refused.refusal
    → codes "dsedge: book " ++ (serial ++ (codes " " ++ (refusal ++ (codes "\n" ++ [])))) ≡ fault_text (Book (books.Command refused))
refused_line refused serial refusal is_serial is_refusal =
    rw (is_serial, is_refusal) (ap (λ t. codes "dsedge: book " ++ t) (simp append_assoc))

-- two texts that were told one behind the other
pub behind_told : {E : Type 0} (result : Result (Unit {0}) E) (before mid after first second : List ℕ) → mid ≡ before ++ first
    → MatchResult result (λ _. after ≡ mid ++ second) (λ _. IsFrontOf mid second after)
    → MatchResult result (λ _. after ≡ before ++ (first ++ second)) (λ _. IsFrontOf before (first ++ second) after)
behind_told (Ok x) before mid after first second e h = h ∙ (ap (λ t. t ++ second) e ∙ append_assoc before first second)
behind_told (Err fault) before mid after first second e h = IsFrontOf-second before mid after first second e h
