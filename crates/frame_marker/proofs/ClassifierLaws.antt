-- What the contracts of a port that were taken so far find.
use Rattle.std.proofs.Common.{◌≡◌, ℕ, ◌+◌, ◌<◌, ◌≤◌, Bool, true, false, cond, ltb, eqb, get_or, List, [], ◌∷◌, ◌++◌, length, length-append, not, take, Option, None, Some, position, refl, sym, ap, ◌∙◌, arith, bytes_eq}
use Rattle.std.specs.List.{position_or_len}
use Rattle.std.specs.Option.{option_or}
use Rattle.std.proofs.lemmas.Bool.Decides.{nat_tests}
use Rattle.std.proofs.lemmas.List.{length-take-le, take_all, take_more}
use Rattle.std.proofs.lemmas.List.Folds.{position_or_len_push}
use Rattle.std.proofs.lemmas.List.Sums.{prefix_len-le-length}
use Rattle.af_marker.specs.declared.packet.Header.{Header}
use Rattle.flow_classifier.specs.Families.{by_family}
use Rattle.flow_classifier.specs.Keys.{key_of}
use Rattle.flow_classifier.specs.Tables.{first_flow_of}
use Rattle.flow_classifier.specs.declared.key.Key.{Key}
use Rattle.flow_classifier.specs.declared.table.FlowRule.{FlowRule}
use Rattle.flow_classifier.proofs.FamilyLaws.{found_by_family}
use Rattle.flow_classifier.proofs.TableLaws.{flow_append}
use Rattle.ds_domain_base.specs.Versions.{has_ipv6}
use Rattle.ds_domain_base.specs.declared.contract.Contract.{Contract}
use Rattle.ds_domain_base.specs.declared.parts.Version.{Version}
use Rattle.pcap_capture.specs.declared.heading.LinkType.{LinkType}
use Rattle.frame_marker.specs.Frames.{header_in}
use Rattle.frame_marker.specs.Ports.{sight_at, sight_through}
use Rattle.frame_marker.specs.Sights.{flow_of, heeded, sight_by, sight_for, sight_of, takes}

pushed : (place count : ℕ) (here : Bool) → place ≤ count
    → cond (ltb (cond (eqb place count) (count + cond here 0 1) place) (count + 1)) (Some (cond (eqb place count) (count + cond here 0 1) place)) None
    ≡ option_or (cond (ltb place count) (Some place) None) (cond here (Some count) None)
pushed place count true within = grind (arith, nat_tests)
pushed place count false within = grind (arith, nat_tests)

-- where an element is found in a list with one more behind it
position_push : {X : Type 0} (test : X → Bool) (xs : List X) (x : X)
    → position test (xs ++ x ∷ []) ≡ option_or (position test xs) (cond (test x) (Some (length xs)) None)
position_push test xs x =
    let count : length (xs ++ x ∷ []) ≡ length xs + 1 = length-append xs (x ∷ []) in
    rw (position_or_len_push test xs x, count) (pushed (position_or_len test xs) (length xs) (test x) (prefix_len-le-length (λ y. not (test y)) xs))

-- What the rules find is the place of the first of these contracts that takes a packet.
abbrev pub AreTaken : List ℕ → List FlowRule → List Contract → Type 0
AreTaken port rules contracts = (key : Key) → first_flow_of rules key ≡ position (takes port key) contracts

one_more : (contracts : List Contract) (place : ℕ) (c : Contract) → place < length contracts → c ≡ get_or contracts place c → take (place + 1) contracts ≡ take place contracts ++ c ∷ []
one_more contracts place c within at = take_more contracts place c within ∙ ap (λ d. take place contracts ++ d ∷ []) (sym at)

-- the contract of one more place is taken where it is of the port
pub taken_next : (port : List ℕ) (rules : List FlowRule) (contracts : List Contract) (place : ℕ) (c : Contract)
    → place < length contracts → c ≡ get_or contracts place c → bytes_eq port c.port ≡ true
    → AreTaken port rules (take place contracts) → AreTaken port (rules ++ record { flow = place; rule = c.rule } ∷ []) (take (place + 1) contracts)
taken_next port rules contracts place c within at here taken key =
    let count : length (take place contracts) ≡ place = length-take-le place contracts (omega arith) in
    rw (one_more contracts place c within at, flow_append rules (record { flow = place; rule = c.rule } ∷ []) key, position_push (takes port key) (take place contracts) c, taken key, here, count) refl

without : {X : Type 0} (o : Option X) → o ≡ option_or o None
without None = refl
without (Some x) = refl

-- and where it is not, nothing is
pub taken_same : (port : List ℕ) (rules : List FlowRule) (contracts : List Contract) (place : ℕ) (c : Contract)
    → place < length contracts → c ≡ get_or contracts place c → bytes_eq port c.port ≡ false
    → AreTaken port rules (take place contracts) → AreTaken port rules (take (place + 1) contracts)
taken_same port rules contracts place c within at there taken key =
    rw (one_more contracts place c within at, position_push (takes port key) (take place contracts) c, taken key, there) (without (position (takes port key) (take place contracts)))

-- once the contracts that can have packets are all taken, what the rules find is the contract that takes a packet
pub all_taken : (rules : List FlowRule) (heeded contracts : List Contract) (port : List ℕ) (count : ℕ)
    → heeded ≡ take 4294966272 contracts → length heeded ≤ count → AreTaken port rules (take count heeded) → (key : Key) → first_flow_of rules key ≡ flow_of contracts port key
unfolding flow_of
all_taken rules heeded contracts port count all ended taken key = taken key ∙ ap (position (takes port key)) (take_all count heeded ended ∙ all)

-- and a frame is what it is at the port
pub sees_all : (rules : List FlowRule) (version : Version) (contracts : List Contract) (port : List ℕ) → ((key : Key) → first_flow_of rules key ≡ flow_of contracts port key)
    → (link : LinkType) (bytes : List ℕ) → sight_at (record { has_ipv6 = has_ipv6 version; rules = by_family rules }) link bytes ≡ sight_of version contracts port link bytes
unfolding sight_at sight_of
sees_all rules version contracts port finds link bytes = through (heeded (has_ipv6 version) (header_in link bytes))
  where
    through : (h : Option Header) → sight_through (by_family rules) h ≡ sight_by contracts port h
    through None = refl
    through (Some h) = ap (sight_for h) (found_by_family rules (key_of h) ∙ finds (key_of h))
