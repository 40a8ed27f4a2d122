-- A row is that of one command.
use Rattle.std.proofs.Common.{◌≡◌, ◌≢◌, ◌+◌, ℕ, pos, List, [], ◌∷◌, ◌++◌, length, take, drop, Bool, true, false, nat_eq, None, Some, Option, IfSome, All, refl, sym, ap, ◌∙◌, arith, get_or}
use Rattle.std.proofs.lemmas.List.{take_at, drop_at, length-append}
use Rattle.std.specs.Prelude.{if◌then◌else◌}
use Rattle.std.proofs.lemmas.List.Elements.{All-tail}
use Rattle.sqlite_value.specs.declared.value.Value.{Value}
use Rattle.sqlite_value.specs.declared.value.Value.TheVariants.{Int, Text}
use Rattle.sqlite_value.specs.Order.{Row, column}
use Rattle.moment_core.specs.declared.colour.Mode.{Mode}
use Rattle.moment_core.specs.declared.colour.Mode.TheVariants.{Blind, Aware}
use Rattle.flow_classifier.specs.Parts.{PortRangeValue}
use Rattle.flow_classifier.specs.declared.prefix.Prefix.{Prefix}
use Rattle.flow_classifier.specs.declared.prefix.Prefix.TheVariants.{V4, V6}
use Rattle.flow_classifier.specs.declared.rule.Rule.{Rule}
use Rattle.meter_book_base.specs.declared.any_meter.Parameters.{Parameters}
use Rattle.meter_book_base.specs.declared.any_meter.Parameters.TheVariants.{SrTcm, TrTcm, Rfc4115}
use Rattle.ds_domain_base.specs.declared.contract.Contract.{Contract}
use Rattle.ds_domain_base.specs.declared.terms.Profile.{Profile}
use Rattle.ds_domain_base.specs.declared.terms.Peak.{Peak}
use Rattle.ds_domain_base.specs.declared.terms.Terms.{Terms}
use Rattle.ds_domain_base.specs.declared.terms.Terms.TheVariants.{Trusted, Policed}
use Rattle.ds_broker.specs.declared.command.Command.{Command}
use Rattle.ds_broker.specs.declared.command.Command.TheVariants.{Reserve, Release, Retire}
use Rattle.ds_ledger_rows.specs.Cells.{cells_of, id_of, number_cell, choice_cell, path_text, terms_cells, prefix_cells, range_cells, rule_cells, contract_cells}
use Rattle.ds_ledger_rows.specs.Sound.{HasNoSlash, IsAddressed, IsSound, IsSoundContract}
use Rattle.ds_ledger_rows.proofs.AddressLaws.{address_same}

-- ---- what a cell says

abbrev number_in : Value → ℕ
number_in (Int (pos n)) = n
number_in other = 0

abbrev choice_in : Value → Option ℕ
choice_in (Int (pos n)) = Some n
choice_in other = None

abbrev text_in : Value → List ℕ
text_in (Text t) = t
text_in other = []

abbrev profile_in : Row → ℕ → Profile
profile_in row at = record { rate = number_in (column row at); burst = number_in (column row (at + 1)) }

abbrev choices_in : Value → Profile → Option Profile
choices_in (Int n) profile = Some profile
choices_in other profile = None

abbrev peak_in : Value → Peak → Option Peak
peak_in (Int n) peak = Some peak
peak_in other peak = None

-- ---- the terms

parts : {X : Type 0} (n : ℕ) (first second : List X) (more others : List X) → length first ≡ n → length second ≡ n → first ++ more ≡ second ++ others → (first ≡ second) × (more ≡ others)
parts n first second more others a b same =
    (sym (take_at first more n a) ∙ ap (take n) same ∙ take_at second others n b, sym (drop_at first more n a) ∙ ap (drop n) same ∙ drop_at second others n b)

abbrev letter : Row → ℕ → ℕ → ℕ
letter row cell at = get_or (text_in (column row cell)) at 0

abbrev mode_in : Row → Mode
mode_in row = if nat_eq (letter row 1 0) 98 then Blind else Aware

abbrev single_in : Row → Parameters
single_in row = SrTcm (record { committed_rate = number_in (column row 2); committed_burst = number_in (column row 3); excess_burst = number_in (column row 7) })

abbrev two_in : Row → Parameters
two_in row = TrTcm (record { committed_rate = number_in (column row 2); committed_burst = number_in (column row 3); peak_rate = number_in (column row 4); peak_burst = number_in (column row 5) })

abbrev apart_in : Row → Parameters
apart_in row = Rfc4115 (record { committed_rate = number_in (column row 2); committed_burst = number_in (column row 3); excess_rate = number_in (column row 6); excess_burst = number_in (column row 7) })

abbrev trusted_in : Row → Terms
trusted_in row = Trusted (profile_in row 2) (peak_in (column row 4) (record { profile = profile_in row 4; excess = choices_in (column row 6) (profile_in row 6) }))

abbrev terms_in : Row → Terms
terms_in row =
    if nat_eq (letter row 0 0) 115 then Policed (single_in row) (mode_in row) else
    (if nat_eq (letter row 0 0) 114 then Policed (apart_in row) (mode_in row) else (if nat_eq (letter row 0 2) 117 then trusted_in row else Policed (two_in row) (mode_in row)))

terms_long : (t : Terms) → length (terms_cells t) ≡ 8
terms_long (Trusted committed None) = refl
terms_long (Trusted committed (Some p)) = excess p.excess
  where
    excess : (e : Option Profile) → length (terms_cells (Trusted committed (Some (record { profile = p.profile; excess = e })))) ≡ 8
    excess None = refl
    excess (Some x) = refl
terms_long (Policed (SrTcm p) mode) = refl
terms_long (Policed (TrTcm p) mode) = refl
terms_long (Policed (Rfc4115 p) mode) = refl

terms_back : (t : Terms) → terms_in (terms_cells t) ≡ t
terms_back (Trusted committed None) = refl
terms_back (Trusted committed (Some p)) = excess p.excess
  where
    excess : (e : Option Profile) → terms_in (terms_cells (Trusted committed (Some (record { profile = p.profile; excess = e })))) ≡ Trusted committed (Some (record { profile = p.profile; excess = e }))
    excess None = refl
    excess (Some x) = refl
terms_back (Policed (SrTcm p) Blind) = refl
terms_back (Policed (SrTcm p) Aware) = refl
terms_back (Policed (TrTcm p) Blind) = refl
terms_back (Policed (TrTcm p) Aware) = refl
terms_back (Policed (Rfc4115 p) Blind) = refl
terms_back (Policed (Rfc4115 p) Aware) = refl

terms_same : (a b : Terms) → terms_cells a ≡ terms_cells b → a ≡ b
terms_same a b same = sym (terms_back a) ∙ ap terms_in same ∙ terms_back b

choice_back : (c : Option ℕ) → choice_in (choice_cell c) ≡ c
choice_back None = refl
choice_back (Some n) = refl

choice_same : (a b : Option ℕ) → choice_cell a ≡ choice_cell b → a ≡ b
choice_same a b same = sym (choice_back a) ∙ ap choice_in same ∙ choice_back b

-- ---- the rule

abbrev ranges_in : Value → PortRangeValue → Option PortRangeValue
ranges_in (Int n) range = Some range
ranges_in other range = None

abbrev range_in : Row → Option PortRangeValue
range_in row = ranges_in (column row 0) (record { low = number_in (column row 0); high = number_in (column row 1) })

range_back : (r : Option PortRangeValue) → range_in (range_cells r) ≡ r
range_back None = refl
range_back (Some r) = refl

range_long : (r : Option PortRangeValue) → length (range_cells r) ≡ 2
range_long None = refl
range_long (Some r) = refl

range_same : (a b : Option PortRangeValue) → range_cells a ≡ range_cells b → a ≡ b
range_same a b same = sym (range_back a) ∙ ap range_in same ∙ range_back b

prefix_long : (p : Option Prefix) → length (prefix_cells p) ≡ 2
prefix_long None = refl
prefix_long (Some (V4 p)) = refl
prefix_long (Some (V6 p)) = refl

-- whether a value is a number
abbrev is_number : Value → Bool
is_number (Int n) = true
is_number other = false

abbrev is_text : Value → Bool
is_text (Text t) = true
is_text other = false

differ : (f : Value → Bool) (a b : Row) → f (column a 0) ≡ true → f (column b 0) ≡ false → a ≡ b → ⊥
differ f a b is is_not same = let e = sym is ∙ ap (λ (r : Row). f (column r 0)) same ∙ is_not in cc

prefix_same : (a b : Option Prefix) → IfSome a IsAddressed → IfSome b IsAddressed → prefix_cells a ≡ prefix_cells b → a ≡ b
prefix_same None None h k same = refl
prefix_same None (Some (V4 q)) h k same = absurd (differ is_number _ _ refl refl (sym same))
prefix_same None (Some (V6 q)) h k same = absurd (differ is_text _ _ refl refl (sym same))
prefix_same (Some (V4 p)) None h k same = absurd (differ is_number _ _ refl refl same)
prefix_same (Some (V4 p)) (Some (V4 q)) h k same =
    let first : p.address ≡ q.address = ap (λ (r : Row). number_in (column r 0)) same in
    let second : p.length ≡ q.length = ap (λ (r : Row). number_in (column r 1)) same in
    λ i. Some (V4 (record { address = first i; length = second i }))
prefix_same (Some (V4 p)) (Some (V6 q)) h k same = absurd (differ is_number _ _ refl refl same)
prefix_same (Some (V6 p)) None h k same = absurd (differ is_text _ _ refl refl same)
prefix_same (Some (V6 p)) (Some (V4 q)) h k same = absurd (differ is_text _ _ refl refl same)
prefix_same (Some (V6 p)) (Some (V6 q)) h k same =
    let first : p.address ≡ q.address = address_same p.address q.address h k (ap (λ (r : Row). text_in (column r 0)) same) in
    let second : p.length ≡ q.length = ap (λ (r : Row). number_in (column r 1)) same in
    λ i. Some (V6 (record { address = first i; length = second i }))

-- the cells of a rule, from the first on
abbrev prefixes : Rule → List Value
prefixes r = prefix_cells r.source ++ prefix_cells r.target

abbrev to_protocol : Rule → List Value
to_protocol r = prefixes r ++ (choice_cell r.protocol ∷ [])

abbrev to_sources : Rule → List Value
to_sources r = to_protocol r ++ range_cells r.source_ports

abbrev to_targets : Rule → List Value
to_targets r = to_sources r ++ range_cells r.target_ports

prefixes_long : (r : Rule) → length (prefixes r) ≡ 4
prefixes_long r = omega (arith, length-append (prefix_cells r.source) (prefix_cells r.target), prefix_long r.source, prefix_long r.target)

protocol_long : (r : Rule) → length (to_protocol r) ≡ 5
protocol_long r = omega (arith, length-append (prefixes r) (choice_cell r.protocol ∷ []), prefixes_long r)

sources_long : (r : Rule) → length (to_sources r) ≡ 7
sources_long r = omega (arith, length-append (to_protocol r) (range_cells r.source_ports), protocol_long r, range_long r.source_ports)

targets_long : (r : Rule) → length (to_targets r) ≡ 9
targets_long r = omega (arith, length-append (to_sources r) (range_cells r.target_ports), sources_long r, range_long r.target_ports)

rule_same : (a b : Rule) → IfSome a.source IsAddressed → IfSome a.target IsAddressed → IfSome b.source IsAddressed → IfSome b.target IsAddressed → rule_cells a ≡ rule_cells b → a ≡ b
rule_same a b sa ta sb tb same =
    let five = parts 9 (to_targets a) (to_targets b) (choice_cell a.dscp ∷ []) (choice_cell b.dscp ∷ []) (targets_long a) (targets_long b) same in
    let four = parts 7 (to_sources a) (to_sources b) (range_cells a.target_ports) (range_cells b.target_ports) (sources_long a) (sources_long b) five.0 in
    let three = parts 5 (to_protocol a) (to_protocol b) (range_cells a.source_ports) (range_cells b.source_ports) (protocol_long a) (protocol_long b) four.0 in
    let two = parts 4 (prefixes a) (prefixes b) (choice_cell a.protocol ∷ []) (choice_cell b.protocol ∷ []) (prefixes_long a) (prefixes_long b) three.0 in
    let one = parts 2 (prefix_cells a.source) (prefix_cells b.source) (prefix_cells a.target) (prefix_cells b.target) (prefix_long a.source) (prefix_long b.source) two.0 in
    let source : a.source ≡ b.source = prefix_same _ _ sa sb one.0 in
    let target : a.target ≡ b.target = prefix_same _ _ ta tb one.1 in
    let protocol : a.protocol ≡ b.protocol = choice_same _ _ (ap (λ (r : Row). column r 0) two.1) in
    let source_ports : a.source_ports ≡ b.source_ports = range_same _ _ three.1 in
    let target_ports : a.target_ports ≡ b.target_ports = range_same _ _ four.1 in
    let dscp : a.dscp ≡ b.dscp = choice_same _ _ (ap (λ (r : Row). column r 0) five.1) in
    λ i. record { source = source i; target = target i; protocol = protocol i; source_ports = source_ports i; target_ports = target_ports i; dscp = dscp i }

-- ---- the path

abbrev IsCharacter : ℕ → Type 0
IsCharacter c = c ≢ 47

-- two names without a slash with what stands behind them, a slash or nothing
heads : (m n : List ℕ) (ms ns : List (List ℕ)) → HasNoSlash m → HasNoSlash n → m ++ path_text ms ≡ n ++ path_text ns → (m ≡ n) × (path_text ms ≡ path_text ns)
heads [] [] ms ns h k same = (refl, same)
heads [] (y ∷ n) [] ns h k same = absurd cc
heads [] (y ∷ n) (w ∷ ms) ns h k same = absurd (k 0 y (omega arith) (sym (ap (λ (l : List ℕ). get_or l 0 y) same)))
heads (x ∷ m) [] ms [] h k same = absurd cc
heads (x ∷ m) [] ms (w ∷ ns) h k same = absurd (h 0 x (omega arith) (ap (λ (l : List ℕ). get_or l 0 x) same))
heads (x ∷ m) (y ∷ n) ms ns h k same =
    let first : x ≡ y = ap (λ (l : List ℕ). get_or l 0 x) same in
    let rest = heads m n ms ns (All-tail IsCharacter x m h) (All-tail IsCharacter y n k) (ap (drop 1) same) in
    (λ i. first i ∷ rest.0 i, rest.1)

path_same : (a b : List (List ℕ)) → All HasNoSlash a → All HasNoSlash b → path_text a ≡ path_text b → a ≡ b
path_same [] [] h k same = refl
path_same [] (y ∷ b) h k same = absurd cc
path_same (x ∷ a) [] h k same = absurd cc
path_same (x ∷ a) (y ∷ b) h k same =
    let both = heads x y a b (h 0 x (omega arith)) (k 0 y (omega arith)) (ap (drop 1) same) in
    let rest = path_same a b (All-tail HasNoSlash x a h) (All-tail HasNoSlash y b k) both.1 in
    λ i. both.0 i ∷ rest i

-- ---- the contract

abbrev way : Contract → List Value
way c = Text c.name ∷ Text c.port ∷ Text (path_text c.path) ∷ number_cell c.class ∷ []

abbrev to_terms : Contract → List Value
to_terms c = way c ++ terms_cells c.terms

abbrev life : Contract → List Value
life c = number_cell c.lifetime.since ∷ choice_cell c.lifetime.until ∷ []

abbrev to_life : Contract → List Value
to_life c = to_terms c ++ life c

terms_end : (c : Contract) → length (to_terms c) ≡ 12
terms_end c = omega (arith, length-append (way c) (terms_cells c.terms), terms_long c.terms)

life_end : (c : Contract) → length (to_life c) ≡ 14
life_end c = omega (arith, length-append (to_terms c) (life c), terms_end c)

contract_same : (a b : Contract) → IsSoundContract a → IsSoundContract b → contract_cells a ≡ contract_cells b → a ≡ b
contract_same a b h k same =
    let three = parts 14 (to_life a) (to_life b) (rule_cells a.rule) (rule_cells b.rule) (life_end a) (life_end b) same in
    let two = parts 12 (to_terms a) (to_terms b) (life a) (life b) (terms_end a) (terms_end b) three.0 in
    let one = parts 4 (way a) (way b) (terms_cells a.terms) (terms_cells b.terms) refl refl two.0 in
    let name : a.name ≡ b.name = ap (λ (r : Row). text_in (column r 0)) one.0 in
    let port : a.port ≡ b.port = ap (λ (r : Row). text_in (column r 1)) one.0 in
    let path : a.path ≡ b.path = path_same _ _ h.meters k.meters (ap (λ (r : Row). text_in (column r 2)) one.0) in
    let class : a.class ≡ b.class = ap (λ (r : Row). number_in (column r 3)) one.0 in
    let terms : a.terms ≡ b.terms = terms_same _ _ one.1 in
    let since : a.lifetime.since ≡ b.lifetime.since = ap (λ (r : Row). number_in (column r 0)) two.1 in
    let until : a.lifetime.until ≡ b.lifetime.until = choice_same _ _ (ap (λ (r : Row). column r 1) two.1) in
    let rule : a.rule ≡ b.rule = rule_same a.rule b.rule h.source h.target k.source k.target three.1 in
    λ i. record { name = name i; terms = terms i; port = port i; path = path i; class = class i; lifetime = record { since = since i; until = until i }; rule = rule i }

-- ---- the command

-- the third letter of what was done
abbrev deed : Row → ℕ
deed row = letter row 1 2

other_deed : (a b : Row) → deed a ≢ deed b → a ≡ b → ⊥
other_deed a b other same = other (ap deed same)

pub command_same : (serial granted : ℕ) (a b : Command) → IsSound a → IsSound b → cells_of serial (id_of granted a) a ≡ cells_of serial (id_of granted b) b → a ≡ b
command_same serial granted (Reserve a) (Reserve b) h k same = ap Reserve (contract_same a b h k (ap (drop 4) same))
command_same serial granted (Reserve a) (Release id at) h k same = absurd (other_deed _ _ (λ e. omega (arith, e)) same)
command_same serial granted (Reserve a) (Retire id moment) h k same = absurd (other_deed _ _ (λ e. omega (arith, e)) same)
command_same serial granted (Release id at) (Reserve b) h k same = absurd (other_deed _ _ (λ e. omega (arith, e)) same)
command_same serial granted (Release id at) (Release it on) h k same =
    let first : id ≡ it = ap (λ (r : Row). number_in (column r 2)) same in
    let second : at ≡ on = ap (λ (r : Row). number_in (column r 3)) same in
    λ i. Release (first i) (second i)
command_same serial granted (Release id at) (Retire it on) h k same = absurd (other_deed _ _ (λ e. omega (arith, e)) same)
command_same serial granted (Retire id at) (Reserve b) h k same = absurd (other_deed _ _ (λ e. omega (arith, e)) same)
command_same serial granted (Retire id at) (Release it on) h k same = absurd (other_deed _ _ (λ e. omega (arith, e)) same)
command_same serial granted (Retire id at) (Retire it on) h k same =
    let first : id ≡ it = ap (λ (r : Row). number_in (column r 2)) same in
    let second : at ≡ on = ap (λ (r : Row). number_in (column r 3)) same in
    λ i. Retire (first i) (second i)
