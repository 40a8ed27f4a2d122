-- Steps that lines say.
use Rattle.std.proofs.Common.{◌≡◌, ◌≢◌, ℕ, ◌-◌, ◌^◌, ◌<◌, ◌≤◌, false, codes, List, [], ◌∷◌, ◌++◌, length, Option, None, Some, IfSome, refl, ap, ◌∙◌, arith, bytes_eq}
use Rattle.line_text.specs.Lines.{fields_of, has_byte}
use Rattle.line_text.proofs.LineLemmas.{fields_of-cut}
use Rattle.ds_domain_base.specs.declared.contract.Contract.{Contract}
use Rattle.ds_runs.specs.declared.step.Step.TheVariants.{Send, Visit}
use Rattle.ds_runs.specs.declared.step.Step.{Step}
use Rattle.dsedge_lines.specs.Fronts.{IsFirstLine, IsNumberFront}
use Rattle.dsedge_lines.proofs.FrontLemmas.{first_behind, number_last, number_last_fields, number_then, number_then_fields, size_as}
use Rattle.dsedge_audit.specs.StepLines.{IsFrontStep, flow_named, step_in, step_of_fields}

-- a line with other than three fields behind the number of its packet sends none
pub other_sent : (contracts : List Contract) (name packet : List ℕ) (fields : List (List ℕ)) → length fields ≢ 3
    → step_of_fields contracts (codes "send" ∷ name ∷ packet ∷ fields) ≡ None
other_sent contracts name packet [] other = refl
other_sent contracts name packet (a ∷ []) other = refl
other_sent contracts name packet (a ∷ b ∷ []) other = refl
other_sent contracts name packet (a ∷ b ∷ c ∷ []) other = absurd (other refl)
other_sent contracts name packet (a ∷ b ∷ c ∷ d ∷ more) other = refl

-- a line with other than two fields behind `visit` says no visit
pub other_visited : (contracts : List Contract) (fields : List (List ℕ)) → length fields ≢ 2 → step_of_fields contracts (codes "visit" ∷ fields) ≡ None
other_visited contracts [] other = refl
other_visited contracts (a ∷ []) other = refl
other_visited contracts (a ∷ b ∷ []) other = absurd (other refl)
other_visited contracts (a ∷ b ∷ c ∷ []) other = refl
other_visited contracts (a ∷ b ∷ c ∷ d ∷ []) other = refl
other_visited contracts (a ∷ b ∷ c ∷ d ∷ x ∷ []) other = refl
other_visited contracts (a ∷ b ∷ c ∷ d ∷ x ∷ y ∷ more) other = refl

-- a line that begins with another field says no step
pub other_verb : (contracts : List Contract) (verb : List ℕ) (fields : List (List ℕ)) → bytes_eq verb (codes "send") ≡ false → bytes_eq verb (codes "visit") ≡ false
    → step_of_fields contracts (verb ∷ fields) ≡ None
other_verb contracts verb [] no_send no_visit = refl
other_verb contracts verb (a ∷ []) no_send no_visit = refl
other_verb contracts verb (a ∷ b ∷ []) no_send no_visit = rw no_visit refl
other_verb contracts verb (a ∷ b ∷ c ∷ []) no_send no_visit = refl
other_verb contracts verb (a ∷ b ∷ c ∷ d ∷ []) no_send no_visit = refl
other_verb contracts verb (a ∷ b ∷ c ∷ d ∷ x ∷ []) no_send no_visit = rw no_send refl
other_verb contracts verb (a ∷ b ∷ c ∷ d ∷ x ∷ y ∷ more) no_send no_visit = refl

-- ---- the line at the front of a text

-- a visit, by two numbers
pub visit_front : (contracts : List Contract) (text moments rest : List ℕ) (packet moment : ℕ) → IsNumberFront text packet (32 ∷ moments)
    → IsNumberFront moments moment (10 ∷ rest) → packet < 2 ^ 64 → moment < 2 ^ 63 → IsFrontStep contracts (codes "visit") text (Visit packet moment) rest
visit_front contracts text moments rest packet moment number at in_range early =
    let fields : fields_of (number.front ++ 32 ∷ at.front) ≡ number.front ∷ at.front ∷ [] =
    number_then_fields number at.front ∙ ap (λ later. number.front ∷ later) (number_last_fields at) in (
      number.front ++ 32 ∷ at.front,
      number_then number (number_last at),
      rw (fields, number.says (2 ^ 64 - 1) (omega (arith, in_range)), at.says (2 ^ 63 - 1) (omega (arith, early))) refl,
    )

-- a packet that is sent, by its contract's name and four numbers
pub send_front : (contracts : List Contract) (text name numbers sizes points moments rest : List ℕ) (flow packet size dscp moment : ℕ)
    → text ≡ name ++ 32 ∷ numbers → has_byte 10 name ≡ false → has_byte 32 name ≡ false → flow_named contracts name ≡ Some flow
    → IsNumberFront numbers packet (32 ∷ sizes) → IsNumberFront sizes size (32 ∷ points) → IsNumberFront points dscp (32 ∷ moments)
    → IsNumberFront moments moment (10 ∷ rest) → packet < 2 ^ 64 → 1 ≤ size → size < 2 ^ 16 → dscp ≤ 63 → moment < 2 ^ 63
    → IsFrontStep contracts (codes "send") text (Send flow packet size dscp moment) rest
send_front contracts text name numbers sizes points moments rest flow packet size dscp moment is endless spaceless known number bytes point at in_range least small low early =
    let behind_bytes = point.front ++ 32 ∷ at.front in
    let line = number.front ++ 32 ∷ (bytes.front ++ 32 ∷ behind_bytes) in
    let fields : fields_of (name ++ 32 ∷ line) ≡ name ∷ number.front ∷ bytes.front ∷ point.front ∷ at.front ∷ [] =
    fields_of-cut name line spaceless ∙ ap (λ later. name ∷ later) (number_then_fields number (bytes.front ++ 32 ∷ behind_bytes)
    ∙ ap (λ later. number.front ∷ later) (number_then_fields bytes behind_bytes
    ∙ ap (λ later. bytes.front ∷ later) (number_then_fields point at.front ∙ ap (λ later. point.front ∷ later) (number_last_fields at)))) in
    let says_packet = number.says (2 ^ 64 - 1) (omega (arith, in_range)) in
    let says_size = size_as size bytes.front (bytes.says 65535 (omega (arith, small))) least in
    let says_moment = at.says (2 ^ 63 - 1) (omega (arith, early)) in (
      name ++ 32 ∷ line,
      first_behind name endless is (number_then number (number_then bytes (number_then point (number_last at)))),
      rw (fields, known, says_packet, says_size, point.says 63 low, says_moment) refl,
    )

-- a verb and a space in front of it
pub step_behind : {R : Type 0} (rest_of : R → List ℕ) (contracts : List Contract) (verb text fields : List ℕ) (front : Option (Step × R))
    → has_byte 10 verb ≡ false → has_byte 32 verb ≡ false → text ≡ verb ++ 32 ∷ fields
    → IfSome front (λ parts. IsFrontStep contracts verb fields parts.0 (rest_of parts.1))
    → IfSome front (λ parts. (line : List ℕ) × IsFirstLine text line (rest_of parts.1) × (step_in contracts line ≡ Some parts.0))
unfolding step_in
step_behind rest_of contracts verb text fields None endless spaceless is says = tt
step_behind rest_of contracts verb text fields (Some parts) endless spaceless is says =
    (verb ++ 32 ∷ says.0, first_behind verb endless is says.1, ap (step_of_fields contracts) (fields_of-cut verb says.0 spaceless) ∙ says.2)
