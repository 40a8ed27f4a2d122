-- Lots that are passed on, in part or whole.
use Rattle.std.proofs.Common.{◌≡◌, ℕ, true, List, [], ◌++◌, append-nil, append_assoc, ap, refl, sym, subst, ◌∙◌}
use Rattle.pcap_capture.specs.Frames.{FrameValue}
use Rattle.ds_conditioner.specs.Conditionings.{IsConditioned}
use Rattle.ds_conditioner.specs.Handings.{AreHandedOut, IsPassedInPart}
use Rattle.ds_conditioner.specs.declared.conditioner.Conditioner.{Conditioner}
use Rattle.ds_conditioner.specs.declared.port.Port.{Port}

-- a text behind which nothing is shown, and nothing is lost
as_shown : (p : Port) (frames : List FrameValue) (shown : List ℕ) (c : Conditioner) → IsConditioned p true frames shown c
    → IsConditioned p true frames ((shown ++ []) ++ []) c
as_shown p frames shown c at = subst (λ (t : List ℕ). IsConditioned p true frames t c) (sym (append-nil (shown ++ []) ∙ append-nil shown)) at

-- nothing was taken in
pub none_passed : (p : Port) (c : Conditioner) (frames : List FrameValue) → IsPassedInPart p c c frames []
none_passed p c frames before shown at =
    ([], frames, [], refl, subst (λ (fs : List FrameValue). IsConditioned p true fs ((shown ++ []) ++ []) c) (sym (append-nil before)) (as_shown p before shown c at))

-- a front was taken in
pub front_passed : (p : Port) (old new : Conditioner) (frames : List FrameValue)
    → ((before : List FrameValue) (text : List ℕ) → IsConditioned p true before text old
    → (front : List FrameValue) × (others : List FrameValue) × (frames ≡ front ++ others) × IsConditioned p true (before ++ front) text new)
    → IsPassedInPart p old new frames []
front_passed p old new frames part before shown at =
    let some = part before shown at in
    (some.0, some.1, [], some.2, as_shown p (before ++ some.0) shown new some.3)

-- all were taken in, and some text was lost
pub all_passed : (p : Port) (new : Conditioner) (before frames : List FrameValue) (shown own : List ℕ) → IsConditioned p true (before ++ frames) (shown ++ own) new
    → (front : List FrameValue) × (others : List FrameValue) × (lost : List ℕ) × (frames ≡ front ++ others)
    × IsConditioned p true (before ++ front) ((shown ++ []) ++ lost) new
all_passed p new before frames shown own at =
    (frames, [], own, sym (append-nil frames), subst (λ (t : List ℕ). IsConditioned p true (before ++ frames) (t ++ own) new) (sym (append-nil shown)) at)

-- ---- handed out, one after the other

-- nothing is handed out
pub none_added : (p : Port) (c : Conditioner) (out : List ℕ) → AreHandedOut p c c out out
none_added p c out more frames text at = ([], sym (append-nil out), subst (λ (t : List ℕ). IsConditioned p more frames t c) (sym (append-nil text)) at)

-- what is handed out behind what was handed out
pub added_on : (p : Port) (old so_far new : Conditioner) (out more left : List ℕ) → AreHandedOut p old so_far out more → AreHandedOut p so_far new more left → AreHandedOut p old new out left
added_on p old so_far new out more left first second comes frames text at =
    let one = first comes frames text at in
    let two = second comes frames (text ++ one.0) one.2 in (
      one.0 ++ two.0,
      two.1 ∙ ap (λ (it : List ℕ). it ++ two.0) one.1 ∙ append_assoc out one.0 two.0,
      subst (λ (t : List ℕ). IsConditioned p comes frames t new) (append_assoc text one.0 two.0) two.2,
    )
