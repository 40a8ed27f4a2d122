-- Frames that are parted: what they send, how they are held, and the text of their records.
use Rattle.std.proofs.Common.{◌≡◌, ℕ, suc, ◌+◌, ◌≤◌, cond, List, [], ◌∷◌, ◌++◌, length, zip, Option, None, Some, refl, sym, ap, ◌∙◌, append_assoc, append-nil, arith, max, All, eq-eqb, ne_eqb}
use Rattle.std.proofs.lemmas.List.Elements.{All-append, All-cons, All-head, All-nil, All-weaker}
use Rattle.moment_core.specs.declared.colour.Colour.{Colour}
use Rattle.pcap_capture.specs.Frames.{FrameValue}
use Rattle.ds_checker.specs.Acceptance.{Table}
use Rattle.frame_marker.specs.declared.sight.Sight.{Sight}
use Rattle.frame_marker.specs.declared.sight.Sight.TheVariants.{Carried, Matched, Skipped, Unmatched}
use Rattle.ds_conductor_base.specs.declared.sent.Sent.{Sent}
use Rattle.ds_conditioner.specs.Conditionings.{held_from, newest_after}
use Rattle.ds_conditioner.specs.Seens.{seen_at}
use Rattle.ds_conditioner.specs.Sendings.{packet_of, sent_by, sent_from, stamp_of}
use Rattle.ds_conditioner.specs.Texts.{coloured_text, plain_text, record_text, text_from}
use Rattle.ds_conditioner.specs.Helds.{HeldValue}
use Rattle.ds_conditioner.specs.declared.rule.RedRule.{RedRule}

pub newest_after-both : (newest : ℕ) (xs ys : List FrameValue) → newest_after newest (xs ++ ys) ≡ newest_after (newest_after newest xs) ys
unfolding newest_after
newest_after-both newest [] ys = refl
newest_after-both newest (f ∷ xs) ys = newest_after-both (max newest (stamp_of f)) xs ys

pub newest_after-one : (newest : ℕ) (f : FrameValue) → newest_after newest (f ∷ []) ≡ max newest (stamp_of f)
unfolding newest_after
newest_after-one newest f = refl

pub newest_after-none : (newest : ℕ) → newest_after newest [] ≡ newest
unfolding newest_after
newest_after-none newest = refl

pub sent_from-none : (see : FrameValue → Sight) (number newest : ℕ) → sent_from see number newest [] ≡ []
unfolding sent_from
sent_from-none see number newest = refl

pub sent_from-cons : (see : FrameValue → Sight) (number newest : ℕ) (f : FrameValue) (frames : List FrameValue)
    → sent_from see number newest (f ∷ frames) ≡ sent_by (see f) number (max newest (stamp_of f)) ++ sent_from see (suc number) (max newest (stamp_of f)) frames
unfolding sent_from
sent_from-cons see number newest f frames = refl

pub sent_from-one : (see : FrameValue → Sight) (number newest : ℕ) (f : FrameValue) → sent_from see number newest (f ∷ []) ≡ sent_by (see f) number (max newest (stamp_of f))
unfolding sent_from
sent_from-one see number newest f = append-nil (sent_by (see f) number (max newest (stamp_of f)))

-- what frames send, and then what those behind them send
pub sent_from-both : (see : FrameValue → Sight) (number newest next : ℕ) (xs ys : List FrameValue) → next ≡ number + length xs
    → sent_from see number newest (xs ++ ys) ≡ sent_from see number newest xs ++ sent_from see next (newest_after newest xs) ys
unfolding sent_from newest_after
sent_from-both see number newest next [] ys at = ap (λ n. sent_from see n newest ys) (let e : number ≡ next = omega arith in e)
sent_from-both see number newest next (f ∷ xs) ys at =
    let behind : next ≡ suc number + length xs = omega arith in
    ap (λ more. sent_by (see f) number (max newest (stamp_of f)) ++ more) (sent_from-both see (suc number) (max newest (stamp_of f)) next xs ys behind)
    ∙ sym (append_assoc (sent_by (see f) number (max newest (stamp_of f))) (sent_from see (suc number) (max newest (stamp_of f)) xs) (sent_from see next (newest_after (max newest (stamp_of f)) xs) ys))

pub held_from-none : (see : FrameValue → Sight) (number newest : ℕ) → held_from see number newest [] ≡ []
unfolding held_from
held_from-none see number newest = refl

pub held_from-cons : (see : FrameValue → Sight) (number newest : ℕ) (f : FrameValue) (frames : List FrameValue)
    → held_from see number newest (f ∷ frames)
    ≡ record { frame = seen_at f; packet = packet_of (see f) number (max newest (stamp_of f)) } ∷ held_from see (suc number) (max newest (stamp_of f)) frames
unfolding held_from
held_from-cons see number newest f frames = refl

pub held_from-both : (see : FrameValue → Sight) (number newest next : ℕ) (xs ys : List FrameValue) → next ≡ number + length xs
    → held_from see number newest (xs ++ ys) ≡ held_from see number newest xs ++ held_from see next (newest_after newest xs) ys
unfolding held_from newest_after
held_from-both see number newest next [] ys at = ap (λ n. held_from see n newest ys) (let e : number ≡ next = omega arith in e)
held_from-both see number newest next (f ∷ xs) ys at =
    let behind : next ≡ suc number + length xs = omega arith in
    let own : HeldValue = record { frame = seen_at f; packet = packet_of (see f) number (max newest (stamp_of f)) } in
    ap (λ more. own ∷ more) (held_from-both see (suc number) (max newest (stamp_of f)) next xs ys behind)

packet_at_number : (sight : Sight) (number moment : ℕ) → All (λ (s : Sent). number ≤ s.packet) (sent_by sight number moment)
packet_at_number Carried number moment = All-nil (λ (s : Sent). number ≤ s.packet)
packet_at_number Skipped number moment = All-nil (λ (s : Sent). number ≤ s.packet)
packet_at_number Unmatched number moment = All-nil (λ (s : Sent). number ≤ s.packet)
packet_at_number (Matched flow header) number moment =
    let s : Sent = record { flow = flow; packet = number; size = header.total; dscp = header.dscp; moment = moment } in
    All-cons (λ (s : Sent). number ≤ s.packet) s [] (omega arith) (All-nil (λ (s : Sent). number ≤ s.packet))

-- packets have the numbers of their frames
pub sent_from-numbered : (see : FrameValue → Sight) (number newest : ℕ) (frames : List FrameValue) → All (λ (s : Sent). number ≤ s.packet) (sent_from see number newest frames)
unfolding sent_from
sent_from-numbered see number newest [] = All-nil (λ (s : Sent). number ≤ s.packet)
sent_from-numbered see number newest (f ∷ frames) =
    All-append (λ (s : Sent). number ≤ s.packet) (sent_by (see f) number (max newest (stamp_of f))) (sent_from see (suc number) (max newest (stamp_of f)) frames)
    (packet_at_number (see f) number (max newest (stamp_of f)))
    (All-weaker (λ (s : Sent). suc number ≤ s.packet) (λ (s : Sent). number ≤ s.packet) (λ s up. omega (arith, up)) (sent_from see (suc number) (max newest (stamp_of f)) frames)
    (sent_from-numbered see (suc number) (max newest (stamp_of f)) frames))

-- no packets have no records, and those of later frames are not that of this one
skipped : (t : Table) (red : RedRule) (number : ℕ) (f : FrameValue) (frames : List FrameValue) (sent : List Sent) (colours : List Colour)
    → All (λ (s : Sent). suc number ≤ s.packet) sent
    → text_from t red number (f ∷ frames) (zip sent colours) ≡ plain_text f ++ text_from t red (suc number) frames (zip sent colours)
unfolding text_from
skipped t red number f frames [] colours later = refl
skipped t red number f frames (s ∷ sent) [] later = refl
skipped t red number f frames (s ∷ sent) (colour ∷ colours) later =
    let up : suc number ≤ s.packet = All-head (λ (it : Sent). suc number ≤ it.packet) s sent later in
    ap (λ same. cond same (coloured_text t red f s colour ++ text_from t red (suc number) frames (zip sent colours))
    (plain_text f ++ text_from t red (suc number) frames ((s, colour) ∷ zip sent colours)))
    (ne_eqb s.packet number (λ e. absurd (omega arith)))

-- the packet of a frame, with the colour that stands first
abbrev pub coloured_by : Option Sent → List Colour → Option (Sent × Colour)
coloured_by None colours = None
coloured_by (Some s) [] = None
coloured_by (Some s) (colour ∷ colours) = Some (s, colour)

-- the record of a frame, and then those of the frames behind it
first_record : (t : Table) (red : RedRule) (see : FrameValue → Sight) (number newest moment : ℕ) (sight : Sight) (f : FrameValue) (frames : List FrameValue) (own colours : List Colour)
    → length own ≡ length (sent_by sight number moment)
    → text_from t red number (f ∷ frames) (zip (sent_by sight number moment ++ sent_from see (suc number) newest frames) (own ++ colours))
    ≡ record_text t red f (coloured_by (packet_of sight number moment) own) ++ text_from t red (suc number) frames (zip (sent_from see (suc number) newest frames) colours)
unfolding text_from
first_record t red see number newest moment Carried f frames [] colours even = skipped t red number f frames (sent_from see (suc number) newest frames) colours (sent_from-numbered see (suc number) newest frames)
first_record t red see number newest moment Skipped f frames [] colours even = skipped t red number f frames (sent_from see (suc number) newest frames) colours (sent_from-numbered see (suc number) newest frames)
first_record t red see number newest moment Unmatched f frames [] colours even = skipped t red number f frames (sent_from see (suc number) newest frames) colours (sent_from-numbered see (suc number) newest frames)
first_record t red see number newest moment (Matched flow header) f frames [] colours even = absurd (omega arith)
first_record t red see number newest moment Carried f frames (colour ∷ own) colours even = absurd (omega arith)
first_record t red see number newest moment Skipped f frames (colour ∷ own) colours even = absurd (omega arith)
first_record t red see number newest moment Unmatched f frames (colour ∷ own) colours even = absurd (omega arith)
first_record t red see number newest moment (Matched flow header) f frames (colour ∷ []) colours even =
    let s : Sent = record { flow = flow; packet = number; size = header.total; dscp = header.dscp; moment = moment } in
    let rest = sent_from see (suc number) newest frames in
    ap (λ same. cond same (coloured_text t red f s colour ++ text_from t red (suc number) frames (zip rest colours))
    (plain_text f ++ text_from t red (suc number) frames ((s, colour) ∷ zip rest colours)))
    (eq-eqb number number refl)
first_record t red see number newest moment (Matched flow header) f frames (colour ∷ (other ∷ own)) colours even = absurd (omega arith)

-- colours that are parted as packets are
record IsParted (first second : List Sent) (colours : List Colour) : Type 0 where
  own : List Colour
  others : List Colour
  whole : colours ≡ own ++ others
  even : length own ≡ length first
  left : length others ≡ length second

parted : (first second : List Sent) (colours : List Colour) → length colours ≡ length (first ++ second) → IsParted first second colours
parted [] second colours long = record { own = []; others = colours; whole = refl; even = refl; left = long }
parted (s ∷ first) second [] long = absurd (omega arith)
parted (s ∷ first) second (colour ∷ colours) long =
    let behind = parted first second colours (omega arith) in
    record { own = colour ∷ behind.own; others = behind.others; whole = ap (λ cs. colour ∷ cs) behind.whole; even = ap suc behind.even; left = behind.left }

pub text_none : (t : Table) (red : RedRule) (number : ℕ) (coloured : List (Sent × Colour)) → text_from t red number [] coloured ≡ []
unfolding text_from
text_none t red number coloured = refl

-- the records of frames, and then those of the frames behind them
pub text_both : (t : Table) (red : RedRule) (see : FrameValue → Sight) (number newest next : ℕ) (xs ys : List FrameValue) (colours others : List Colour)
    → next ≡ number + length xs → length colours ≡ length (sent_from see number newest xs)
    → text_from t red number (xs ++ ys) (zip (sent_from see number newest (xs ++ ys)) (colours ++ others))
    ≡ text_from t red number xs (zip (sent_from see number newest xs) colours)
    ++ text_from t red next ys (zip (sent_from see next (newest_after newest xs) ys) others)
unfolding sent_from newest_after
text_both t red see number newest next [] ys [] others at even =
    ap (λ n. text_from t red n ys (zip (sent_from see n newest ys) others)) (let e : number ≡ next = omega arith in e)
    ∙ ap (λ none. none ++ text_from t red next ys (zip (sent_from see next newest ys) others)) (sym (text_none t red number []))
text_both t red see number newest next [] ys (colour ∷ colours) others at even = absurd (omega arith)
text_both t red see number newest next (f ∷ xs) ys colours others at even =
    let moment = max newest (stamp_of f) in
    let sight = see f in
    let behind : next ≡ suc number + length xs = omega arith in
    let parts = parted (sent_by sight number moment) (sent_from see (suc number) moment xs) colours even in
    let own = record_text t red f (coloured_by (packet_of sight number moment) parts.own) in
    let all = append_assoc parts.own parts.others others in
    let more = text_both t red see (suc number) moment next xs ys parts.others others behind parts.left in
    ap (λ cs. text_from t red number (f ∷ (xs ++ ys)) (zip (sent_by sight number moment ++ sent_from see (suc number) moment (xs ++ ys)) (cs ++ others))) parts.whole
    ∙ ap (λ cs. text_from t red number (f ∷ (xs ++ ys)) (zip (sent_by sight number moment ++ sent_from see (suc number) moment (xs ++ ys)) cs)) all
    ∙ first_record t red see number moment moment sight f (xs ++ ys) parts.own (parts.others ++ others) parts.even
    ∙ ap (λ rest. own ++ rest) more
    ∙ sym (append_assoc own (text_from t red (suc number) xs (zip (sent_from see (suc number) moment xs) parts.others))
    (text_from t red next ys (zip (sent_from see next (newest_after moment xs) ys) others)))
    ∙ ap (λ first. first ++ text_from t red next ys (zip (sent_from see next (newest_after moment xs) ys) others))
    (sym (first_record t red see number moment moment sight f xs parts.own parts.others parts.even)
    ∙ ap (λ cs. text_from t red number (f ∷ xs) (zip (sent_by sight number moment ++ sent_from see (suc number) moment xs) cs)) (sym parts.whole))

-- the record of one frame
pub text_one : (t : Table) (red : RedRule) (see : FrameValue → Sight) (number newest : ℕ) (f : FrameValue) (own : List Colour)
    → length own ≡ length (sent_by (see f) number (max newest (stamp_of f)))
    → text_from t red number (f ∷ []) (zip (sent_from see number newest (f ∷ [])) own)
    ≡ record_text t red f (coloured_by (packet_of (see f) number (max newest (stamp_of f))) own)
unfolding sent_from
text_one t red see number newest f own even =
    let moment = max newest (stamp_of f) in
    ap (λ cs. text_from t red number (f ∷ []) (zip (sent_by (see f) number moment ++ []) cs)) (sym (append-nil own))
    ∙ first_record t red see number moment moment (see f) f [] own [] even
    ∙ ap (λ rest. record_text t red f (coloured_by (packet_of (see f) number moment) own) ++ rest) (text_none t red (suc number) [])
    ∙ append-nil (record_text t red f (coloured_by (packet_of (see f) number moment) own))

-- pairs, parted
pub zip_both : {A B : Type 0} (xs ys : List A) (us vs : List B) → length us ≡ length xs → zip (xs ++ ys) (us ++ vs) ≡ zip xs us ++ zip ys vs
zip_both [] ys [] vs even = refl
zip_both [] ys (u ∷ us) vs even = absurd (omega arith)
zip_both (x ∷ xs) ys [] vs even = absurd (omega arith)
zip_both (x ∷ xs) ys (u ∷ us) vs even = ap (λ rest. (x, u) ∷ rest) (zip_both xs ys us vs (omega arith))
