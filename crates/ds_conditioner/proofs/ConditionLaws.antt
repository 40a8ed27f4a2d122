-- Frames that are seen, held and handed out.
use Rattle.std.proofs.Common.{◌≡◌, inl, inr, ℕ, suc, ◌+◌, ◌≤◌, Bool, true, false, cond, List, [], ◌∷◌, ◌++◌, length, zip, Option, None, Some, refl, sym, ap, ap₂, subst, ◌∙◌, append_assoc, append-nil, length-append, arith, max, option_to_list, IsSome}
use Rattle.std.proofs.lemmas.List.{nil_from_length}
use Rattle.std.proofs.lemmas.List.Sums.{sum_by-append}
use Rattle.moment_core.specs.Colours.{is_green, is_red, is_yellow}
use Rattle.moment_core.specs.declared.colour.Colour.{Colour}
use Rattle.pcap_capture.specs.Frames.{FrameValue, link_in}
use Rattle.frame_marker.specs.Marks.{mark_in}
use Rattle.frame_marker.specs.declared.sight.Sight.{Sight}
use Rattle.frame_marker.specs.declared.sight.Sight.TheVariants.{Carried, Matched, Skipped, Unmatched}
use Rattle.ds_conductor_base.proofs.ColouringLaws.{handed_out, sent_first}
use Rattle.ds_conductor_base.proofs.StreamLaws.{one_colour_each}
use Rattle.ds_conductor_base.specs.Passing.{colours_of}
use Rattle.ds_conductor_base.specs.Streams.{ComeFrom, Stream, begun, colours_left}
use Rattle.ds_conductor_base.proofs.HeadStartLaws.{come_both, come_none, come_sooner}
use Rattle.ds_conductor_base.specs.declared.sent.Sent.{Sent}
use Rattle.ds_checker.specs.Acceptance.{IsAcceptable}
use Rattle.ds_conductor_base.specs.Ways.{AreInReach}
use Rattle.ds_runs.specs.Judging.{unjudged, verdict_with}
use Rattle.ds_conditioner.specs.Conditionings.{IsConditioned, IsDecided, IsJudging, IsSeeing, IsUndecided, MayCome, held_from, newest_after, see_at}
use Rattle.ds_conditioner.specs.Helds.{HeldFramesValue, HeldValue, IsFirstFrame, IsFirstPacket, IsLetGo}
use Rattle.ds_conditioner.specs.Reports.{bytes_as, is_packet, is_skipped, is_unmatched, is_unverified, packets_as, seen_as}
use Rattle.ds_conditioner.specs.Seens.{IsSeen, SeenValue, seen_at}
use Rattle.ds_conditioner.specs.Sendings.{AreCounted, counted_on, nothing_counted, packet_of, sent_by, sent_from, sent_of, stamp_of}
use Rattle.ds_conditioner.specs.Tallies.{AreTallied, grown, grown_all, nothing_tallied, tally_of}
use Rattle.ds_conditioner.specs.Texts.{record_text, text_from}
use Rattle.ds_conditioner.specs.declared.conditioner.Conditioner.{Conditioner}
use Rattle.ds_conditioner.specs.declared.port.Port.{Port}
use Rattle.ds_conditioner.specs.declared.sending.Counts.{Counts}
use Rattle.ds_conditioner.specs.declared.tally.Tallies.{Tallies}
use Rattle.ds_conditioner.specs.declared.tally.Tally.{Tally}
use Rattle.ds_conditioner.proofs.FrameLaws.{coloured_by, held_from-both, held_from-cons, held_from-none, newest_after-both, newest_after-none, newest_after-one, sent_from-both, sent_from-cons, sent_from-none, sent_from-one, text_both, text_none, text_one, zip_both}

-- ---- a frame is seen

-- what the frames behind these send
pub sent_of-both : (see : FrameValue → Sight) (xs ys : List FrameValue) → sent_of see (xs ++ ys) ≡ sent_of see xs ++ sent_from see (length xs) (newest_after 0 xs) ys
sent_of-both see xs ys = sent_from-both see 0 0 (length xs) xs ys (omega arith)

sent_of-one : (see : FrameValue → Sight) (xs : List FrameValue) (f : FrameValue) (sight : Sight) (moment : ℕ) → sight ≡ see f → moment ≡ max (newest_after 0 xs) (stamp_of f)
    → sent_of see (xs ++ f ∷ []) ≡ sent_of see xs ++ sent_by sight (length xs) moment
sent_of-one see xs f sight moment seen late =
    sent_of-both see xs (f ∷ []) ∙ ap (λ more. sent_of see xs ++ more) (sent_from-one see (length xs) (newest_after 0 xs) f)
    ∙ ap (λ more. sent_of see xs ++ more) (ap₂ (λ s m. sent_by s (length xs) m) (sym seen) (sym late))

seen_one : (see : FrameValue → Sight) (picked : Sight → Bool) (xs : List FrameValue) (f : FrameValue) (sight : Sight) → sight ≡ see f
    → seen_as see picked (xs ++ f ∷ []) ≡ seen_as see picked xs + cond (picked sight) 1 0
seen_one see picked xs f sight seen =
    let both : seen_as see picked (xs ++ f ∷ []) ≡ seen_as see picked xs + seen_as see picked (f ∷ []) = sum_by-append (λ (it : FrameValue). cond (picked (see it)) 1 0) xs (f ∷ []) in
    let own : cond {A = ℕ} (picked sight) 1 0 ≡ cond (picked (see f)) 1 0 = ap (λ it. cond {A = ℕ} (picked it) 1 0) seen in
    omega (arith, both, own)

sent_by-long : (sight : Sight) (number moment : ℕ) → length (sent_by sight number moment) ≡ length (sent_by sight 0 0)
sent_by-long Carried number moment = refl
sent_by-long Skipped number moment = refl
sent_by-long Unmatched number moment = refl
sent_by-long (Matched flow header) number moment = refl

counted_one : (see : FrameValue → Sight) (xs : List FrameValue) (f : FrameValue) (sight : Sight) (moment : ℕ) (c : Counts) → sight ≡ see f → moment ≡ max (newest_after 0 xs) (stamp_of f)
    → AreCounted see xs c → AreCounted see (xs ++ f ∷ []) (counted_on c sight)
counted_one see xs f sight moment c seen late counted = record {
  records = omega (arith, counted.records, length-append xs (f ∷ []));
  packets = ap (λ n. n + cond (is_packet sight) 1 0) counted.packets ∙ sym (seen_one see is_packet xs f sight seen);
  matched = omega (arith, counted.matched, sent_by-long sight (length xs) moment, ap length (sent_of-one see xs f sight moment seen late), length-append (sent_of see xs) (sent_by sight (length xs) moment));
  unmatched = ap (λ n. n + cond (is_unmatched sight) 1 0) counted.unmatched ∙ sym (seen_one see is_unmatched xs f sight seen);
  skipped = ap (λ n. n + cond (is_skipped sight) 1 0) counted.skipped ∙ sym (seen_one see is_skipped xs f sight seen);
  unverified = ap (λ n. n + cond (is_unverified sight) 1 0) counted.unverified ∙ sym (seen_one see is_unverified xs f sight seen);
}

-- One frame more is held, and its packet, if there is one, is under way.
pub seen : (p : Port) (frames : List FrameValue) (text : List ℕ) (f : FrameValue) (sight : Sight) (moment : ℕ) (packet : Option Sent) (before after : Conditioner)
    → IsConditioned p true frames text before
    → sight ≡ see_at p f → moment ≡ max before.newest (stamp_of f) → packet ≡ packet_of sight before.counts.records moment
    → after.newest ≡ moment → after.counts ≡ counted_on before.counts sight → after.tallies ≡ before.tallies
    → after.held.held ≡ before.held.held ++ record { frame = seen_at f; packet = packet } ∷ []
    → ((back : List Sent) → colours_left after.under_way back ≡ colours_left before.under_way (option_to_list packet ++ back))
    → ((back : List Sent) → verdict_with after.judge back ≡ verdict_with before.judge (option_to_list packet ++ back))
    → after.due ≤ moment + p.ahead → after.under_way.table ≡ before.under_way.table
    → IsConditioned p true (frames ++ f ∷ []) text after
seen p frames text f sight moment packet before after was sighted late sent newest counts tallies held under tells due table =
    let see = see_at p in
    let now : moment ≡ max (newest_after 0 frames) (stamp_of f) = late ∙ ap (λ n. max n (stamp_of f)) was.newest in
    let number : before.counts.records ≡ length frames = was.counted.records in
    let own : packet ≡ packet_of sight (length frames) moment = sent ∙ ap (λ n. packet_of sight n moment) number in
    let all = sent_of-one see frames f sight moment sighted now in
    let place : length frames ≡ length was.gone + length was.waiting = ap length was.parted ∙ length-append was.gone was.waiting in
    let stamp : newest_after (newest_after 0 was.gone) was.waiting ≡ newest_after 0 frames = sym (newest_after-both 0 was.gone was.waiting) ∙ ap (newest_after 0) (sym was.parted) in
    let one : HeldValue = record { frame = seen_at f; packet = packet } in
    let last : held_from see (length frames) (newest_after 0 frames) (f ∷ []) ≡ one ∷ [] =
    held_from-cons see (length frames) (newest_after 0 frames) f []
    ∙ ap (λ (q : Option Sent). record { frame = seen_at f; packet = q } ∷ held_from see (suc (length frames)) (max (newest_after 0 frames) (stamp_of f)) [])
    (ap₂ (λ s m. packet_of s (length frames) m) (sym sighted) (sym now) ∙ sym own)
    ∙ ap (λ rest. one ∷ rest) (held_from-none see (suc (length frames)) (max (newest_after 0 frames) (stamp_of f))) in
    record {
      gone = was.gone;
      waiting = was.waiting ++ f ∷ [];
      colours = was.colours;
      parted = ap (λ fs. fs ++ f ∷ []) was.parted ∙ append_assoc was.gone was.waiting (f ∷ []);
      paired = was.paired;
      written = was.written;
      held = held ∙ ap (λ hs. hs ++ one ∷ []) was.held
          ∙ ap (λ more. held_from see (length was.gone) (newest_after 0 was.gone) was.waiting ++ more)
          (sym last ∙ ap (λ m. held_from see (length frames) m (f ∷ [])) (sym stamp))
          ∙ sym (held_from-both see (length was.gone) (newest_after 0 was.gone) (length frames) was.waiting (f ∷ []) place);
      newest = newest ∙ now ∙ sym (newest_after-both 0 frames (f ∷ []) ∙ newest_after-one (newest_after 0 frames) f);
      due = omega (arith, due, newest);
      table = table ∙ was.table;
      comes = λ back from.
          let up : before.newest ≤ moment = omega (arith, late) in
          let end = before.newest + p.ahead in
          let later : ComeFrom p.accepted.now end back = come_sooner p.accepted.now end (after.newest + p.ahead) back (omega (arith, up, newest)) from in
          let here : ComeFrom p.accepted.now end (sent_by (see_at p f) (length frames) moment) =
          come_sooner p.accepted.now end (moment + p.ahead) (sent_by (see_at p f) (length frames) moment) (omega (arith, up)) (p.holds f (length frames) moment) in
          let first : ComeFrom p.accepted.now end (option_to_list packet) =
          subst (λ (q : Option Sent). ComeFrom p.accepted.now end (option_to_list q)) (sym own)
          (subst (λ (s : Sight). ComeFrom p.accepted.now end (sent_by s (length frames) moment)) (sym sighted) here) in
          ap (λ s. colours_of p.accepted.now (s ++ back)) (all ∙ ap (λ q. sent_of see frames ++ option_to_list q) (sym own))
          ∙ ap (colours_of p.accepted.now) (append_assoc (sent_of see frames) (option_to_list packet) back)
          ∙ was.comes (option_to_list packet ++ back) (come_both p.accepted.now end (option_to_list packet) back first later)
          ∙ ap (λ cs. was.colours ++ cs) (sym (under back));
      counted = subst (AreCounted see (frames ++ f ∷ [])) (sym counts) (counted_one see frames f sight moment before.counts sighted now was.counted);
      tallied = subst (AreTallied (zip (sent_of see was.gone) was.colours)) (sym tallies) was.tallied;
      judging = record {
        acceptable = was.judging.acceptable;
        reach = was.judging.reach;
        seeing = was.judging.seeing;
        tells = λ back.
            ap (λ s. verdict_with (unjudged p.accepted.now) (s ++ back)) (all ∙ ap (λ q. sent_of see frames ++ option_to_list q) (sym own))
            ∙ ap (verdict_with (unjudged p.accepted.now)) (append_assoc (sent_of see frames) (option_to_list packet) back)
            ∙ was.judging.tells (option_to_list packet ++ back)
            ∙ sym (tells back);
      };
    }

-- ---- visits are made

-- Nothing but the packets under way changed.
pub made : (p : Port) (more still : Bool) (frames : List FrameValue) (text : List ℕ) (before after : Conditioner) → IsConditioned p more frames text before
    → after.newest ≡ before.newest → after.due ≡ before.due → after.counts ≡ before.counts → after.tallies ≡ before.tallies → after.held.held ≡ before.held.held → after.judge ≡ before.judge
    → after.under_way.table ≡ before.under_way.table
    → ((back : List Sent) → MayCome still p before.newest back → MayCome more p before.newest back × (colours_left after.under_way back ≡ colours_left before.under_way back))
    → IsConditioned p still frames text after
made p more still frames text before after was newest due counts tallies held judge table under = record {
  gone = was.gone;
  waiting = was.waiting;
  colours = was.colours;
  parted = was.parted;
  paired = was.paired;
  written = was.written;
  held = held ∙ was.held;
  newest = newest ∙ was.newest;
  due = omega (arith, was.due, newest, due);
  table = table ∙ was.table;
  comes = λ back from.
      let same = under back (subst (λ n. MayCome still p n back) newest from) in
      was.comes back same.0 ∙ ap (λ cs. was.colours ++ cs) (sym same.1);
  counted = subst (AreCounted (see_at p) frames) (sym counts) was.counted;
  tallied = subst (AreTallied (zip (sent_of (see_at p) was.gone) was.colours)) (sym tallies) was.tallied;
  judging = subst (IsJudging p frames) (sym judge) was.judging;
}

-- ---- at first

-- Before the first frame nothing is handed out, and all colours come.
pub begins : (p : Port) (c : Conditioner) → c.under_way ≡ begun p.accepted.now → c.held.held ≡ [] → c.newest ≡ 0 → c.due ≡ 0 → c.counts ≡ nothing_counted → c.tallies ≡ nothing_tallied
    → c.judge ≡ unjudged p.accepted.now → IsAcceptable p.accepted.now → AreInReach p.accepted.now → IsSeeing p → IsConditioned p true [] [] c
begins p c first none zero_ due counts tallies judge acceptable reach seeing =
    let see = see_at p in
    let nobody : sent_of see [] ≡ [] = sent_from-none see 0 0 in
    let pairs : List (Sent × Colour) = [] in
    record {
      gone = [];
      waiting = [];
      colours = [];
      parted = refl;
      paired = sym (ap length nobody);
      written = sym (text_none p.accepted.now p.red 0 (zip (sent_of see []) []));
      held = none ∙ sym (held_from-none see 0 (newest_after 0 []));
      newest = zero_ ∙ sym (newest_after-none 0);
      due = omega (arith, due);
      table = ap (λ (u : Stream). u.table) first;
      comes = λ back from.
          ap (λ s. colours_of p.accepted.now (s ++ back)) nobody ∙ sym (sent_first p.accepted.now back c.under_way first);
      counted = subst (AreCounted see []) (sym counts) (record { records = refl; packets = refl; matched = sym (ap length nobody); unmatched = refl; skipped = refl; unverified = refl });
      tallied = subst (AreTallied (zip (sent_of see []) [])) (sym tallies)
          (subst (λ (s : List Sent). AreTallied (zip s []) nothing_tallied) (sym nobody) (record { green = refl; yellow = refl; red = refl }));
      judging = record {
        acceptable = acceptable;
        reach = reach;
        seeing = seeing;
        tells = λ back. ap (λ s. verdict_with (unjudged p.accepted.now) (s ++ back)) nobody ∙ sym (ap (λ j. verdict_with j back) judge);
      };
    }

-- ---- a frame is handed out

-- the sums of packets and of one more
grown_one : (picked : Colour → Bool) (before : List (Sent × Colour)) (s : Sent) (colour : Colour) → tally_of picked (before ++ (s, colour) ∷ []) ≡ grown (tally_of picked before) (picked colour) s.size
grown_one picked before s colour =
    let packets : packets_as picked (before ++ (s, colour) ∷ []) ≡ packets_as picked before + cond (picked colour) 1 0 =
    let both = sum_by-append (λ (it : Sent × Colour). cond {A = ℕ} (picked it.1) 1 0) before ((s, colour) ∷ []) in omega (arith, both) in
    let bytes : bytes_as picked (before ++ (s, colour) ∷ []) ≡ bytes_as picked before + cond (picked colour) s.size 0 =
    let both = sum_by-append (λ (it : Sent × Colour). cond {A = ℕ} (picked it.1) it.0.size 0) before ((s, colour) ∷ []) in omega (arith, both) in
    ap₂ (λ (n m : ℕ). let t : Tally = record { packets = n; bytes = m } in t) packets bytes

pub tallied_one : (before : List (Sent × Colour)) (s : Sent) (colour : Colour) (t after : Tallies) → AreTallied before t → after ≡ grown_all t colour s.size
    → AreTallied (before ++ (s, colour) ∷ []) after
tallied_one before s colour t after was is = subst (AreTallied (before ++ (s, colour) ∷ [])) (sym is) (record {
  green = ap (λ (u : Tally). grown u (is_green colour) s.size) was.green ∙ sym (grown_one is_green before s colour);
  yellow = ap (λ (u : Tally). grown u (is_yellow colour) s.size) was.yellow ∙ sym (grown_one is_yellow before s colour);
  red = ap (λ (u : Tally). grown u (is_red colour) s.size) was.red ∙ sym (grown_one is_red before s colour);
})

first_held : (first second : HeldValue) (others rest : List HeldValue) → first ∷ others ≡ second ∷ rest → (first ≡ second) × (others ≡ rest)
first_held first second others rest is = (cc, cc)

no_held : (first : HeldValue) (others : List HeldValue) → first ∷ others ≡ [] → ⊥
no_held first others is = cc

-- A frame and what its packet left with are handed out.
abbrev HandsOut : Port → Bool → List FrameValue → List ℕ → HeldValue → List HeldValue → List Colour → Conditioner → Conditioner → List FrameValue → List FrameValue → List Colour → Type 0
HandsOut p more frames text first others own before after gone waiting colours =
    frames ≡ gone ++ waiting → length colours ≡ length (sent_of (see_at p) gone)
    → text ≡ text_from p.accepted.now p.red 0 gone (zip (sent_of (see_at p) gone) colours)
    → first ∷ others ≡ held_from (see_at p) (length gone) (newest_after 0 gone) waiting
    → AreTallied (zip (sent_of (see_at p) gone) colours) before.tallies
    → IsConditioned p more frames text before
    → IsSeen first.frame × IsConditioned p more frames (text ++ record_text p.accepted.now p.red first.frame.frame (coloured_by first.packet own)) after

hands_out : (p : Port) (more : Bool) (frames : List FrameValue) (text : List ℕ) (first : HeldValue) (others : List HeldValue) (own : List Colour) (before after : Conditioner)
    → after.held.held ≡ others → after.newest ≡ before.newest → after.due ≡ before.due → after.counts ≡ before.counts → after.judge ≡ before.judge
    → after.under_way.table ≡ before.under_way.table
    → length own ≡ length (option_to_list first.packet)
    → ((all : List (Sent × Colour)) → AreTallied all before.tallies → AreTallied (all ++ zip (option_to_list first.packet) own) after.tallies)
    → (gone waiting : List FrameValue) (colours : List Colour)
    → ((back : List Sent) → MayCome more p before.newest back → colours_of p.accepted.now (sent_of (see_at p) frames ++ back) ≡ colours ++ (own ++ colours_left after.under_way back))
    → HandsOut p more frames text first others own before after gone waiting colours
hands_out p more frames text first others own before after held newest due counts judge table even tallies gone [] colours under parted paired written is tallied was =
    absurd (no_held first others (is ∙ held_from-none (see_at p) (length gone) (newest_after 0 gone)))
hands_out p more frames text first others own before after held newest due counts judge table even tallies gone (f ∷ waiting) colours under parted paired written is tallied was =
    let see = see_at p in
    let stamp = newest_after 0 gone in
    let moment = max stamp (stamp_of f) in
    let sight = see f in
    let here : HeldValue = record { frame = seen_at f; packet = packet_of sight (length gone) moment } in
    let rest = held_from see (suc (length gone)) moment waiting in
    let apart = first_held first here others rest (is ∙ held_from-cons see (length gone) stamp f waiting) in
    let seen : first.frame ≡ seen_at f = ap (λ (h : HeldValue). h.frame) apart.0 in
    let frame : first.frame.frame ≡ f = ap (λ (s : SeenValue). s.frame) seen in
    let packet : first.packet ≡ packet_of sight (length gone) moment = ap (λ (h : HeldValue). h.packet) apart.0 in
    let one = sent_of-one see gone f sight moment refl refl in
    let fits : length own ≡ length (sent_by sight (length gone) moment) = even ∙ ap (λ (q : Option Sent). length (option_to_list q)) packet in
    let place : suc (length gone) ≡ length (gone ++ f ∷ []) = omega (arith, length-append gone (f ∷ [])) in
    let late : moment ≡ newest_after 0 (gone ++ f ∷ []) = sym (newest_after-both 0 gone (f ∷ []) ∙ newest_after-one stamp f) in
    let record_here = record_text p.accepted.now p.red f (coloured_by (packet_of sight (length gone) moment) own) in
    let front = text_from p.accepted.now p.red 0 gone (zip (sent_of see gone) colours) in
    let conditioned : IsConditioned p more frames (text ++ record_text p.accepted.now p.red first.frame.frame (coloured_by first.packet own)) after =
    record {
      gone = gone ++ f ∷ [];
      waiting = waiting;
      colours = colours ++ own;
      parted = parted ∙ sym (append_assoc gone (f ∷ []) waiting);
      paired = length-append colours own ∙ ap₂ (λ n m. n + m) paired fits ∙ sym (length-append (sent_of see gone) (sent_by sight (length gone) moment)) ∙ sym (ap length one);
      written = ap₂ (λ a b. a ++ b) written (ap₂ (λ g q. record_text p.accepted.now p.red g (coloured_by q own)) frame packet)
          ∙ ap (λ b. front ++ b) (sym (text_one p.accepted.now p.red see (length gone) stamp f own fits))
          ∙ sym (text_both p.accepted.now p.red see 0 0 (length gone) gone (f ∷ []) colours own (omega arith) paired);
      held = held ∙ apart.1 ∙ ap₂ (λ n m. held_from see n m waiting) place late;
      newest = newest ∙ was.newest;
      due = omega (arith, was.due, newest, due);
      table = table ∙ was.table;
      comes = λ back from.
          under back (subst (λ n. MayCome more p n back) newest from) ∙ sym (append_assoc colours own (colours_left after.under_way back));
      counted = subst (AreCounted see frames) (sym counts) was.counted;
      tallied = subst (λ (all : List (Sent × Colour)). AreTallied all after.tallies)
          (ap (λ (q : Option Sent). zip (sent_of see gone) colours ++ zip (option_to_list q) own) packet
          ∙ sym (zip_both (sent_of see gone) (sent_by sight (length gone) moment) colours own paired)
          ∙ ap (λ s. zip s (colours ++ own)) (sym one))
          (tallies (zip (sent_of see gone) colours) tallied);
      judging = subst (IsJudging p frames) (sym judge) was.judging;
    } in
    (ap (λ (s : SeenValue). s.mark) seen ∙ ap (λ (g : FrameValue). mark_in (link_in g.content) g.bytes) (sym frame), conditioned)

-- The first frame that is held is handed out with what its packet left with.
pub popped : (p : Port) (more : Bool) (frames : List FrameValue) (text : List ℕ) (first : HeldValue) (others : List HeldValue) (own : List Colour) (before after : Conditioner)
    → before.held.held ≡ first ∷ others → after.held.held ≡ others → after.newest ≡ before.newest → after.due ≡ before.due → after.counts ≡ before.counts → after.judge ≡ before.judge
    → after.under_way.table ≡ before.under_way.table
    → length own ≡ length (option_to_list first.packet)
    → ((all : List (Sent × Colour)) → AreTallied all before.tallies → AreTallied (all ++ zip (option_to_list first.packet) own) after.tallies)
    → ((back : List Sent) → colours_left before.under_way back ≡ own ++ colours_left after.under_way back)
    → IsConditioned p more frames text before
    → IsSeen first.frame × IsConditioned p more frames (text ++ record_text p.accepted.now p.red first.frame.frame (coloured_by first.packet own)) after
popped p more frames text first others own before after items held newest due counts judge table even tallies under was =
    hands_out p more frames text first others own before after held newest due counts judge table even tallies was.gone was.waiting was.colours
    (λ back from. was.comes back from ∙ ap (λ cs. was.colours ++ cs) (under back))
    was.parted was.paired was.written (sym items ∙ was.held) was.tallied was

-- a frame that sent no packet
pub popped_none : (p : Port) (more : Bool) (frames : List FrameValue) (text : List ℕ) (first : HeldValue) (others : List HeldValue) (before after : Conditioner)
    → before.held.held ≡ first ∷ others → after.held.held ≡ others → after.newest ≡ before.newest → after.due ≡ before.due → after.counts ≡ before.counts → after.judge ≡ before.judge → after.tallies ≡ before.tallies
    → after.under_way.table ≡ before.under_way.table
    → first.packet ≡ None → ((back : List Sent) → colours_left after.under_way back ≡ colours_left before.under_way back)
    → IsConditioned p more frames text before
    → IsSeen first.frame × IsConditioned p more frames (text ++ record_text p.accepted.now p.red first.frame.frame None) after
popped_none p more frames text first others before after items held newest due counts judge tallies table none under was =
    subst (λ (q : Option Sent). IsSeen first.frame × IsConditioned p more frames (text ++ record_text p.accepted.now p.red first.frame.frame (coloured_by q [])) after) none
    (popped p more frames text first others [] before after items held newest due counts judge table (sym (ap (λ (q : Option Sent). length (option_to_list q)) none))
    (λ all so_far. subst (λ (q : Option Sent). AreTallied (all ++ zip (option_to_list q) []) after.tallies) (sym none)
    (subst (λ (xs : List (Sent × Colour)). AreTallied xs after.tallies) (sym (append-nil all)) (subst (AreTallied all) (sym tallies) so_far)))
    (λ back. sym (under back)) was)

-- and one whose packet left with a colour
pub popped_some : (p : Port) (more : Bool) (frames : List FrameValue) (text : List ℕ) (first : HeldValue) (others : List HeldValue) (s : Sent) (colour : Colour) (before after : Conditioner)
    → before.held.held ≡ first ∷ others → after.held.held ≡ others → after.newest ≡ before.newest → after.due ≡ before.due → after.counts ≡ before.counts → after.judge ≡ before.judge
    → after.under_way.table ≡ before.under_way.table
    → first.packet ≡ Some s → after.tallies ≡ grown_all before.tallies colour s.size
    → ((back : List Sent) → colours_left before.under_way back ≡ colour ∷ colours_left after.under_way back)
    → IsConditioned p more frames text before
    → IsSeen first.frame × IsConditioned p more frames (text ++ record_text p.accepted.now p.red first.frame.frame (Some (s, colour))) after
popped_some p more frames text first others s colour before after items held newest due counts judge table some tallies under was =
    subst (λ (q : Option Sent). IsSeen first.frame × IsConditioned p more frames (text ++ record_text p.accepted.now p.red first.frame.frame (coloured_by q (colour ∷ []))) after) some
    (popped p more frames text first others (colour ∷ []) before after items held newest due counts judge table (sym (ap (λ (q : Option Sent). length (option_to_list q)) some))
    (λ all so_far. subst (λ (q : Option Sent). AreTallied (all ++ zip (option_to_list q) (colour ∷ [])) after.tallies) (sym some) (tallied_one all s colour before.tallies after.tallies so_far tallies))
    under was)

-- where memory runs out nothing is seen
pub unseen : (p : Port) (frames : List FrameValue) (text : List ℕ) (before after : Conditioner) → IsConditioned p true frames text before
    → after.newest ≡ before.newest → after.due ≡ before.due → after.counts ≡ before.counts → after.tallies ≡ before.tallies → after.held.held ≡ before.held.held → after.judge ≡ before.judge
    → after.under_way ≡ before.under_way → IsConditioned p true frames text after
unseen p frames text before after was newest due counts tallies held judge same =
    made p true true frames text before after was newest due counts tallies held judge (ap (λ (u : Stream). u.table) same) (λ back from. (from, ap (λ u. colours_left u back) same))

-- ---- at the end

no_one_waits : (see : FrameValue → Sight) (number newest : ℕ) (waiting : List FrameValue) → [] ≡ held_from see number newest waiting → waiting ≡ []
no_one_waits see number newest [] none = refl
no_one_waits see number newest (f ∷ waiting) none =
    absurd (no_held (record { frame = seen_at f; packet = packet_of (see f) number (max newest (stamp_of f)) }) (held_from see (suc number) (max newest (stamp_of f)) waiting)
    (sym (held_from-cons see number newest f waiting) ∙ sym none))

some_long : (packet : Option Sent) → IsSome packet → 1 ≤ length (option_to_list packet)
some_long None some = absurd cc
some_long (Some s) some = omega arith

packet_waits : (see : FrameValue → Sight) (number newest : ℕ) (waiting : List FrameValue) (first : HeldValue) (others : List HeldValue) → first ∷ others ≡ held_from see number newest waiting
    → IsSome first.packet → length (sent_from see number newest waiting) ≡ 0 → ⊥
packet_waits see number newest [] first others is some none = no_held first others (is ∙ held_from-none see number newest)
packet_waits see number newest (f ∷ waiting) first others is some none =
    let here : HeldValue = record { frame = seen_at f; packet = packet_of (see f) number (max newest (stamp_of f)) } in
    let apart = first_held first here others (held_from see (suc number) (max newest (stamp_of f)) waiting) (is ∙ held_from-cons see number newest f waiting) in
    let same : first.packet ≡ packet_of (see f) number (max newest (stamp_of f)) = ap (λ (h : HeldValue). h.packet) apart.0 in
    let long = some_long first.packet some in
    let all = ap length (sent_from-cons see number newest f waiting) in
    omega (arith, long, all, none, ap (λ (q : Option Sent). length (option_to_list q)) same, length-append (sent_by (see f) number (max newest (stamp_of f))) (sent_from see (suc number) (max newest (stamp_of f)) waiting))

-- where all visits are made, and the first frame is not decided, none waits
none_waits : (p : Port) (frames : List FrameValue) (text : List ℕ) (c : Conditioner) (was : IsConditioned p false frames text c) → c.under_way.waiting ≡ [] → IsUndecided c → was.waiting ≡ []
none_waits p frames text c was over (inl none) = no_one_waits (see_at p) (length was.gone) (newest_after 0 was.gone) was.waiting (sym none ∙ was.held)
none_waits p frames text c was over (inr (undecided, (first, others, items, some))) =
    let see = see_at p in
    let all = handed_out c.under_way was.colours (colours_of p.accepted.now (sent_of see frames ++ [])) over (sym undecided) (sym (was.comes [] refl)) in
    let one = one_colour_each p.accepted.now (sent_of see frames ++ []) in
    let parts = ap (sent_of see) was.parted ∙ sent_of-both see was.gone was.waiting in
    absurd (packet_waits see (length was.gone) (newest_after 0 was.gone) was.waiting first others (sym items ∙ was.held) some
    (omega (arith, was.paired, one, ap length all, ap length parts, length-append (sent_of see frames) [], length-append (sent_of see was.gone) (sent_from see (length was.gone) (newest_after 0 was.gone) was.waiting))))

-- what stands in the end
pub record IsEndedAs (p : Port) (frames : List FrameValue) (text : List ℕ) (c : Conditioner) : Type 0 where
  pub coloured : List (Sent × Colour)
  pub whole : coloured ≡ zip (sent_of (see_at p) frames) (colours_of p.accepted.now (sent_of (see_at p) frames))
  pub written : text ≡ text_from p.accepted.now p.red 0 frames coloured
  pub long : length coloured ≡ length (sent_of (see_at p) frames)
  pub tallied : AreTallied coloured c.tallies
  pub counted : AreCounted (see_at p) frames c.counts

zip_long : {A B : Type 0} (xs : List A) (ys : List B) → length ys ≡ length xs → length (zip xs ys) ≡ length xs
zip_long [] [] even = refl
zip_long [] (y ∷ ys) even = absurd (omega arith)
zip_long (x ∷ xs) [] even = absurd (omega arith)
zip_long (x ∷ xs) (y ∷ ys) even = ap suc (zip_long xs ys (omega arith))

pub ended : (p : Port) (frames : List FrameValue) (text : List ℕ) (c : Conditioner) → IsConditioned p false frames text c → c.under_way.waiting ≡ [] → IsUndecided c
    → IsEndedAs p frames text c
ended p frames text c was over undecided =
    let see = see_at p in
    let t = p.accepted.now in
    let all : was.gone ≡ frames = sym (was.parted ∙ ap (λ w. was.gone ++ w) (none_waits p frames text c was over undecided) ∙ append-nil was.gone) in
    let sent : sent_of see was.gone ≡ sent_of see frames = ap (sent_of see) all in
    let comes : colours_of t (sent_of see frames) ≡ was.colours ++ colours_left c.under_way [] =
    ap (colours_of t) (sym (append-nil (sent_of see frames))) ∙ was.comes [] refl in
    let one = one_colour_each t (sent_of see frames) in
    let none : colours_left c.under_way [] ≡ [] = nil_from_length (colours_left c.under_way [])
    (omega (arith, one, was.paired, ap length sent, ap length comes, length-append was.colours (colours_left c.under_way []))) in
    let colours : was.colours ≡ colours_of t (sent_of see frames) = sym (comes ∙ ap (λ cs. was.colours ++ cs) none ∙ append-nil was.colours) in
    record {
      coloured = zip (sent_of see was.gone) was.colours;
      whole = ap₂ zip sent colours;
      written = was.written ∙ ap (λ fs. text_from t p.red 0 fs (zip (sent_of see was.gone) was.colours)) all;
      long = zip_long (sent_of see was.gone) was.colours was.paired ∙ ap length sent;
      tallied = was.tallied;
      counted = was.counted;
    }

-- ---- a front

pub sent_from-from : (p : Port) (number newest : ℕ) (frames : List FrameValue) → ComeFrom p.accepted.now (newest + p.ahead) (sent_from (see_at p) number newest frames)
unfolding sent_from
sent_from-from p number newest [] = come_none p.accepted.now (newest + p.ahead)
sent_from-from p number newest (f ∷ frames) =
    let end = newest + p.ahead in
    let moment = max newest (stamp_of f) in
    let up : end ≤ moment + p.ahead = omega arith in
    come_both p.accepted.now end (sent_by (see_at p f) number moment) (sent_from (see_at p) (suc number) moment frames)
    (come_sooner p.accepted.now end (moment + p.ahead) (sent_by (see_at p f) number moment) up (p.holds f number moment))
    (come_sooner p.accepted.now end (moment + p.ahead) (sent_from (see_at p) (suc number) moment frames) up (sent_from-from p (suc number) moment frames))

-- ---- as calls tell it

-- what stands first is told twice
pub same_first : {A : Type 0} (xs : List A) (first second : A) (others rest : List A) → xs ≡ first ∷ others → xs ≡ second ∷ rest → (first ≡ second) × (others ≡ rest)
same_first xs first second others rest is there = (cc, cc)

module _ (p : Port) (more : Bool) (frames : List FrameValue) (text : List ℕ) (frame : SeenValue) (before decided after : Conditioner) where
  abbrev First : Option Sent → Type 0
  First packet = (first : HeldValue) × (others : List HeldValue) × (before.held.held ≡ first ∷ others) × (after.held.held ≡ others) × (frame ≡ first.frame) × (first.packet ≡ packet)

  first_of : (packet : Option Sent) → decided.held ≡ before.held → IsFirstPacket before.held.held packet → IsLetGo decided.held after.held → IsFirstFrame decided.held.held frame → First packet
  first_of packet same is gone shown =
      let held = ap (λ (h : HeldFramesValue). h.held) same in
      let rest = first_held is.0 gone.0 is.1 after.held.held (sym is.2 ∙ sym held ∙ gone.1) in
      let front = first_held is.0 shown.0 is.1 shown.1 (sym is.2 ∙ sym held ∙ shown.2) in
      (is.0, is.1, is.2, sym rest.1, shown.3 ∙ ap (λ (h : HeldValue). h.frame) (sym front.0), sym is.3)

  -- the first frame that is held is shown and let go, once it is decided
  pub handed : (left : Option (Sent × Colour)) → decided ≡ record before { under_way = decided.under_way; tallies = decided.tallies } → IsDecided left before decided
      → after ≡ record decided { held = after.held } → IsLetGo decided.held after.held → IsFirstFrame decided.held.held frame → IsConditioned p more frames text before
      → IsSeen frame × IsConditioned p more frames (text ++ record_text p.accepted.now p.red frame.frame left) after
  handed None rest is still gone shown was =
      let first = first_of None (ap (λ (c : Conditioner). c.held) rest) is.0 gone shown in
      let same : after ≡ record before { held = after.held } = still ∙ ap (λ (c : Conditioner). let d : Conditioner = record c { held = after.held } in d) is.1 in
      subst (λ (s : SeenValue). IsSeen s × IsConditioned p more frames (text ++ record_text p.accepted.now p.red s.frame None) after) (sym first.4)
      (popped_none p more frames text first.0 first.1 before after first.2 first.3
      (ap (λ (c : Conditioner). c.newest) same) (ap (λ (c : Conditioner). c.due) same) (ap (λ (c : Conditioner). c.counts) same) (ap (λ (c : Conditioner). c.judge) same) (ap (λ (c : Conditioner). c.tallies) same)
      (ap (λ (c : Conditioner). c.under_way.table) same) first.5 (λ back. ap (λ (c : Conditioner). colours_left c.under_way back) same) was)
  handed (Some (s, colour)) rest is still gone shown was =
      let first = first_of (Some s) (ap (λ (c : Conditioner). c.held) rest) is.0 gone shown in
      subst (λ (v : SeenValue). IsSeen v × IsConditioned p more frames (text ++ record_text p.accepted.now p.red v.frame (Some (s, colour))) after) (sym first.4)
      (popped_some p more frames text first.0 first.1 s colour before after first.2 first.3
      (ap (λ (c : Conditioner). c.newest) (still ∙ rest_held rest)) (ap (λ (c : Conditioner). c.due) (still ∙ rest_held rest)) (ap (λ (c : Conditioner). c.counts) (still ∙ rest_held rest)) (ap (λ (c : Conditioner). c.judge) (still ∙ rest_held rest))
      (ap (λ (c : Conditioner). c.under_way.table) still ∙ is.2) first.5 (ap (λ (c : Conditioner). c.tallies) still ∙ is.1)
      (λ back. is.3 back ∙ ap (λ (c : Conditioner). colour ∷ colours_left c.under_way back) (sym still)) was)
    where
      rest_held : decided ≡ record before { under_way = decided.under_way; tallies = decided.tallies }
          → record decided { held = after.held } ≡ record before { held = after.held; under_way = decided.under_way; tallies = decided.tallies }
      rest_held e = ap (λ (c : Conditioner). let d : Conditioner = record c { held = after.held } in d) e

-- what is ahead changes nothing
pub ahead_same : (p : Port) (more : Bool) (frames : List FrameValue) (text : List ℕ) (before after : Conditioner) → after ≡ record before { held = after.held } → after.held.held ≡ before.held.held
    → IsConditioned p more frames text before → IsConditioned p more frames text after
ahead_same p more frames text before after same held was =
    made p more more frames text before after was (ap (λ (c : Conditioner). c.newest) same) (ap (λ (c : Conditioner). c.due) same) (ap (λ (c : Conditioner). c.counts) same) (ap (λ (c : Conditioner). c.tallies) same) held
    (ap (λ (c : Conditioner). c.judge) same) (ap (λ (c : Conditioner). c.under_way.table) same) (λ back from. (from, ap (λ (c : Conditioner). colours_left c.under_way back) same))
