-- What was handed out so far is a front of the marking, and the verdict on what frames send.
use Rattle.std.proofs.Common.{◌≡◌, ℕ, ◌≤◌, ◌^◌, Bool, true, false, List, [], ◌++◌, length, zip, sym, ap, subst, ◌∙◌, append_assoc, append-nil, arith}
use Rattle.capture_reader.specs.Formats.{bytes_before}
use mathlib.Core.Path.{fun_ext}
use Rattle.pcap_capture.proofs.FrontLaws.{IsFrontOf-first}
use Rattle.pcap_capture.specs.Frames.{FrameValue}
use Rattle.pcap_capture.specs.Fronts.{IsFrontOf}
use Rattle.frame_marker.specs.declared.sight.Sight.{Sight}
use Rattle.ds_conductor_base.specs.Passing.{colours_of}
use Rattle.ds_conductor_base.specs.Streams.{colours_left}
use Rattle.ds_runs.specs.Behind.{AreSendable}
use Rattle.ds_runs.specs.Making.{run_behind}
use Rattle.ds_runs.specs.Judging.{Judging, unjudged, verdict_with}
use Rattle.ds_runs.proofs.JudgingLaws.{made_run_judged}
use Rattle.ds_runs.proofs.MarkLaws.{kept_marks}
use Rattle.ds_runs.proofs.RunLaws.{the_run_is_behind}
use Rattle.ds_conditioner.proofs.ConditionLaws.{sent_from-from, sent_of-both}
use Rattle.ds_conditioner.proofs.FrameLaws.{sent_from-none, text_both}
use Rattle.ds_conditioner.proofs.SendableLaws.{frames_can_be_sent}
use Rattle.ds_conditioner.specs.Conditionings.{IsConditioned, IsJudging, MayCome, newest_after, see_at}
use Rattle.ds_conditioner.specs.Sendings.{see, sent_from, sent_of}
use Rattle.ds_conditioner.specs.Texts.{text_from}
use Rattle.ds_conditioner.specs.declared.conditioner.Conditioner.{Conditioner}
use Rattle.ds_conditioner.specs.declared.port.Port.{Port}
use Rattle.ds_marking.specs.Markings.{IsVerdictOn}
use Rattle.ds_marking.specs.Passings.{marking_at}

-- What was handed out is a front of the marking, also where these frames come behind those that were seen.
front_by : (p : Port) (more : Bool) (frames others : List FrameValue) (text : List ℕ) (c : Conditioner) → IsConditioned p more frames text c
    → MayCome more p c.newest (sent_from (see_at p) (length frames) (newest_after 0 frames) others)
    → (rest : List ℕ) × ((marking_at p (frames ++ others)).text ≡ (bytes_before p.opening ++ text) ++ rest)
front_by p more frames others text c was may =
    let see = see_at p in
    let t = p.accepted.now in
    let back = sent_from see (length frames) (newest_after 0 frames) others in
    let all : frames ++ others ≡ was.gone ++ (was.waiting ++ others) = ap (λ fs. fs ++ others) was.parted ∙ append_assoc was.gone was.waiting others in
    let colours : colours_of t (sent_of see (frames ++ others)) ≡ was.colours ++ colours_left c.under_way back =
    ap (colours_of t) (sent_of-both see frames others) ∙ was.comes back may in
    let rest = text_from t p.red (length was.gone) (was.waiting ++ others) (zip (sent_from see (length was.gone) (newest_after 0 was.gone) (was.waiting ++ others)) (colours_left c.under_way back)) in (
      rest,
      ap (λ cs. (bytes_before p.opening) ++ text_from t p.red 0 (frames ++ others) (zip (sent_of see (frames ++ others)) cs)) colours
          ∙ ap (λ fs. (bytes_before p.opening) ++ text_from t p.red 0 fs (zip (sent_of see fs) (was.colours ++ colours_left c.under_way back))) all
          ∙ ap (λ it. (bytes_before p.opening) ++ it)
          (text_both t p.red see 0 0 (length was.gone) was.gone (was.waiting ++ others) was.colours (colours_left c.under_way back) (omega arith) was.paired
          ∙ ap (λ it. it ++ rest) (sym was.written))
          ∙ sym (append_assoc (bytes_before p.opening) text rest),
    )

front_on : (before text all after rest : List ℕ) → all ≡ text ++ rest → IsFrontOf before text after → IsFrontOf before all after
front_on before text all after rest is front = subst (λ it. IsFrontOf before it after) (sym is) (IsFrontOf-first before after text rest front)

pub front : (p : Port) (frames others : List FrameValue) (text before after : List ℕ) (c : Conditioner) → IsConditioned p true frames text c
    → IsFrontOf before (bytes_before p.opening ++ text) after → IsFrontOf before (marking_at p (frames ++ others)).text after
front p frames others text before after c was written =
    let from = subst (λ n. MayCome true p n (sent_from (see_at p) (length frames) (newest_after 0 frames) others)) (sym was.newest) (sent_from-from p (length frames) (newest_after 0 frames) others) in
    let rest = front_by p true frames others text c was from in
    front_on before (bytes_before p.opening ++ text) (marking_at p (frames ++ others)).text after rest.0 rest.1 written

pub front_last : (p : Port) (frames : List FrameValue) (text before after : List ℕ) (c : Conditioner) → IsConditioned p false frames text c
    → IsFrontOf before (bytes_before p.opening ++ text) after → IsFrontOf before (marking_at p frames).text after
front_last p frames text before after c was written =
    let rest = front_by p false frames [] text c was (sent_from-none (see_at p) (length frames) (newest_after 0 frames)) in
    let all = ap (λ fs. (marking_at p fs).text) (sym (append-nil frames)) ∙ rest.1 in
    front_on before (bytes_before p.opening ++ text) (marking_at p frames).text after rest.0 all written

-- ---- the verdict

-- What a judge keeps tells the verdict on a run behind what frames send.
pub judged_by : (p : Port) (frames : List FrameValue) (judge : Judging) → IsJudging p frames judge → length frames ≤ 2 ^ 44
    → IsVerdictOn p.accepted.now (sent_of (see_at p) frames) (verdict_with judge [])
judged_by p frames judge is few =
    let t = p.accepted.now in
    let sent = sent_of (see_at p) frames in
    let look : see_at p ≡ see t is.seeing.0 = fun_ext is.seeing.1 in
    let sendable : AreSendable t sent =
    subst (λ (view : FrameValue → Sight). AreSendable t (sent_of view frames)) (sym look) (frames_can_be_sent t is.seeing.0 frames few) in
    let behind = the_run_is_behind t sent is.acceptable sendable in
    let told = sym (is.tells []) ∙ ap (verdict_with (unjudged t)) (append-nil sent) ∙ made_run_judged t sent is.acceptable is.reach sendable in
    record {
      run = run_behind t sent;
      behind = behind;
      told = told;
      kept = λ kept. kept_marks t sent (run_behind t sent) is.acceptable behind (sym told ∙ kept);
    }
