use Rattle.std.proofs.Common.{◌≡◌, ◌++◌, [], List, ℕ, append-nil, refl, sym, ap, subst, ◌∙◌}
use Rattle.pcap_capture.specs.Frames.{FrameValue, link_in}
use Rattle.frame_marker.specs.Marks.{IsMarkOf, mark_in}
use Rattle.ds_conditioner.specs.Conditionings.{IsConditioned}
use Rattle.ds_conditioner.specs.Fates.{fate_text}
use Rattle.ds_conditioner.specs.Texts.{record_text}
use Rattle.ds_conditioner.specs.declared.conditioner.Conditioner.{Conditioner}
use Rattle.ds_conditioner.proofs.ConditionLaws.{handed}
use Rattle.ds_conditioner.proofs.StretchLaws.{next_first}
use Rattle.ds_conditioner.proofs.conditioner.Conditioner.hand_out_to.Goals as goal

pub add-requires-clause-fits : goal.add-requires-clause-fits
add-requires-clause-fits c frame others comes =
    let first = c.first_mark.ensures in
    let held = sym (ap (λ (d : Conditioner). d.held.held) c.decide_first.ensures.rest) ∙ first.2 in
    let same = next_first c.args.stretch.now.coming others frame c.args.self.now.held.held first.1 first.0 c.requires.next comes held in
    c.fate_of.ensures.fits frame (subst (λ (g : FrameValue). IsMarkOf c.first_mark.result g.bytes) (sym same.0) first.4)

pub returns-in_default-clause-handed : goal.returns-in_default-clause-handed
returns-in_default-clause-handed c more frames text was =
    let p = c.args.port.now in (
      [],
      sym (append-nil c.args.stretch.now.text),
      subst (λ (d : Conditioner). IsConditioned p more frames (text ++ []) d) (sym c.in_default.ensures.decided.0)
          (subst (λ (t : List ℕ). IsConditioned p more frames t c.args.self.now) (sym (append-nil text)) was),
    )

pub returns-clause-next : goal.returns-clause-next
returns-clause-next c =
    let gone = c.let_go_first.ensures in
    let held = sym (ap (λ (d : Conditioner). d.held.held) c.decide_first.ensures.rest) ∙ gone.1 in
    (next_first c.args.stretch.now.coming c.add.new.self.coming c.add.ensures.0 c.args.self.now.held.held c.let_go_first.new.self.held gone.0 c.requires.next c.add.ensures.1 held).1

pub returns-clause-handed : goal.returns-clause-handed
returns-clause-handed c more frames text was =
    let p = c.args.port.now in
    let after : Conditioner = record c.decide_first.new.self { held = c.let_go_first.new.self } in
    let left = c.in-Some.packet in
    let first = c.first_mark.ensures in
    let fate = c.fate_of.result in
    let own = record_text p.accepted.now p.red first.0.frame.frame left in
    let both = handed p more frames text first.0.frame c.args.self.now c.decide_first.new.self after left c.decide_first.ensures.rest c.in-Some.ensures.decided refl
    c.let_go_first.ensures (first.0, first.1, first.2, refl) was in
    let held = sym (ap (λ (d : Conditioner). d.held.held) c.decide_first.ensures.rest) ∙ first.2 in
    let put = c.add.ensures in
    let same = (next_first c.args.stretch.now.coming c.add.new.self.coming put.0 c.args.self.now.held.held first.1 first.0 c.requires.next put.1 held).0 in
    let told : fate_text put.0 fate ≡ record_text p.accepted.now p.red put.0 left =
    c.fate_of.ensures.text put.0 (first.3 ∙ both.0 ∙ ap (λ (g : FrameValue). mark_in (link_in g.content) g.bytes) (sym same)) in
    (own, put.2 ∙ ap (λ it. c.args.stretch.now.text ++ it) (told ∙ ap (λ (g : FrameValue). record_text p.accepted.now p.red g left) same), both.1)
