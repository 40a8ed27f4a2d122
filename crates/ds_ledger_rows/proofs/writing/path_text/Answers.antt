use Rattle.std.proofs.Common.{◌≡◌, ◌++◌, ◌∷◌, ◌<◌, ◌+◌, List, ℕ, All, ap, arith, sym, subst, ◌∙◌, append_assoc, drop, get_or, length}
use Rattle.std.proofs.lemmas.List.{drop_more, take_all}
use Rattle.ds_ledger_rows.specs.Cells.{path_text}
use Rattle.ds_ledger_rows.specs.Sound.{HasNoSlash}
use Rattle.ds_ledger_rows.proofs.SlashLaws.{no_slashes}
use Rattle.ds_ledger_rows.proofs.writing.path_text.Goals as goal

pub loop-meter-preserved : goal.loop-meter-preserved
loop-meter-preserved c =
    let own = c.loop-meter.invariant in
    let meters = c.args.meters.now in
    let i = c.loop-meter.meter-index in
    let m = c.meter-item.result in
    let there : m ≡ get_or meters i m = c.meter-item.is in
    let low : i < length meters = omega (arith, c.loop-meter-test.true) in
    let text = c.loop-meter.text.items in
    let rest = path_text (drop (i + 1) meters) in
    let left : drop i meters ≡ m ∷ drop (i + 1) meters = drop_more meters i m low ∙ ap (λ (n : List ℕ). n ∷ drop (i + 1) meters) (sym there) in
    let whole = ap (λ (ms : List (List ℕ)). text ++ path_text ms) (sym left) ∙ own.written in
    record {
      written = ap (λ (t : List ℕ). t ++ rest) c.in_ok-push_meter.ensures.text ∙ append_assoc text (47 ∷ m) rest ∙ whole;
      sound = no_slashes meters i m low there c.in_ok-push_meter.ensures.sound own.sound;
    }

pub returns-clause-sound : goal.returns-clause-sound
returns-clause-sound c =
    subst (All HasNoSlash) (take_all c.loop-meter.meter-index c.args.meters.now (omega (arith, c.loop-meter-test.false))) c.loop-meter.invariant.sound
