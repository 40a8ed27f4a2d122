-- A report, from the sums by colour.
use Rattle.std.proofs.Common.{◌≡◌, ℕ, cond, false, List, [], ◌∷◌, length, refl, sym, ap, ◌∙◌, arith, None}
use Rattle.std.proofs.lemmas.List.Sums.{sum_by-cons}
use Rattle.moment_core.specs.Colours.{is_red}
use Rattle.moment_core.specs.declared.colour.Colour.{Colour}
use Rattle.pcap_capture.specs.Frames.{FrameValue}
use Rattle.frame_marker.specs.declared.sight.Sight.{Sight}
use Rattle.ds_conductor_base.specs.declared.sent.Sent.{Sent}
use Rattle.ds_conditioner.specs.Reports.{packets_as, report_of}
use Rattle.ds_conditioner.specs.Sendings.{AreCounted, sent_of}
use Rattle.ds_conditioner.specs.Tallies.{AreTallied}
use Rattle.ds_conditioner.specs.Texts.{is_dropped}
use Rattle.ds_conditioner.specs.declared.report.Report.{Report}
use Rattle.ds_conditioner.specs.declared.rule.RedRule.{RedRule}
use Rattle.ds_conditioner.specs.declared.rule.RedRule.TheVariants.{Drop, Keep}
use Rattle.ds_conditioner.specs.declared.sending.Counts.{Counts}
use Rattle.ds_conditioner.specs.declared.tally.Tallies.{Tallies}

-- where red packets are kept, none is left out
none_dropped : (coloured : List (Sent × Colour)) → packets_as (is_dropped Keep) coloured ≡ 0
none_dropped [] = refl
none_dropped (it ∷ rest) = omega (arith, sum_by-cons (λ (x : Sent × Colour). cond {A = ℕ} false 1 0) it rest, none_dropped rest)

dropped_by : (rule : RedRule) (coloured : List (Sent × Colour)) (red dropped : ℕ) → red ≡ packets_as is_red coloured → (rule ≡ Keep → dropped ≡ 0) → (rule ≡ Drop → dropped ≡ red)
    → dropped ≡ packets_as (is_dropped rule) coloured
dropped_by Keep coloured red dropped reds kept left_out = kept refl ∙ sym (none_dropped coloured)
dropped_by Drop coloured red dropped reds kept left_out = left_out refl ∙ reds

-- the report that counts and the sums of the three colours make
pub told : (see : FrameValue → Sight) (rule : RedRule) (frames : List FrameValue) (c : Counts) (coloured : List (Sent × Colour)) (dropped : ℕ) (sums : Tallies)
    → AreCounted see frames c → length coloured ≡ length (sent_of see frames) → AreTallied coloured sums
    → (rule ≡ Keep → dropped ≡ 0) → (rule ≡ Drop → dropped ≡ sums.red.packets)
    → (let made : Report = record {
      records = c.frames;
      marked = c.matched;
      unmatched = c.unmatched;
      skipped = c.skipped;
      unverified = c.unverified;
      dropped = dropped;
      packets = sums.green.packets ∷ sums.yellow.packets ∷ sums.red.packets ∷ [];
      bytes = sums.green.bytes ∷ sums.yellow.bytes ∷ sums.red.bytes ∷ [];
      verdict = None;
    } in made ≡ report_of see rule frames coloured)
told see rule frames c coloured dropped sums counted long tallied kept left_out =
    let reds = dropped_by rule coloured sums.red.packets dropped (ap (λ t. t.packets) tallied.red) kept left_out in
    let marked : c.matched ≡ length coloured = counted.matched ∙ sym long in
    rw (counted.packets, marked, counted.unmatched, counted.skipped, counted.unverified, reds, tallied.green, tallied.yellow, tallied.red) refl
