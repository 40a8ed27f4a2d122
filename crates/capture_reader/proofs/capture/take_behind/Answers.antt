use Rattle.std.proofs.Common.{Some, inr, refl, subst, sym, arith}
use Rattle.pcap_capture.specs.declared.fault.PcapFault.TheVariants.{Failed}
use Rattle.capture_reader.specs.Formats.{broken}
use Rattle.capture_reader.specs.Takings.{IsTaken, state_of}
use Rattle.capture_reader.proofs.CaptureLaws.{broken_again}
use Rattle.capture_reader.proofs.capture.take_behind.Goals as goal

pub returns-in-Broken-clause-taken : goal.returns-in-Broken-clause-taken
returns-in-Broken-clause-taken g c = record {
  told = λ tells. tells;
  ok = tt;
  err = inr (subst
      (λ source. IsTaken (g.I.Intake.tells c.args.intake.now) c.args.most (g.I.Intake.left c.args.intake.now) (g.I.Intake.left c.args.intake.now)
      (state_of source) broken c.args.out.now c.args.out.now (Some Failed))
      (sym c.in-Broken.is)
      (broken_again (g.I.Intake.tells c.args.intake.now) c.args.most (g.I.Intake.left c.args.intake.now) c.args.out.now));
  end = λ tells is. cc;
  reads = refl;
  fewer = inr (refl, refl);
  no_more = omega arith;
}
