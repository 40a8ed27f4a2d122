use Rattle.std.proofs.Common.{rules, ◌≡◌, ◌≤◌, if◌then◌else◌, sym, subst, ◌+◌, ◌*◌, ◌^◌, arith, ◌∙◌}
use Rattle.ds_certificate.specs.Ranges.{IsModerate}
use Rattle.ds_checker.specs.Loads.{Share}
use Rattle.ds_checker.specs.Sums.{IsBelow}
use Rattle.ds_checker.proofs.LoadLaws.{IsBelow-more, number-below, plus-below}
use Rattle.ds_checker.proofs.load.Loads.with.Goals as goal
use Rattle.ds_checker.proofs.load.Loads.with.Goals.{then-has_peak, else-has_peak}

pub returns-clause-range : goal.returns-clause-range
returns-clause-range c most below =
    let moderate = subst (λ (share : Share). IsModerate share.source) (sym c.share.view_is) c.requires.moderate in
    let counted : c.args.self.peaked_number + c.from.result ≡ (if c.share.inside.has_peak then c.args.self.peaked_number + 1 else c.args.self.peaked_number) = search rules in (
      below.0,
      subst (IsBelow (most + 2 * 10 ^ 15)) (sym c.with-green.ensures)
          (plus-below most c.args.self.skew c.share.inside.source.green.rate c.green.result c.args.self.green below.1 below.0 moderate.0.0 c.green.ensures.range),
      subst (IsBelow (most + 2 * 10 ^ 15)) (sym c.with-all.ensures)
          (plus-below most c.args.self.skew c.share.inside.source.all.rate c.all.result c.args.self.all below.2 below.0 moderate.1.0.0 c.all.ensures.range),
      elim c.if-has_peak.branch [
        | then-has_peak w ↦ subst (IsBelow (most + 2 * 10 ^ 15)) (sym (w.peaked-is ∙ w.with-peaked.ensures))
            (plus-below most c.args.self.skew c.share.inside.source.excess.rate c.excess-excess.result c.args.self.peaked below.3 below.0 moderate.1.1.0.0 c.excess-excess.ensures.range)
        | else-has_peak w ↦ subst (IsBelow (most + 2 * 10 ^ 15)) (sym w.peaked-is) (IsBelow-more most (most + 2 * 10 ^ 15) c.args.self.peaked (omega arith) below.3)
      ],
      subst (λ number. number ≤ most + 2 * 10 ^ 15) (sym counted) (number-below most c.share.inside.has_peak c.args.self.peaked_number below.4),
    )
