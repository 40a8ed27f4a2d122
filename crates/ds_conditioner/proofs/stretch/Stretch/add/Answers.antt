use Rattle.std.proofs.Common.{arith}
use Rattle.std.specs.Arc.{arc_value}
use Rattle.ds_conditioner.proofs.StretchLaws.{fated_still, is_fated}
use Rattle.ds_conditioner.proofs.stretch.Stretch.add.Goals as goal

pub invariant_of-self : goal.invariant_of-self
invariant_of-self c =
    fated_still (arc_value c.self.inside.piece) c.self.inside.from c.self.inside.until c.self.inside.fates.items _ c.args.self.now c.self.invariant c.self.view_is
    c.args.fate c.push_reserved.new.self.items c.push_reserved.ensures.items c.requires.there _ (omega (arith, c.push_reserved.ensures.capacity)) c.requires.fits

pub returns : goal.returns
returns c =
    is_fated (arc_value c.self.inside.piece) c.self.inside.from c.self.inside.until c.self.inside.fates.items _ c.args.self.now c.self.invariant c.self.view_is
    c.args.fate c.push_reserved.new.self.items c.push_reserved.ensures.items c.requires.there
