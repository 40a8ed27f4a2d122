use Rattle.std.proofs.Common.{sym, ◌∙◌, arith}
use Rattle.dsedge_texts.proofs.FolderLemmas.{held_by-here, held_by-later, held_by-none}
use Rattle.dsedge_texts.proofs.memory.MemoryFolder.file.Goals as goal

pub returns-then-eq : goal.returns-then-eq
returns-then-eq c =
    sym (held_by-here c.args.self.now.files.now c.loop-own.own-index _ c.args.name.now c.loop-own-test.true (sym c.eq.ensures ∙ c.if-eq.true)) ∙ c.loop-own.invariant

pub loop-own-preserved : goal.loop-own-preserved
loop-own-preserved c =
    held_by-later c.args.self.now.files.now c.loop-own.own-index _ c.args.name.now c.loop-own-test.true (sym c.eq.ensures ∙ c.if-eq.false) ∙ c.loop-own.invariant

pub returns : goal.returns
returns c = sym (held_by-none c.args.self.now.files.now c.loop-own.own-index c.args.name.now (omega arith)) ∙ c.loop-own.invariant
