use Rattle.std.proofs.Common.{◌≡◌, drop}
use Rattle.dsedge_texts.specs.Readable.{held_by}
use Rattle.dsedge_texts.proofs.memory.MemoryFolder.file.Given as goal

-- the file stands among those that are left, if there is one
abbrev pub invariant-loop-own : goal.invariant-loop-own
invariant-loop-own l = held_by (drop l.own-index l.self.files.now) l.name ≡ held_by l.self.files.now l.name
