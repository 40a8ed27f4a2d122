use Rattle.std.proofs.Common.{◌≡◌, map, drop, length}
use Rattle.dsedge_texts.specs.Readable.{texts_of}
use Rattle.dsedge_texts.proofs.TextLemmas.{behind_texts}
use Rattle.dsedge_texts.proofs.texts.read_texts.Given as goal

-- the texts so far, and those of the names that are left
abbrev pub invariant-loop-name : goal.invariant-loop-name
invariant-loop-name g l = record {
  count : length l.texts.items ≡ l.name-index;
  texts : g.F.Folder.tells l.folder
      → texts_of (g.F.Folder.holds l.folder) l.names ≡ behind_texts (map (λ text. text.items) l.texts.items) (texts_of (g.F.Folder.holds l.folder) (drop l.name-index l.names));
}
