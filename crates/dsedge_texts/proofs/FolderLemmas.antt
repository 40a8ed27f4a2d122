-- Files in memory, one after the other.
use Rattle.std.proofs.Common.{◌≡◌, ℕ, ◌+◌, ◌<◌, ◌≤◌, true, false, List, length, drop, get_or, Bor, None, Some, refl, ap, ◌∙◌, sym, bytes_eq}
use Rattle.std.proofs.lemmas.List.{at_drop_all, drop_more}
use Rattle.dsedge_texts.specs.Readable.{held_by}

-- the next file has the name
pub held_by-here : (files : List (Bor (List ℕ) × Bor (List ℕ))) (index : ℕ) (d : Bor (List ℕ) × Bor (List ℕ)) (name : List ℕ) → index < length files
    → bytes_eq (get_or files index d).0.now name ≡ true → held_by (drop index files) name ≡ Some (get_or files index d).1.now
unfolding held_by
held_by-here files index d name within same = ap (λ left. held_by left name) (drop_more files index d within) ∙ rw same refl

-- the next file has another name
pub held_by-later : (files : List (Bor (List ℕ) × Bor (List ℕ))) (index : ℕ) (d : Bor (List ℕ) × Bor (List ℕ)) (name : List ℕ) → index < length files
    → bytes_eq (get_or files index d).0.now name ≡ false → held_by (drop (index + 1) files) name ≡ held_by (drop index files) name
unfolding held_by
held_by-later files index d name within other = sym (ap (λ left. held_by left name) (drop_more files index d within) ∙ rw other refl)

-- no file is left
pub held_by-none : (files : List (Bor (List ℕ) × Bor (List ℕ))) (index : ℕ) (name : List ℕ) → length files ≤ index
    → held_by (drop index files) name ≡ None
unfolding held_by
held_by-none files index name all = at_drop_all (λ left. held_by left name) files index all ∙ refl
