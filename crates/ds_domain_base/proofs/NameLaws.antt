-- Names in 32 places.
use Rattle.std.proofs.Common.{rules, ◌≡◌, ℕ, ◌-◌, ◌≤◌, List, ◌++◌, length, drop, replicate, IsTrue, refl}
use Rattle.std.proofs.lemmas.List.{drop-replicate}
use Rattle.std.proofs.Math.Seq.{take-append_seam}
use Rattle.ds_domain_base.specs.Names.{IsPadded, is_name}

pub name_fits : (text : List ℕ) → IsTrue (is_name text) → length text ≤ 32
unfolding is_name
name_fits text good = search rules

pub filled_up : (text front : List ℕ) → front ≡ text → front ++ drop (length text) (replicate {A = ℕ} 32 0) ≡ text ++ replicate {A = ℕ} (32 - length text) 0
filled_up text front same = rw (same, drop-replicate {X = ℕ} (length text) 32 0) refl

pub padded_name : (text : List ℕ) → IsTrue (is_name text) → IsPadded (length text) (text ++ replicate (32 - length text) 0)
padded_name text good = record {
  name = rw (take-append_seam text (replicate (32 - length text) 0)) good;
  counted = rw (take-append_seam text (replicate (32 - length text) 0)) refl;
  padded = rw (take-append_seam text (replicate (32 - length text) 0)) refl;
}
