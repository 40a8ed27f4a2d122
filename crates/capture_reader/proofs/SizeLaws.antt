-- How many bytes a piece has.
use Rattle.std.proofs.Common.{◌≡◌, ℕ, ◌≤◌, ◌<◌, ◌↔◌, Bool, true, false, List, ◌++◌, length, refl, arith}
use Rattle.capture_reader.specs.Readings.{IsPieceOf}

-- whether a piece is full, by how many bytes were taken
pub full_piece : (left more piece : List ℕ) (taken : ℕ) (is_full : Bool) → ((is_full ≡ true) ↔ (65536 ≤ taken)) → left ≡ piece ++ more → length piece ≡ taken → length piece ≤ 65536
    → IsPieceOf left more is_full
full_piece left more piece taken is_full full front count most = record {
  piece = piece;
  front = front;
  most = most;
  full = (λ is. let some = full.0 is in omega (arith, some, count, most), λ even. full.1 (omega (arith, even, count)));
}

pub unfilled : (taken : ℕ) (is_full : Bool) → ((is_full ≡ true) ↔ (65536 ≤ taken)) → taken < 65536 → is_full ≡ false
unfilled taken true full less = let most = full.0 refl in absurd (omega (arith, most, less))
unfilled taken false full less = refl
