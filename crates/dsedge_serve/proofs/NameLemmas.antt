-- The words behind the program's own name.
use Rattle.std.proofs.Common.{◌≡◌, ◌<◌, List, [], ◌∷◌, length, map, String, Global, string_bytes, refl, ap, arith}
use Rattle.std.specs.List.{remove}
use Rattle.dsedge_serve.specs.Started.{behind_name}

-- nothing stands behind a name that is not there
pub behind_name-none : (line : List (String Global)) → length line ≡ 0 → map string_bytes line ≡ behind_name (map string_bytes line)
behind_name-none [] none = refl
behind_name-none (name ∷ words) none = absurd (omega arith)

-- behind a name stand the words
pub behind_name-first : (line words : List (String Global)) → words ≡ remove line 0 → 0 < length line → map string_bytes words ≡ behind_name (map string_bytes line)
behind_name-first [] words left some = absurd (omega arith)
behind_name-first (name ∷ line) words left some = ap (map string_bytes) left
