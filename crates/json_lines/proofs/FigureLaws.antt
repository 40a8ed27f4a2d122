-- A figure is no float, nests nothing, and says its digits; a count nests once.
use Rattle.std.proofs.Common.{◌≡◌, ℕ, ◌^◌, Bool, true, false, nat_lt, decimal, refl, if◌then◌else◌}
use Rattle.serde_json.specs.Data.{depth, number, string, unsigned}
use Rattle.serde_json.specs.Written.{has_float}
use Rattle.json_lines.specs.JsonLines.{count_data, figure_data, word_in}

plain : (is_short : Bool) (n : ℕ) → has_float (if is_short then number (unsigned n) else string (decimal n)) ≡ false
plain true n = refl
plain false n = refl

flat : (is_short : Bool) (n : ℕ) → depth (if is_short then number (unsigned n) else string (decimal n)) ≡ 0
flat true n = refl
flat false n = refl

said : (is_short : Bool) (n : ℕ) → word_in (if is_short then number (unsigned n) else string (decimal n)) ≡ decimal n
said true n = refl
said false n = refl

pub figure_plain : (n : ℕ) → has_float (figure_data n) ≡ false
figure_plain n = plain (nat_lt n (2 ^ 64)) n

pub figure_flat : (n : ℕ) → depth (figure_data n) ≡ 0
figure_flat n = flat (nat_lt n (2 ^ 64)) n

pub figure_said : (n : ℕ) → word_in (figure_data n) ≡ decimal n
figure_said n = said (nat_lt n (2 ^ 64)) n

pub count_plain : (packets bytes : ℕ) → has_float (count_data packets bytes) ≡ false
count_plain packets bytes = rw (figure_plain bytes, figure_plain packets) refl

pub count_nests : (packets bytes : ℕ) → depth (count_data packets bytes) ≡ 1
count_nests packets bytes = rw (figure_flat bytes, figure_flat packets) refl
