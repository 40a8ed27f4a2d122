use Rattle.std.proofs.Common.{◌≡◌, ◌≤◌, ◌+◌, ◌-◌, ◌%◌, ◌^◌, length, refl, w8, ap, ◌∙◌, arith}
use Rattle.std.proofs.lemmas.List.{length-map}
use Rattle.std.proofs.lemmas.List.Sums.{prefix_len-le-length}
use Rattle.std.proofs.lemmas.Simd.{chunk-fits, length-chunk, zip2_splat}
use Rattle.std.specs.Char.{is_ascii_digit}
use Rattle.std.specs.List.{prefix_len}
use Rattle.std.specs.Simd.Lanes.{chunk}
use Rattle.line_text.proofs.DigitLemmas.{as_digit, is_digit, moved_digits, same_count, same_value}
use Rattle.line_text.proofs.digits.front_digits.Goals as goal

pub number_of_lanes-requires : goal.number_of_lanes-requires
number_of_lanes-requires c =
    let bytes = chunk 0 16 c.args.text.now in
    let many = length-chunk 0 16 c.args.text.now (omega (arith, c.if-text-lt-AT_ONCE.false)) in
    let digits = zip2_splat (λ a b. (a + (2 ^ 8 - b)) % 2 ^ 8) bytes 16 48 many in
    moved_digits _ _ _ (ap length digits ∙ length-map bytes as_digit ∙ many) c.count_digits-count.ensures c.moved_back.ensures

pub returns : goal.returns
returns c =
    let text = c.args.text.now in
    let bytes = chunk 0 16 text in
    let many = length-chunk 0 16 text (omega (arith, c.if-text-lt-AT_ONCE.false)) in
    let digits = zip2_splat (λ a b. (a + (2 ^ 8 - b)) % 2 ^ 8) bytes 16 48 many in
    let count : c.count_digits-count.result ≡ prefix_len is_ascii_digit bytes =
    c.count_digits-count.ensures ∙ ap (prefix_len is_digit) digits ∙ same_count bytes (chunk-fits w8 0 16 text c.type_inv.text) in
    let few : c.count_digits-count.result ≤ 16 = omega (arith, count, prefix_len-le-length is_ascii_digit bytes, many) in
    (count, same_value text bytes _ _ c.count_digits-count.result c.number_of_lanes.result refl digits count few c.moved_back.ensures c.number_of_lanes.ensures)
