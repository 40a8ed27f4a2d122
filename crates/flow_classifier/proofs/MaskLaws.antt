-- Addresses under a mask of their first bits.
use Rattle.std.proofs.Common.{◌≡◌, ℕ, ◌-◌, ◌*◌, ◌/◌, ◌^◌, ◌<◌, nat_eq, sym, ap, ◌∙◌, arith}
use Rattle.std.specs.Int.Bits.{bit_and}
use Rattle.std.proofs.lemmas.Bool.Decides.{nat_tests}
use Rattle.std.proofs.lemmas.Nat.{shl-shr}
use Rattle.std.proofs.lemmas.Nat.Bits.{and_high_mask}
use Rattle.flow_classifier.specs.Matching.{agree}
use Rattle.flow_classifier.specs.Parts.{mask_of, network_of}

-- an address under a mask is 0 in the bits that do not count
pub masked : (address mask length : ℕ) → address < 2 ^ 32 → mask ≡ mask_of length → bit_and address mask ≡ network_of address length
masked address mask length fits is = ap (bit_and address) is ∙ and_high_mask 32 (32 - length) (omega arith) address fits

same_test : (a b c d : ℕ) → (a ≡ b → c ≡ d) → (c ≡ d → a ≡ b) → nat_eq a b ≡ nat_eq c d
same_test a b c d there back = grind (arith, nat_tests)

unshifted : (a b k : ℕ) → a * 2 ^ k ≡ b * 2 ^ k → a ≡ b
unshifted a b k e = sym (shl-shr a k) ∙ ap (λ n. n / 2 ^ k) e ∙ shl-shr b k

-- two addresses agree in the bits that count where they are one address under the mask
pub same_network : (a b length : ℕ) → nat_eq (network_of a length) (network_of b length) ≡ agree 32 (record { address = b; length = length }) a
same_network a b length =
    let k = 32 - length in
    same_test (network_of a length) (network_of b length) (a / 2 ^ k) (b / 2 ^ k) (unshifted (a / 2 ^ k) (b / 2 ^ k) k) (ap (λ n. n * 2 ^ k))
