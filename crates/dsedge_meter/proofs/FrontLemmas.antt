-- What the line at the front of a text says, where its two numbers are read at once.
use Rattle.std.proofs.Common.{◌≡◌, ◌≢◌, ℕ, ◌-◌, ◌^◌, ◌<◌, ◌≤◌, List, [], ◌∷◌, ◌++◌, None, Some, refl, sym, ap, ◌∙◌, arith}
use Rattle.std.proofs.lemmas.Bool.{le-ltb}
use Rattle.moment_core.specs.declared.colour.Colour.{Colour}
use Rattle.line_text.specs.Lines.{fields_of}
use Rattle.line_text.proofs.LineLemmas.{fields_of-uncut}
use Rattle.dsedge_lines.specs.Fronts.{IsFirstLine, IsNumberFront}
use Rattle.dsedge_lines.proofs.FrontLemmas.{number_last, number_last_fields, number_then, number_then_fields, one-no_byte, size_as}
use Rattle.dsedge_meter.specs.Arrivals.{arrival_in, colour_of_letter, sized_in, sized_since}

no_letter : (letter byte : ℕ) (came : Colour) → colour_of_letter byte ≡ None → colour_of_letter letter ≡ Some came → letter ≢ byte
no_letter letter byte came none says same =
    let some : None ≡ Some came = sym none ∙ ap colour_of_letter (sym same) ∙ says in
    absurd cc

-- a letter behind them, and the end of the line
pub arrival_line : (line_number : ℕ) (text sizes letters end rest : List ℕ) (moment size letter : ℕ) (came : Colour)
    → IsNumberFront text moment (32 ∷ sizes) → IsNumberFront sizes size (32 ∷ letters) → letters ≡ letter ∷ end → end ≡ 10 ∷ rest
    → moment < 2 ^ 63 → 1 ≤ size → size < 2 ^ 16 → colour_of_letter letter ≡ Some came
    → (line : List ℕ) × IsFirstLine text line rest
    × (arrival_in line_number line ≡ Some (record { flow = 0; packet = line_number; hop = 0; moment = moment; size = size; came = came }))
unfolding arrival_in
arrival_line line_number text sizes letters end rest moment size letter came at bytes one ends in_range least small says =
    let fields : fields_of (at.front ++ 32 ∷ (bytes.front ++ 32 ∷ letter ∷ [])) ≡ at.front ∷ bytes.front ∷ (letter ∷ []) ∷ [] =
    number_then_fields at (bytes.front ++ 32 ∷ letter ∷ [])
    ∙ ap (λ later. at.front ∷ later) (number_then_fields bytes (letter ∷ [])
    ∙ ap (λ later. bytes.front ∷ later) (fields_of-uncut (letter ∷ []) (one-no_byte 32 letter (no_letter letter 32 came refl says)))) in (
      at.front ++ 32 ∷ (bytes.front ++ 32 ∷ letter ∷ []),
      number_then at (number_then bytes (record {
        whole = one ∙ ap (λ later. letter ∷ later) ends;
        unended = one-no_byte 10 letter (no_letter letter 10 came refl says);
      })),
      rw (fields, at.says (2 ^ 63 - 1) (omega (arith, in_range)), size_as size bytes.front (bytes.says 65535 (omega (arith, small))) least, says) refl,
    )

-- the end of the line behind them
pub sized_line : (newest : ℕ) (text sizes rest : List ℕ) (moment size : ℕ) → IsNumberFront text moment (32 ∷ sizes)
    → IsNumberFront sizes size (10 ∷ rest) → moment < 2 ^ 63 → 1 ≤ size → size < 2 ^ 16 → newest ≤ moment
    → (line : List ℕ) × IsFirstLine text line rest × (sized_since newest line ≡ Some (moment, size))
unfolding sized_in sized_since
sized_line newest text sizes rest moment size at bytes in_range least small later =
    let fields : fields_of (at.front ++ 32 ∷ bytes.front) ≡ at.front ∷ bytes.front ∷ [] =
    number_then_fields at bytes.front ∙ ap (λ later. at.front ∷ later) (number_last_fields bytes) in (
      at.front ++ 32 ∷ bytes.front,
      number_then at (number_last bytes),
      rw (fields, at.says (2 ^ 63 - 1) (omega (arith, in_range)), size_as size bytes.front (bytes.says 65535 (omega (arith, small))) least, le-ltb moment newest later) refl,
    )
