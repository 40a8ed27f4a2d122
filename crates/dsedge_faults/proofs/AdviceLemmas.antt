-- What is said of words.
use Rattle.std.proofs.Common.{◌≡◌, [], ◌∷◌, ◌++◌, List, ℕ, String, ap, append-nil, append_assoc, inr, map, string_bytes, subst, codes, decimal, Global}
use Rattle.dsedge_base.specs.Plans.{IsExplanationOf}
use Rattle.dsedge_base.specs.declared.explanation.Explanation.{Explanation}
use Rattle.dsedge_faults.specs.Advised.{IsExplanationText, explanation_text, link_type_advice}

-- what explains the words of a command, with the command's name
pub words_explained : (words : List (String Global)) (command : String Global) (others : List (String Global)) (explanation : Explanation) (name : List ℕ)
    → words ≡ command ∷ others → name ≡ string_bytes command → IsExplanationOf (map string_bytes words) explanation
    → IsExplanationText (map string_bytes words) (explanation_text explanation name)
words_explained words command others explanation name are named explains =
    let P : List (List ℕ) → Type 0 = λ texts. IsExplanationOf texts explanation in
    rw are (inr (explanation, subst P (ap (map string_bytes) are) explains, ap (explanation_text explanation) named))

-- five texts in a row, of which the last ends the line
five_texts : (first digits word third fourth fifth : List ℕ) → digits ≡ word
    → first ++ (digits ++ (third ++ (fourth ++ (fifth ++ [])))) ≡ first ++ word ++ third ++ fourth ++ fifth
five_texts first digits word third fourth fifth same = rw (same, append-nil fifth) (simp append_assoc)

-- what is said of a link type, by its parts
pub link_type_parts : (number : ℕ) (digits : List ℕ) → digits ≡ decimal number
    → codes "link type " ++ (digits ++ (codes " is none of those that are read: 0, 1 (Ethernet), 12, 14, 101 (raw IP), 108, 113, 228, 229 and 276\n"
    ++ (codes "Ethernet is captured by: tcpdump -i DEVICE -y EN10MB -w OUT.pcap\n"
    ++ (codes "where frames are of one of these, say so by: editcap -T ether|rawip|rawip4 IN.pcap OUT.pcap\n" ++ []))))
    ≡ link_type_advice number
link_type_parts number digits same = five_texts (codes "link type ") digits (decimal number) _ _ _ same
