-- What is left of what was put, before and after one item more is taken.
use Rattle.std.proofs.Common.{◌≡◌, true, List, [], ◌∷◌, ◌++◌, length, drop, sym, refl, ap, ◌∙◌, subst, append_assoc, arith}
use Rattle.std.proofs.Math.Seq.{drop-append_seam}
use Rattle.lane.specs.declared.rule.Known.{Known}
use Rattle.lane.specs.Rule.{known}

module _ {T : Type 0} where
  behind : (taken items put : List T) → put ≡ taken ++ items → drop (length taken) put ≡ items
  behind taken items put e = ap (drop (length taken)) e ∙ drop-append_seam taken items

  pub whole : (taken items put : List T) → put ≡ taken ++ items → put ≡ taken ++ drop (length taken) put
  whole taken items put e = e ∙ ap (λ l. taken ++ l) (sym (behind taken items put e))

  abbrev pub left_of : Known T → List T
  left_of v = drop (length v.taken) v.put

  abbrev pub IsLeft : Known T → Type 0
  IsLeft v = (v.puts ≡ true) × (v.takes ≡ true) × (v.put ≡ v.taken ++ left_of v)

  abbrev pub IsNext : Known T → T → Known T → Type 0
  IsNext v x w = (w ≡ known v.puts v.takes v.put (v.taken ++ x ∷ [])) × ((items : List T) × (v.put ≡ v.taken ++ x ∷ items))

  longer : (taken items put : List T) (x : T) → put ≡ taken ++ x ∷ items → put ≡ (taken ++ x ∷ []) ++ items
  longer taken items put x e = e ∙ sym (append_assoc taken (x ∷ []) items)

  pub stays_left : (v w : Known T) (x : T) → IsLeft v → IsNext v x w → IsLeft w
  stays_left v w x h r = subst IsLeft (sym r.0) (h.0, h.1, whole (v.taken ++ x ∷ []) r.1.0 v.put (longer v.taken r.1.0 v.put x r.1.1))

  pub first_left : (v w : Known T) (x : T) → IsNext v x w → left_of v ≡ x ∷ left_of w
  first_left v w x r = behind v.taken (x ∷ r.1.0) v.put r.1.1 ∙ ap (λ l. x ∷ l) (sym (ap left_of r.0 ∙ behind (v.taken ++ x ∷ []) r.1.0 v.put (longer v.taken r.1.0 v.put x r.1.1)))

  is_empty : (items : List T) → length items ≡ 0 → items ≡ []
  is_empty [] e = refl
  is_empty (x ∷ xs) e = absurd (omega arith)

  pub none_left : (v : Known T) (items : List T) → length items ≡ 0 → v.put ≡ v.taken ++ items → left_of v ≡ []
  none_left v items e h = behind v.taken items v.put h ∙ is_empty items e
