-- Each step of an end keeps the rule of a lane.
use Rattle.std.proofs.Common.{◌≡◌, ◌≢◌, ℕ, true, false, true≢false, List, [], ◌∷◌, ◌++◌, length, set, zero, suc, sym, refl, ap, ◌∙◌, subst, ⊎_elim, append_assoc}
use mathlib.Core.Option.{some, some-ne-none}
use mathlib.Core.List.{IsPrefix}
use lib.ListN.{get_elem?}
use Rattle.std.proofs.lemmas.List.{append-nil}
use Rattle.crossbeam_channel.specs.Fifo.{Pushes, Pops, Forks, Merges, Learns}
use Rattle.atomic_table.proofs.Lists.{at_set, at_snoc}
use Rattle.lane.specs.declared.rule.Known.{Known}
use Rattle.lane.specs.Rule.{known, Fits, InOrder}

module _ {T : Type 0} where
  at_end : (l : List (Known T)) (a b : Known T) (j : ℕ) → get_elem? l j ≢ some b → get_elem? (l ++ a ∷ []) j ≡ some b → j ≡ length l
  at_end [] a b zero n e = refl
  at_end [] a b (suc j) n e = absurd (some-ne-none b (sym e))
  at_end (x ∷ xs) a b zero n e = absurd (n e)
  at_end (x ∷ xs) a b (suc j) n e = ap suc (at_end xs a b j n e)

  abbrev Each : (ℕ → Known T → Type 0) → List (Known T) → Type 0
  Each F ends = (end : ℕ) (v : Known T) → get_elem? ends end ≡ some v → F end v

  each_set : (F : ℕ → Known T → Type 0) (ends : List (Known T)) (end : ℕ) (w : Known T) → F end w → ((j : ℕ) (u : Known T) → j ≢ end → get_elem? ends j ≡ some u → F j u) → Each F (set ends end w)
  each_set F ends end w mine others j u e = ⊎_elim (λ (x : (j ≡ end) × (w ≡ u)). subst (λ (y : ℕ × Known T). F y.0 y.1) (λ i. (sym x.0 i, x.1 i)) mine)
      (λ (x : (j ≢ end) × (get_elem? ends j ≡ some u)). others j u x.0 x.1) (at_set ends end j w u e)

  itself : (l : List T) → IsPrefix l l
  itself l = ([], append-nil l)

  shorter : (s l more : List T) → IsPrefix s l → IsPrefix s (l ++ more)
  shorter s l more h = (h.0 ++ more, sym (append_assoc s h.0 more) ∙ ap (λ y. y ++ more) h.1)

  begins_as : (s l k : List T) → l ≡ k → IsPrefix s l → IsPrefix s k
  begins_as s l k e h = (h.0, h.1 ∙ e)

  pub begins : InOrder {T = T} [] (known true true [] [] ∷ [])
  begins = (0, 0, [], [], refl, each_set (Fits 0 0 [] []) (known true true [] [] ∷ []) 0 (known true true [] []) ((λ _. (refl, refl)), (λ _. (refl, refl)), itself [], itself []) (λ j u other e. absurd (other (at_end [] _ u j (λ x. some-ne-none u (sym x)) e))))

  pub puts : (n end : ℕ) (v : Known T) (x : T) → v.puts ≡ true → Pushes InOrder n end v x (λ w. w ≡ known v.puts v.takes (v.put ++ x ∷ []) v.taken)
  puts n end v x may items ends _ h at = let w : Known T = known v.puts v.takes (v.put ++ x ∷ []) v.taken in let mine = h.5 end v at in let put = h.2 ++ x ∷ [] in let now = ap (λ l. l ++ x ∷ []) (mine.0 may).1 in (
    w,
    (
      h.0,
      h.1,
      put,
      h.3,
      ap (λ l. l ++ x ∷ []) h.4 ∙ append_assoc h.3 items (x ∷ []),
      each_set (Fits h.0 h.1 put h.3) ends end w ((λ _. ((mine.0 may).0, now)), mine.1, begins_as _ _ _ now (itself w.put), mine.3)
          (λ j u other e. let its = h.5 j u e in ((λ p. absurd (other ((its.0 p).0 ∙ sym (mine.0 may).0))), its.1, shorter u.put h.2 (x ∷ []) its.2, its.3)),
    ),
    refl,
  )

  pub puts_learns : (end : ℕ) (v : Known T) → v.puts ≡ true → Learns InOrder end v (λ items. (taken : List T) × IsPrefix v.taken taken × (v.put ≡ taken ++ items))
  puts_learns end v may items ends h at = let mine = h.5 end v at in (h.3, mine.3, (mine.0 may).1 ∙ h.4)

  after_taking : (end : ℕ) (v : Known T) → v.takes ≡ true → (x : T) (items : List T) (ends : List (Known T)) → InOrder (x ∷ items) ends → get_elem? ends end ≡ some v → InOrder items (set ends end (known v.puts v.takes v.put (v.taken ++ x ∷ [])))
  after_taking end v may x items ends h at = let w : Known T = known v.puts v.takes v.put (v.taken ++ x ∷ []) in let mine = h.5 end v at in let taken = h.3 ++ x ∷ [] in let now = ap (λ l. l ++ x ∷ []) (mine.1 may).1 in (
    h.0,
    h.1,
    h.2,
    taken,
    h.4 ∙ sym (append_assoc h.3 (x ∷ []) items),
    each_set (Fits h.0 h.1 h.2 taken) ends end w (mine.0, (λ _. ((mine.1 may).0, now)), mine.2, begins_as _ _ _ now (itself w.taken))
        (λ j u other e. let its = h.5 j u e in (its.0, (λ p. absurd (other ((its.1 p).0 ∙ sym (mine.1 may).0))), its.2, shorter u.taken h.3 (x ∷ []) its.3)),
  )

  pub takes : (end : ℕ) (v : Known T) → v.takes ≡ true → Pops InOrder end v (λ x w. w ≡ known v.puts v.takes v.put (v.taken ++ x ∷ []))
  takes end v may x items ends h at = (known v.puts v.takes v.put (v.taken ++ x ∷ []), after_taking end v may x items ends h at, refl)

  pub takes_learns : (end : ℕ) (v : Known T) → v.takes ≡ true → Learns InOrder end v (λ items. (put : List T) × IsPrefix v.put put × (put ≡ v.taken ++ items))
  takes_learns end v may items ends h at = let mine = h.5 end v at in (h.2, mine.2, h.4 ∙ ap (λ l. l ++ items) (sym (mine.1 may).1))

  pub left : (end : ℕ) (v : Known T) → v.puts ≡ true → v.takes ≡ true → Learns InOrder end v (λ items. v.put ≡ v.taken ++ items)
  left end v a b items ends h at = let mine = h.5 end v at in (mine.0 a).1 ∙ h.4 ∙ ap (λ l. l ++ items) (sym (mine.1 b).1)

  pub empties : (end : ℕ) (v : Known T) → v.puts ≡ true → v.takes ≡ true → Pops InOrder end v (λ x w. (w ≡ known v.puts v.takes v.put (v.taken ++ x ∷ [])) × ((items : List T) × (v.put ≡ v.taken ++ x ∷ items)))
  empties end v a b x items ends h at = (known v.puts v.takes v.put (v.taken ++ x ∷ []), after_taking end v b x items ends h at, (refl, (items, left end v a b (x ∷ items) ends h at)))

  pub forks : (end : ℕ) (v : Known T) → v.puts ≡ true → v.takes ≡ true → Forks InOrder end v (known true false v.put v.taken) (known false true v.put v.taken)
  forks end v a b items ends h at = let l : Known T = known true false v.put v.taken in let r : Known T = known false true v.put v.taken in let mine = h.5 end v at in let cut : List (Known T) = set ends end l in
      let Old : ℕ → Known T → Type 0 = λ j u. (u.puts ≡ true → (j ≡ h.0) × (u.put ≡ h.2)) × (u.takes ≢ true) × IsPrefix u.put h.2 × IsPrefix u.taken h.3 in
      let old : Each Old cut = each_set Old ends end l ((λ _. mine.0 a), (λ p. true≢false (sym p)), mine.2, mine.3) (λ j u other e. let its = h.5 j u e in (its.0, (λ p. other ((its.1 p).0 ∙ sym (mine.1 b).0)), its.2, its.3)) in (
        h.0,
        length cut,
        h.2,
        h.3,
        h.4,
        λ j u e. ⊎_elim (λ x. let was = old j u x in (was.0, (λ p. absurd (was.1 p)), was.2, was.3))
            (λ (is : r ≡ u). (
              (λ p. absurd (true≢false (sym (ap (λ (y : Known T). y.puts) is ∙ p)))),
              (λ p. (at_end cut r u j (λ x. (old j u x).1 p) e, ap (λ (y : Known T). y.taken) (sym is) ∙ (mine.1 b).1)),
              subst (λ (y : Known T). IsPrefix y.put h.2) is mine.2,
              subst (λ (y : Known T). IsPrefix y.taken h.3) is mine.3,
            )) (at_snoc cut r u j e),
      )

  pub merges : (end : ℕ) (v : Known T) (other : ℕ) (u : Known T) → v.puts ≡ true → u.takes ≡ true → Merges InOrder end v other u (known true true v.put u.taken) (known false false [] [])
  merges end v other u a b items ends h at two at' = let both : Known T = known true true v.put u.taken in let mine = h.5 end v at in let joined : List (Known T) = set ends end both in
      let was : get_elem? ends other ≡ some u = ⊎_elim (λ x. absurd (two x.0)) (λ x. x.1) (at_set ends end other both u at') in let its = h.5 other u was in let theirs = its.1 b in
      let Now : ℕ → Known T → Type 0 = λ j y. j ≢ other → Fits h.0 end h.2 h.3 j y in
      let now : Each Now joined = each_set Now ends end both (λ _. ((λ _. mine.0 a), (λ _. (refl, theirs.1)), mine.2, its.3)) (λ j y _ e apart. let that = h.5 j y e in (that.0, (λ p. absurd (apart ((that.1 p).0 ∙ sym theirs.0))), that.2, that.3)) in (
        h.0,
        end,
        h.2,
        h.3,
        h.4,
        each_set (Fits h.0 end h.2 h.3) joined other (known false false [] []) ((λ p. absurd (true≢false (sym p))), (λ p. absurd (true≢false (sym p))), (h.2, refl), (h.3, refl)) (λ j y apart e. now j y e apart),
      )
