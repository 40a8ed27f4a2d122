-- Loops over meters and over contracts.
use Rattle.std.proofs.Common.{◌≡◌, ◌⊎◌, ℕ, ◌+◌, ◌<◌, false, nat_eq, codes, decimal, List, [], ◌∷◌, ◌++◌, drop, Option, Some, get_or, length, refl, sym, ap, ◌∙◌, append_assoc, append-nil, inl, inr}
use Rattle.ds_checker.specs.declared.headroom.Headroom.{Headroom}
use Rattle.ds_checker.specs.declared.refusal.Refusal.{Refusal}
use Rattle.ds_checker.proofs.BoundLaws.{item_ahead}
use Rattle.ds_checker.proofs.LoadLaws.{neither}
use Rattle.ds_domain_base.specs.declared.contract.Contract.{Contract}
use Rattle.ds_domain_base.specs.declared.parts.Meter.{Meter}
use Rattle.dsedge_texts.specs.Refused.{refusal_line}
use Rattle.dsedge_draw.specs.Bars.{meter_text, part_text}
use Rattle.dsedge_draw.specs.Drawings.{caption_text, head_text, meters_text}
use Rattle.dsedge_draw.specs.Ways.{colour_of, source_text, way_text, ways_text}

-- one meter more
pub meters_next : (text : List ℕ) (xs meters : List (List ℕ × Meter)) (name : List ℕ) (m : Meter) (ys headrooms : List Headroom) (h : Headroom)
    → xs ≡ (name, m) ∷ meters → ys ≡ h ∷ headrooms
    → (text ++ meter_text name h) ++ meters_text meters headrooms ≡ text ++ meters_text xs ys
unfolding meters_text
meters_next text xs meters name m ys headrooms h is_meters is_headrooms =
    rw is_meters (rw is_headrooms (append_assoc text (meter_text name h) (meters_text meters headrooms)))

pub meters_ended : (text : List ℕ) (xs : List (List ℕ × Meter)) (ys : List Headroom) → (xs ≡ []) ⊎ (ys ≡ []) → text ++ meters_text xs ys ≡ text
unfolding meters_text
meters_ended text [] ys ended = append-nil text
meters_ended text (entry ∷ meters) [] ended = append-nil text
meters_ended text (entry ∷ meters) (h ∷ headrooms) ended = neither ended

-- one contract more
ways_ahead : (text colour : List ℕ) (number : ℕ) (xs contracts : List Contract) (c : Contract) → xs ≡ c ∷ contracts → colour ≡ colour_of number
    → ((text ++ source_text colour c) ++ way_text colour c) ++ ways_text (number + 1) contracts ≡ text ++ ways_text number xs
unfolding ways_text
ways_ahead text colour number xs contracts c is_contracts is_colour = rw is_contracts (rw is_colour (simp append_assoc))

pub ways_next : (text colour : List ℕ) (number : ℕ) (contracts : List Contract) (c : Contract) → number < length contracts → c ≡ get_or contracts number c
    → colour ≡ colour_of number
    → ((text ++ source_text colour c) ++ way_text colour c) ++ ways_text (number + 1) (drop (number + 1) contracts)
    ≡ text ++ ways_text number (drop number contracts)
ways_next text colour number contracts c inside is is_colour =
    ways_ahead text colour number (drop number contracts) (drop (number + 1) contracts) c (item_ahead contracts number c inside is) is_colour

pub ways_ended : (text : List ℕ) (number : ℕ) (xs : List Contract) → xs ≡ [] → text ++ ways_text number xs ≡ text
unfolding ways_text
ways_ended text number xs none = rw none (append-nil text)

-- a part of a bar that has a width
pub part_there : (colour : List ℕ) (width : ℕ) → nat_eq width 0 ≡ false
    → part_text colour width ≡ codes "<td fixedsize=\"true\" height=\"8\" bgcolor=\"" ++ colour ++ codes "\" width=\"" ++ decimal width ++ codes "\"></td>"
unfolding part_text
part_there colour width there = rw there refl

-- two pieces more, and what is left
pub ways_pieces : (text source way between after rest : List ℕ) → between ≡ text ++ source → after ≡ between ++ way → after ++ rest ≡ ((text ++ source) ++ way) ++ rest
ways_pieces text source way between after rest first more = ap (λ t. t ++ rest) (more ∙ ap (λ t. t ++ way) first)
