-- Colours as an order, and the traffic of a colour.
use Rattle.std.specs.Prelude.{ℕ, Bool, true, false, List, filter, map}
use Rattle.moment_core.specs.declared.colour.Colour.{Colour}
use Rattle.moment_core.specs.declared.colour.Colour.TheVariants.{Green, Yellow, Red}
use Rattle.moment_core.specs.Metering.{Departure}

-- the second colour is the first or a worse one; green is the best and red the worst
abbrev pub IsNoBetter : Colour → Colour → Type 0
IsNoBetter Green left = Unit {0}
IsNoBetter Yellow Green = ⊥
IsNoBetter Yellow Yellow = Unit {0}
IsNoBetter Yellow Red = Unit {0}
IsNoBetter Red Green = ⊥
IsNoBetter Red Yellow = ⊥
IsNoBetter Red Red = Unit {0}

abbrev pub is_green : Colour → Bool
is_green Green = true
is_green Yellow = false
is_green Red = false

abbrev pub is_yellow : Colour → Bool
is_yellow Green = false
is_yellow Yellow = true
is_yellow Red = false

abbrev pub is_red : Colour → Bool
is_red Green = false
is_red Yellow = false
is_red Red = true

-- in profile: green or yellow
abbrev pub is_in_profile : Colour → Bool
is_in_profile Green = true
is_in_profile Yellow = true
is_in_profile Red = false

-- the sized moments, by the moments metered at, of the packets that left with a colour that a test picks
abbrev pub output : (Colour → Bool) → List Departure → List (ℕ × ℕ)
output picked ds = map (λ d. (d.used, d.size)) (filter (λ d. picked d.left) ds)
