-- The token meter: what any of the three-colour meters does with a packet, token by token and nanosecond by nanosecond.
use Rattle.std.specs.Prelude.{ℕ, ◌-◌, nat_lt, if◌then◌else◌, List, [], ◌∷◌}
use Rattle.moment_core.specs.declared.colour.Colour.{Colour}
use Rattle.moment_core.specs.declared.colour.Colour.TheVariants.{Green}
use Rattle.moment_core.specs.declared.colour.Mode.{Mode}
use Rattle.moment_core.specs.declared.colour.Mode.TheVariants.{Blind, Aware}
use Rattle.moment_core.specs.Tokens.{each_nanosecond}

-- a packet that is offered to a meter: when, how many bytes, and the colour that it comes in with
pub record Offer : Type 0 where
  pub moment : ℕ
  pub size : ℕ
  pub came : Colour

-- a meter at work: its parameters, the levels of its buckets, and the newest moment that it metered at
pub record State (P L : Type 0) : Type 0 where
  pub parameters : P
  pub mode : Mode
  pub origin : ℕ
  pub newest : ℕ
  pub levels : L

-- What the standard of a meter says: the levels of full buckets, what the tokens of one nanosecond do to the levels,
-- the colour of a packet at its levels, and the levels after a packet of that colour.
pub record Rules (P L : Type 0) : Type 0 where
  pub full : P → L
  pub gain : P → ℕ → ℕ → L → L
  pub coloured : L → ℕ → Colour → Colour
  pub without : L → ℕ → Colour → L

-- a meter as it begins: full buckets at its origin (RFC 2697 section 3, RFC 2698 section 3)
unfoldable pub opening : {P L : Type 0} → Rules P L → P → Mode → ℕ → State P L
opening rules p mode origin =
    record { parameters = p; mode = mode; origin = origin; newest = origin; levels = rules.full p }

-- a meter never goes back: a packet is metered at its moment or at the newest one, whichever is later
unfoldable pub used : ℕ → ℕ → ℕ
used newest moment = if nat_lt newest moment then moment else newest

-- the levels once each nanosecond up to a moment has given its tokens, and before a packet of that moment
unfoldable pub levels_at : {P L : Type 0} → Rules P L → State P L → ℕ → L
levels_at rules m moment = each_nanosecond (rules.gain m.parameters m.origin) m.newest (moment - m.newest) m.levels

-- A colour-blind meter sees every packet as green: its rules are those for a packet that comes in green
-- (RFC 2697 section 3, RFC 2698 section 3).
abbrev pub seen : Mode → Colour → Colour
seen Blind came = Green
seen Aware came = came

-- the colour that a packet leaves with
unfoldable pub colour_of : {P L : Type 0} → Rules P L → State P L → Offer → Colour
colour_of rules m o = rules.coloured (levels_at rules m (used m.newest o.moment)) o.size (seen m.mode o.came)

-- the meter after a packet
unfoldable pub after : {P L : Type 0} → Rules P L → State P L → Offer → State P L
after rules m o = record m {
  newest = used m.newest o.moment;
  levels = rules.without (levels_at rules m (used m.newest o.moment)) o.size (colour_of rules m o);
}

-- the meter with the tokens of every nanosecond up to a moment or its newest one, as it is before a packet of that
-- moment
unfoldable pub filled : {P L : Type 0} → Rules P L → State P L → ℕ → State P L
filled rules m moment = record m { newest = used m.newest moment; levels = levels_at rules m (used m.newest moment) }

-- How meters of a kind meter, whatever their state is made of.
pub record How (S : Type 0) : Type 0 where
  pub newest : S → ℕ
  pub left : S → Offer → Colour
  pub after : S → Offer → S

-- the meters that follow some rules
abbrev pub how : {P L : Type 0} → Rules P L → How (State P L)
how rules = record { newest = λ m. m.newest; left = colour_of rules; after = after rules }

-- a packet as it leaves a meter: the moment that it was metered at, its size, and the colours that it came and left
-- with
pub record Departure : Type 0 where
  pub used : ℕ
  pub size : ℕ
  pub came : Colour
  pub left : Colour

abbrev pub departure : {S : Type 0} → How S → S → Offer → Departure
departure h m o = record { used = used (h.newest m) o.moment; size = o.size; came = o.came; left = h.left m o }

-- what becomes of packets that are offered one after the other
abbrev pub departures : {S : Type 0} → How S → S → List Offer → List Departure
departures h m [] = []
departures h m (o ∷ os) = departure h m o ∷ departures h (h.after m o) os
