-- Running sums of one colour, and of the three.
use Rattle.std.specs.Prelude.{◌≡◌, ℕ, ◌+◌, ◌*◌, ◌≤◌, Bool, List, if◌then◌else◌}
use Rattle.moment_core.specs.Colours.{is_green, is_red, is_yellow}
use Rattle.moment_core.specs.declared.colour.Colour.{Colour}
use Rattle.ds_conductor_base.specs.declared.sent.Sent.{Sent}
use Rattle.ds_conditioner.specs.Reports.{bytes_as, packets_as}
use Rattle.ds_conditioner.specs.declared.tally.Tallies.{Tallies}
use Rattle.ds_conditioner.specs.declared.tally.Tally.{Tally}

-- what packets come to that left with a colour that a test picks
abbrev pub tally_of : (Colour → Bool) → List (Sent × Colour) → Tally
tally_of picked coloured = record { packets = packets_as picked coloured; bytes = bytes_as picked coloured }

-- what packets come to by the colours that they left with
pub record AreTallied (coloured : List (Sent × Colour)) (t : Tallies) : Type 0 where
  pub green : t.green ≡ tally_of is_green coloured
  pub yellow : t.yellow ≡ tally_of is_yellow coloured
  pub red : t.red ≡ tally_of is_red coloured

-- one packet more, if it is picked
abbrev pub grown : Tally → Bool → ℕ → Tally
grown t picked size =
    record { packets = t.packets + (if picked then 1 else 0); bytes = t.bytes + (if picked then size else 0) }

abbrev pub grown_all : Tallies → Colour → ℕ → Tallies
grown_all t left size = record {
  green = grown t.green (is_green left) size;
  yellow = grown t.yellow (is_yellow left) size;
  red = grown t.red (is_red left) size;
}

-- no more than so many packets are counted, and each has at most 65,535 bytes
pub record IsWithin (most : ℕ) (t : Tally) : Type 0 where
  pub packets : t.packets ≤ most
  pub bytes : t.bytes ≤ 65535 * most

pub record AreWithin (most : ℕ) (t : Tallies) : Type 0 where
  pub green : IsWithin most t.green
  pub yellow : IsWithin most t.yellow
  pub red : IsWithin most t.red

-- before the first packet
abbrev pub nothing_tallied : Tallies
nothing_tallied = let none : Tally = record { packets = 0; bytes = 0 } in
    record { green = none; yellow = none; red = none }
