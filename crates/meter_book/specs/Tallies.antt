-- Running sums by colour.
use Rattle.std.specs.Prelude.{ℕ, ◌+◌, ◌*◌, ◌≤◌, List, [], ◌∷◌, slice_index}
use Rattle.moment_core.specs.declared.colour.Colour.{Colour}
use Rattle.moment_core.specs.declared.colour.Colour.TheVariants.{Green, Yellow, Red}
use Rattle.moment_core.specs.Colours.{is_green, is_yellow, is_red}
use Rattle.meter_book.specs.declared.accounts.Accounts.{Accounts}
use Rattle.meter_book.specs.declared.row.Row.{Row}
use Rattle.meter_book.specs.declared.tally.Tallies.{Tallies}
use Rattle.meter_book.specs.Replay.{bytes_left, packets_left}

-- what rows come to
abbrev pub tallies_of : List Row → Tallies
tallies_of rows = record {
  green = record { packets = packets_left is_green rows; bytes = bytes_left is_green rows };
  yellow = record { packets = packets_left is_yellow rows; bytes = bytes_left is_yellow rows };
  red = record { packets = packets_left is_red rows; bytes = bytes_left is_red rows };
}

-- sums as accounts, and accounts as sums
abbrev pub accounts_in : Tallies → Accounts
accounts_in t = record {
  packets = t.green.packets ∷ t.yellow.packets ∷ t.red.packets ∷ [];
  bytes = t.green.bytes ∷ t.yellow.bytes ∷ t.red.bytes ∷ [];
}

abbrev pub tallies_in : Accounts → Tallies
tallies_in a = record {
  green = record { packets = slice_index a.packets 0; bytes = slice_index a.bytes 0 };
  yellow = record { packets = slice_index a.packets 1; bytes = slice_index a.bytes 1 };
  red = record { packets = slice_index a.packets 2; bytes = slice_index a.bytes 2 };
}

-- two sums together
abbrev pub together : Tallies → Tallies → Tallies
together s t = record {
  green = record { packets = s.green.packets + t.green.packets; bytes = s.green.bytes + t.green.bytes };
  yellow = record { packets = s.yellow.packets + t.yellow.packets; bytes = s.yellow.bytes + t.yellow.bytes };
  red = record { packets = s.red.packets + t.red.packets; bytes = s.red.bytes + t.red.bytes };
}

-- all packets of sums
abbrev pub packets_in : Tallies → ℕ
packets_in t = t.green.packets + t.yellow.packets + t.red.packets

-- one packet more of a colour
abbrev pub with_packet : Tallies → Colour → ℕ → Tallies
with_packet t Green size = record t { green = record { packets = t.green.packets + 1; bytes = t.green.bytes + size } }
with_packet t Yellow size =
    record t { yellow = record { packets = t.yellow.packets + 1; bytes = t.yellow.bytes + size } }
with_packet t Red size = record t { red = record { packets = t.red.packets + 1; bytes = t.red.bytes + size } }

-- a packet has at most 65,535 bytes
pub record IsSized (t : Tallies) : Type 0 where
  pub green : t.green.bytes ≤ 65535 * t.green.packets
  pub yellow : t.yellow.bytes ≤ 65535 * t.yellow.packets
  pub red : t.red.bytes ≤ 65535 * t.red.packets
