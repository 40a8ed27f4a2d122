use Rattle.std.proofs.Common.{◌≡◌, ◌+◌, ◌*◌, ◌^◌, ◌≤◌, vec_capacity, vec_len}
use Rattle.meter_fabric.proofs.making.put_sites.Given as goal

-- each site so far has a part, and its tickets
abbrev pub invariant-loop-number : goal.invariant-loop-number
invariant-loop-number g l = record {
  parts : l.over.parts + l.number ≡ l.initial.over.parts;
  none : l.over.amount ≡ 0;
  count : vec_len l.sites ≡ l.number;
  room : vec_capacity l.initial.sites ≤ vec_capacity l.sites;
  tickets : l.tickets.total ≡ l.initial.tickets.total + l.number * 2 ^ 44;
}
