-- What the fields of a judge stand for, and what they keep.
use Rattle.ds_conductor_base.specs.Ways.{AreWays}
use Rattle.ds_runs.specs.Judging.{Judging}
use Rattle.ds_runs.specs.declared.judge.Judge.TheInside as judges

abbrev pub judging_of : judges.Inside → Judging
judging_of j = record {
  table = j.accepted.now;
  outside = j.outside;
  senders = j.senders.items;
  firsts = j.firsts.items;
}

-- the stops of each contract stand at its number
abbrev pub IsJudge : judges.Inside → Type 0
IsJudge j = AreWays j.accepted.now j.ways.items
