-- What an end of a lane is made of, and the value that it stands for.
use Rattle.std.specs.Prelude.{◌≡◌, ℕ, true, false}
use Rattle.crossbeam_channel.specs.Claims.{Pass, view, IsSeatAt}
use Rattle.crossbeam_channel.specs.Ends.{sends_on, receives_on, ruled_capacity}
use Rattle.lane.specs.Lanes.{Lane, PuttingEnd, TakingEnd}
use Rattle.lane.specs.declared.rule.Known.{Known}
use Rattle.lane.specs.declared.ends.Putting.TheInside.{Inside as PuttingInside}
use Rattle.lane.specs.declared.ends.Taking.TheInside.{Inside as TakingInside}

module _ {T : Type 0} where
  -- the lane of a capacity that a pass belongs to
  abbrev pub lane_of : ℕ → Pass T (Known T) → Lane T
  lane_of capacity pass = record { capacity = capacity; places = pass.table_id; keys = pass.me.0.of }

  abbrev pub putting_of : PuttingInside T → PuttingEnd T
  putting_of end = record {
    lane = lane_of (ruled_capacity (sends_on end.sender)) end.pass;
    put = (view end.pass).put;
    told_taken = (view end.pass).taken;
  }

  abbrev pub IsPutting : PuttingInside T → Type 0
  IsPutting end = IsSeatAt (sends_on end.sender) end.pass
      × (receives_on end.receiver ≡ sends_on end.sender)
      × ((view end.pass).puts ≡ true) × ((view end.pass).takes ≡ false)

  abbrev pub taking_of : TakingInside T → TakingEnd T
  taking_of end = record {
    lane = lane_of (ruled_capacity (receives_on end.receiver)) end.pass;
    told_put = (view end.pass).put;
    taken = (view end.pass).taken;
  }

  abbrev pub IsTaking : TakingInside T → Type 0
  IsTaking end = IsSeatAt (receives_on end.receiver) end.pass
      × (sends_on end.sender ≡ receives_on end.receiver)
      × ((view end.pass).puts ≡ false) × ((view end.pass).takes ≡ true)
