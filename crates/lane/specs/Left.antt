-- What a rest is made of, and the items that it stands for.
use Rattle.std.specs.Prelude.{◌≡◌, true, List, ◌++◌, length, drop}
use Rattle.crossbeam_channel.specs.Claims.{view, IsSeatAt}
use Rattle.crossbeam_channel.specs.Ends.{receives_on}
use Rattle.lane.specs.declared.rest.Rest.TheInside.{Inside}

module _ {T : Type 0} where
  abbrev pub rest_of : Inside T → List T
  rest_of rest = drop (length (view rest.pass).taken) (view rest.pass).put

  abbrev pub IsRest : Inside T → Type 0
  IsRest rest = IsSeatAt (receives_on rest.receiver) rest.pass
      × ((view rest.pass).puts ≡ true) × ((view rest.pass).takes ≡ true)
      × ((view rest.pass).put ≡ (view rest.pass).taken ++ rest_of rest)
