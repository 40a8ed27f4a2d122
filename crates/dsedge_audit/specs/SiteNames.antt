-- How sites are named.
use Rattle.std.specs.Prelude.{ℕ, ◌-◌, nat_lt, List, [], ◌++◌, codes, length, option_map, slice_get, unwrap_or, if◌then◌else◌}
use Rattle.ds_checker.specs.Acceptance.{Table}
use Rattle.dsedge_texts.specs.Wording.{name_of}

-- the name of a site: the meter's, or behind the meters that of the contract whose edge it is
abbrev pub site_name : Table → ℕ → List ℕ
site_name t site =
    if nat_lt site (length t.domain.meters) then
    unwrap_or (option_map (λ entry. entry.0) (slice_get t.domain.meters site)) []
    else
    codes "edge:" ++ name_of t.contracts (site - length t.domain.meters)
