use Rattle.std.proofs.Common.{◌≡◌, ◌||◌, ◌++◌, drop, length}
use Rattle.ds_domain_base.specs.Fitting.{lacks_link, names_unknown}
use Rattle.ds_domain_base.specs.Routes.{legs_along}
use Rattle.ds_domain_base.proofs.route.found_along.Given as goal

-- what was found so far, with what is to be found along the path that is left
abbrev pub invariant-loop-to : goal.invariant-loop-to
invariant-loop-to l =
    let rest = drop l.to-index l.path in
    record {
      legs : l.legs ++ legs_along l.domain l.from rest ≡ legs_along l.domain l.fn.port l.path;
      unknown : (l.unknown || names_unknown l.domain rest) ≡ names_unknown l.domain l.path;
      unlinked : (l.unlinked || lacks_link l.domain l.from rest) ≡ lacks_link l.domain l.fn.port l.path;
      many : length l.legs ≡ l.to-index;
    }
