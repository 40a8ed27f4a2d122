use Rattle.std.proofs.Common.{◌≡◌, ◌++◌, drop, false, map}
use Rattle.std.specs.Option.{option_or}
use Rattle.ds_domain_base.specs.Routes.{route_of}
use Rattle.ds_checker.specs.BoundTests.{bound_tests, misfit}
use Rattle.ds_checker.specs.Tests.{first_failed}
use Rattle.ds_checker.proofs.acceptance.bounded.Given as goal

-- what is left is as the whole, and with it so are the routes, unless memory ran out
abbrev pub invariant-loop-number : goal.invariant-loop-number
invariant-loop-number l =
    let d = l.candidate.domain in
    let contracts = drop l.number-counter l.contracts in
    let rows = drop l.number-counter l.rows in
    record {
      shape : misfit l.number-counter d contracts rows ≡ misfit 0 d l.contracts l.rows;
      bounds : option_or l.low (first_failed (bound_tests l.number-counter d contracts rows)) ≡ first_failed (bound_tests 0 d l.contracts l.rows);
      routes : l.is_lacking ≡ false → l.routes.items ++ drop l.number-counter (map (route_of d) l.contracts) ≡ map (route_of d) l.contracts;
    }
