use Rattle.std.proofs.Common.{◌++◌, map, ap, ◌∙◌}
use Rattle.serde_json.specs.View.{view}
use Rattle.dsedge_json.specs.Objects.{meter_tests}
use Rattle.dsedge_json.proofs.ObjectLaws.{tests_pushed}
use Rattle.dsedge_json.proofs.headroom.push_meter_tests.Goals as goal

pub returns : goal.returns
returns c =
    tests_pushed _ _ _ _ _ _ _ _ _ c.in_ok-push_test.ensures c.in_ok-push_test-2.ensures c.in_ok-push_test-3.ensures c.in_ok-push_test-4.ensures
    ∙ ap (λ meter. map view c.args.tests.now.items ++ meter_tests meter c.args.headroom) c.name_text-meter.ensures
