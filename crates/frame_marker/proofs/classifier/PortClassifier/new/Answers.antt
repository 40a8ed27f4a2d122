use Rattle.frame_marker.proofs.ClassifierLaws.{sees_all}
use Rattle.frame_marker.proofs.classifier.PortClassifier.new.Goals as goal

pub returns : goal.returns
returns c link bytes =
    rw (c.has_ipv6-has_ipv6.ensures, c.in_ok-rules-2.ensures, c.deref.ensures.value)
    (sees_all c.in_ok-rules.rules.items c.args.version c.args.contracts.now c.args.port c.in_ok-rules.ensures link bytes)
