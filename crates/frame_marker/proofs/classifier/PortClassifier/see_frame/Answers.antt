use Rattle.frame_marker.specs.Marks.{mark_in}
use Rattle.frame_marker.proofs.classifier.PortClassifier.see_frame.Goals as goal

pub returns-in-Other-clause-mark : goal.returns-in-Other-clause-mark
unfolding mark_in
returns-in-Other-clause-mark c = search
