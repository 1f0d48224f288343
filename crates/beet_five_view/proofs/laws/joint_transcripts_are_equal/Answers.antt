use Rattle.std.proofs.Common.{ap}
use Rattle.beet_five_view.specs.JointViews.{joint_bytes}
use Rattle.beet_five_view.proofs.SameViews.{joint-same}
use Rattle.beet_five_view.proofs.laws.joint_transcripts_are_equal.Goals as goal

pub returns-clause-views : goal.returns-clause-views
returns-clause-views c = λ a b first second words words' some less few chain two pair.
    joint-same a b some less few first second words words' two pair

pub returns-clause-bytes : goal.returns-clause-bytes
returns-clause-bytes c = λ a b first second words words' some less few chain two pair.
    ap joint_bytes (joint-same a b some less few first second words words' two pair)
