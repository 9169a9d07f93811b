use Rattle.std.proofs.Common.{length}
use Rattle.terms.proofs.terms.Terms.+follow.Given as goal

abbrev pub decreases-follow : goal.decreases-follow
decreases-follow l = length l.step.now
