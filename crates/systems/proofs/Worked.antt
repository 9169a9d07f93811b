-- The answers, by computing the meaning.
use Rattle.std.proofs.Common.{refl, arith}
use Rattle.ccs.specs.Label.{label}
use Rattle.ccs.specs.Spelling.{term_bytes, proof_bytes}
use Rattle.ccs.specs.Reading.{read, term_byte, proof_byte}
use Rattle.ccs.specs.Improper.{improper}
use Rattle.ccs.specs.Improper.ImproperAt.{shown}
use Rattle.ccs.specs.Follow.{follow}
use Rattle.ccs.specs.Residual.{residual, origin}
use Rattle.systems.specs.Worked.{Worked}

pub worked : Worked
unfolding label term_bytes proof_bytes read term_byte proof_byte improper follow residual origin
worked =
    record {
      choice_made = refl;
      choice_back = refl;
      two_branches = record { first = refl; second = refl; none_left = refl; none_left_of_second = refl };
      handshake = refl;
      handshake_label = refl;
      shared_end = record { first = refl; second = refl; none_left = refl; none_left_of_second = refl };
      choice_inside = refl;
      restricted = refl;
      restricted_improper = record { holds = shown refl; least = λ j below _. omega (arith, below) };
      restricted_told = refl;
      event = refl;
    }
