use Rattle.std.proofs.Common.{◌≡◌, ◌+◌, [], length}
use Rattle.frame.specs.Parts.{bodies}
use Rattle.frame.specs.Systems.{bodies_of}
use Rattle.server.specs.TermsSetup.{behind, given}
use Rattle.server.proofs.setup.definitions.build.Given as goal

abbrev pub invariant-loop-definition : goal.invariant-loop-definition
invariant-loop-definition l =
    let i = l.definition-iterator in
    let n = length (bodies_of l.definitions) in
    record {
      can : (goal.iterator-loop-definition).can_next i;
      finite : (goal.iterator-loop-definition).is_finite i;
      count : l.terms.count ≡ n;
      place : i.place + 1 ≡ behind l.definitions.place l.terms.bodies;
      left : length l.terms.bodies + length (bodies i.count i.rest.now) ≡ n;
      so_far : given l.definitions.place n l.terms.bodies (bodies i.count i.rest.now) ≡ given l.definitions.place n [] (bodies_of l.definitions);
    }
