-- The definitions that terms may call: how many, the bodies of the first of them, and all of them
-- as terms.
use Rattle.std.specs.Prelude.{ℕ, List}
use Rattle.steps.specs.Meaning.{Str}
use Rattle.ccs.specs.Syntax.{Term}
use Rattle.terms.specs.declared.terms.Terms.{Terms}
use Rattle.terms.specs.Bodies.{terms_in}

abbrev pub count_of : Terms → ℕ
count_of t = t.count

abbrev pub bodies_of : Terms → List Str
bodies_of t = t.bodies

abbrev pub terms_of : Terms → List Term
terms_of t = terms_in t.count t.bodies
