-- The kinds of setups, and the bytes that name them.
use Rattle.std.specs.Prelude.{ℕ, Some, None, Option, ◌==◌, if◌then◌else◌}
use Rattle.frame.specs.declared.kind.Kind.{Kind}
use Rattle.frame.specs.declared.kind.Kind.TheVariants.{Terms, Net}
use Rattle.frame.specs.declared.kind.TheConstants.{TERMS, NET}

-- the kind that a byte names
abbrev pub named_kind : ℕ → Option Kind
named_kind byte =
    if byte == TERMS then Some Terms
    else if byte == NET then Some Net
    else None
