-- Which bytes fit, of terms and of proofs, without what they make.
use Rattle.std.specs.Prelude.{ℕ, Some, None, Option, nat_eq, if◌then◌else◌}
use Rattle.ccs.specs.declared.node_bytes.TheConstants.{NIL, PREFIX, RESTRICTION, CALL, ACT, BOTH, UNDER}
use Rattle.ccs.specs.Reading.{Next}
use Rattle.ccs.specs.declared.due.Due.{Due}
use Rattle.nodes.specs.declared.scan.Wanted.{Wanted}
use Rattle.nodes.specs.declared.scan.Size.{Size}

-- what is due behind a byte
abbrev pub wanted_next : {A : Type 0} → Option (Next A) → Option Wanted
wanted_next None = None
wanted_next (Some x) = Some (record { due = x.due; count = x.count })

abbrev pub fits_of : {A : Type 0} → (Due → ℕ → ℕ → Option (Next A)) → Wanted → ℕ → Option Wanted
fits_of byte w b = wanted_next (byte w.due w.count b)

-- how many bytes of its own a node has, and how many parts, by its first byte
abbrev pub proof_size : ℕ → Size
proof_size kind =
    if nat_eq kind ACT then record { own = 2; parts = 0 }
    else if nat_eq kind BOTH then record { own = 1; parts = 2 }
    else if nat_eq kind UNDER then record { own = 2; parts = 1 } else record { own = 1; parts = 1 }

abbrev pub term_size : ℕ → Size
term_size kind =
    if nat_eq kind NIL then record { own = 1; parts = 0 }
    else if nat_eq kind PREFIX then record { own = 2; parts = 1 }
    else if nat_eq kind RESTRICTION then record { own = 2; parts = 1 }
    else if nat_eq kind CALL then record { own = 2; parts = 0 } else record { own = 1; parts = 2 }
