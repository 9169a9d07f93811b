-- Strings that are lent, as the strings that they are.
use Rattle.std.specs.Prelude.{Some, None, Option}
use Rattle.std.specs.Borrow.{Bor}
use Rattle.byte_strings.specs.Buffer.{Str}

abbrev pub part_view : Option (Bor Str) → Option Str
part_view None = None
part_view (Some s) = Some s.now

abbrev pub sides_view : Option (Option (Bor Str) × Option (Bor Str))
    → Option (Option Str × Option Str)
sides_view None = None
sides_view (Some (l, r)) = Some (part_view l, part_view r)

abbrev pub pair_view : Option (Bor Str × Bor Str) → Option (Str × Str)
pair_view None = None
pair_view (Some (s, r)) = Some (s.now, r.now)
