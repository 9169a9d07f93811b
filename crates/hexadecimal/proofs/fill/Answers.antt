use Rattle.std.proofs.Common.{rules}
use Rattle.hexadecimal.proofs.Text.{sound_pairs}
use Rattle.hexadecimal.proofs.fill.Goals as goal

pub loop-n-init : goal.loop-n-init
loop-n-init c = record { callable = search rules; front = search (rules, sound_pairs); back = search rules }
