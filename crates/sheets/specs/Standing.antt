-- A refusal for which no sheet's standing is the reason.
use Rattle.std.specs.Prelude.{◌≢◌}
use Rattle.bench.specs.declared.fault.BenchFault.{BenchFault}
use Rattle.bench.specs.Refusals.{bench_refusal}

-- the number by which a wrong standing, or a sheet that is not there, is told
abbrev pub NotByStanding : BenchFault → Type 0
NotByStanding f = (bench_refusal f).number ≢ 3
