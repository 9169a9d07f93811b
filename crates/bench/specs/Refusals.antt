-- The number, the layer and the place by which each refusal of the bench is told.
use Rattle.std.specs.Prelude.{Some, None, Option}
use Rattle.steps.specs.declared.fault.Refusal.{Refusal}
use Rattle.steps.specs.Refusals.{mask_refusal}
use Rattle.bench.specs.declared.fault.BenchFault.{BenchFault}
use Rattle.bench.specs.declared.fault.BenchFault.TheVariants.{NoSheet, WrongStanding, System, TextTooLong, Full, NoSuchStep, Dependent, StartsDiffer, Conflict, TooMany, Stopped}

abbrev pub bench_refusal : BenchFault → Refusal
bench_refusal (NoSheet place) = record { number = 3; layer = 2; place = place }
bench_refusal (WrongStanding place) = record { number = 3; layer = 2; place = place }
bench_refusal (System f) = mask_refusal f
bench_refusal (TextTooLong needed) = record { number = 8; layer = 2; place = needed }
bench_refusal Full = record { number = 9; layer = 2; place = 32 }
bench_refusal (NoSuchStep place) = record { number = 10; layer = 2; place = place }
bench_refusal (Dependent place) = record { number = 11; layer = 2; place = place }
bench_refusal StartsDiffer = record { number = 13; layer = 2; place = 0 }
bench_refusal (Conflict place) = record { number = 14; layer = 2; place = place }
bench_refusal (TooMany place) = record { number = 15; layer = 2; place = place }
bench_refusal (Stopped place f) = record { number = 16; layer = 2; place = place }

-- what is told beneath a refusal: the one that stopped the replay, whole
abbrev pub beneath : BenchFault → Option Refusal
beneath (NoSheet place) = None
beneath (WrongStanding place) = None
beneath (System f) = None
beneath (TextTooLong needed) = None
beneath Full = None
beneath (NoSuchStep place) = None
beneath (Dependent place) = None
beneath StartsDiffer = None
beneath (Conflict place) = None
beneath (TooMany place) = None
beneath (Stopped place f) = Some (mask_refusal f)
