-- The number, the layer and the place by which a refused frame is told.
use Rattle.steps.specs.declared.fault.Refusal.{Refusal}
use Rattle.frame.specs.declared.fault.FrameFault.{FrameFault}
use Rattle.frame.specs.declared.fault.FrameFault.TheVariants.{Malformed, BadSetup}

abbrev pub frame_refusal : FrameFault → Refusal
frame_refusal (Malformed place) = record { number = 1; layer = 1; place = place }
frame_refusal (BadSetup place) = record { number = 2; layer = 1; place = place }
