-- The number, the layer and the place that tell each refusal of a step system.
use Rattle.std.specs.Prelude.{◌/◌, ◌%◌, [], ◌∷◌}
use Rattle.steps.specs.Meaning.{Str}
use Rattle.steps.specs.declared.fault.Refusal.{Refusal}
use Rattle.steps.specs.declared.fault.SystemFault.{SystemFault}
use Rattle.steps.specs.declared.fault.SystemFault.TheVariants.{NoState, NoStep, Impossible, StateTooLong, StepTooLong}
use Rattle.steps.specs.declared.fault.MaskFault.{MaskFault}
use Rattle.steps.specs.declared.fault.MaskFault.TheVariants.{Masked, Inner}

abbrev pub system_refusal : SystemFault → Refusal
system_refusal (NoState place) = record { number = 4; layer = 4; place = place }
system_refusal (NoStep place) = record { number = 5; layer = 4; place = place }
system_refusal (Impossible place) = record { number = 6; layer = 4; place = place }
system_refusal (StateTooLong needed) = record { number = 8; layer = 4; place = needed }
system_refusal (StepTooLong needed) = record { number = 12; layer = 4; place = needed }

abbrev pub mask_refusal : MaskFault → Refusal
mask_refusal Masked = record { number = 7; layer = 3; place = 0 }
mask_refusal (Inner f) = system_refusal f

-- number, layer, and place in two bytes
abbrev pub refusal_bytes : Refusal → Str
refusal_bytes r = r.number ∷ r.layer ∷ r.place / 256 ∷ r.place % 256 ∷ []
