-- A mask and a renaming keep the laws of step systems. Each is a step system, and has to name its
-- proof of that, so the proofs stand in specs/, in Laws/; a reader of the meaning needs none of
-- them.
pub mod MaskLaws
pub mod RenamingLaws
