-- Why terms keep the laws of step systems. The impl names this proof, so it stands in specs/, with
-- nothing else beside it. No definition that a contract cites is here.
pub mod Sound
