pub mod NoGain
pub mod Parts
