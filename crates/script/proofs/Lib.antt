pub mod Cuts
pub mod Figures
pub mod Series
pub mod Standing
pub mod Trying
pub mod Printing
pub mod Carrying
