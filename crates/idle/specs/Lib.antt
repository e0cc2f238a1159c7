-- Tasks that no bar can touch, and the mask of resources whose step may still change something.
pub mod Lively
pub mod Mask
