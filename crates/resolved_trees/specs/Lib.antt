pub mod Named
pub mod TreePieces
