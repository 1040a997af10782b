pub mod Rescued
