pub mod Calls
pub mod Printed
pub mod Runs
pub mod Script
pub mod Serving
pub mod Sessions
pub mod Stops
pub use Rattle.cat_engine.specs.Contents
pub use Rattle.cat_engine.specs.Histories
pub use Rattle.cat_engine.specs.Runs as EngineRuns
pub use Rattle.cat_engine.specs.Shared
pub use Rattle.cat_engine.specs.declared.machine.Origin
pub use Rattle.cat_engine.specs.declared.reply.Reply
