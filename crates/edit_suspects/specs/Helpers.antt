-- Tests of whether a key is a helper's, and of whether an item may have a ghost, as they are passed on.
pub use Rattle.key_tests.specs.Tests.{is_by_system, is_helper, is_named, is_system, ghost_of, may_be_ghost}
