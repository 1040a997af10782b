-- Which keys of a board are topics'.
pub use Rattle.key_tests.proofs.TopicKeys.{item_is_none, topic_is}
