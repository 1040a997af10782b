pub mod ColumnLemmas
pub mod KeyLists
pub mod MeantKeys
pub mod RangeMakings
