pub mod Forms
pub mod Pieces
pub mod Values
pub mod Indexes
pub mod RowKeys
pub mod SpelledSets
pub mod GivenLaws
pub mod Results
