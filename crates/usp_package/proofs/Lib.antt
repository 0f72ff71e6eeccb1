pub mod Rows
pub mod Scans
pub mod FindLaws
pub mod UniqueLaws
pub mod EmbedLaws
