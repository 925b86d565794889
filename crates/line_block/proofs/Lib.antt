pub mod BlockDue
pub mod BlockLaws
pub mod DrainLaws
pub mod Examples
pub mod RestLaws
pub mod Said
pub mod SkipLaws
