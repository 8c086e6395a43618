pub mod Parser
pub mod State
pub mod All
