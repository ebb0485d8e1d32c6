pub mod Head
pub mod Laws
pub mod Parser
pub mod Reply
pub mod Search
pub mod Stage
