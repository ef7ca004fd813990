pub mod Meetings
pub mod Causes
pub mod Groups
pub mod GroupTests
pub mod Standing
pub mod LeastMeetings
pub mod Steps
pub mod Dropping
