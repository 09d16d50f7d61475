pub mod Answered
pub mod Counts
pub mod Noted
pub mod Settled
pub mod Steps
pub mod Unanswered
pub mod WritesStayUnderWayOnce
