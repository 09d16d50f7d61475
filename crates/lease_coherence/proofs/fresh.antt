pub mod BytesStayFresh
pub mod Clients
pub mod Contents
pub mod FreshBytes
pub mod Moves
pub mod Reads
pub mod Sent
pub mod Takes
