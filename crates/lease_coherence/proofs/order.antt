pub mod OrderedRequests
pub mod RequestsStayInOrder
pub mod Sends
