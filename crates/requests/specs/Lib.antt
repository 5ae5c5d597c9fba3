-- What is written for a request to sign (Requests), what code that reads one knows (Reading, Read), and that the card that is written is accepted
-- (Accepted).
pub mod Requests
pub mod Reading
pub mod Read
pub mod Accepted
