-- What the stream's requests and replies mean.
pub mod Numbers
pub mod Digest
pub mod Seed
pub mod Requests
pub mod Asked
pub mod Replies
