pub mod JoinedBytes
