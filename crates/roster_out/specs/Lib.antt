pub mod Places
pub mod Writers
