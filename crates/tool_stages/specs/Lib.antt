pub mod Content
pub mod Stages
pub mod Envs
pub mod Begins
pub mod Spelt
pub mod Accepted
pub mod Goes
pub mod Fetches
