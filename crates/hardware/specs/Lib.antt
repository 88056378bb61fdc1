pub mod Limits
pub mod Seats
pub mod Envs
pub mod Laws
pub mod Rules
pub mod Touching
pub mod Seated
