pub mod Env
pub mod Laws
pub mod Alike
pub mod Flat
