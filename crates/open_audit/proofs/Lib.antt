mod Keeping
mod Opening
