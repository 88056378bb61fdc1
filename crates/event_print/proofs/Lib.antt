pub mod Appended
pub mod Lengths
pub mod Listed
pub mod Printed
pub mod Pieced
