pub mod Under
pub mod WithoutHoles
