pub mod Numbers
pub mod Requests
pub mod Commands
pub mod Plain
