pub mod Chain
mod Numbers
mod Refused
mod OneFault
mod Reading
mod Sources
