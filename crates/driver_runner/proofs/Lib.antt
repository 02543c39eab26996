mod Drives
mod Gone
mod Records
mod HeardEvents
mod Refused
