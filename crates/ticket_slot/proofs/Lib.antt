pub mod Lists
mod Seats
mod Rules
mod Tickets
mod Events
mod Passes
mod Ends
