pub mod Seats
