-- Rounds of visits, the orders that keep them, and what follows for these.
pub mod Laws
pub mod Orders
pub mod Rounds
