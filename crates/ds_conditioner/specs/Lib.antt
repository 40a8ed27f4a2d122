-- What frames send, and how they are held until their colours are decided.
pub mod Conditionings
pub mod Fates
pub mod Handings
pub mod Helds
pub mod Laws
pub mod Lots
pub mod Notes
pub mod Queues
pub mod Reports
pub mod Seens
pub mod Sendings
pub mod Stretches
pub mod Tallies
pub mod Texts
