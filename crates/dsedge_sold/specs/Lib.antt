-- What a broker answers, as lines and as objects of JSON.
pub mod Said
pub mod Sold
pub mod SoldObjects
