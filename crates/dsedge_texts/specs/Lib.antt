-- What files hold, and what the program answers to their texts.
pub mod Accepted
pub mod Certified
pub mod Headed
pub mod Quotation
pub mod Quoted
pub mod Readable
pub mod Refused
pub mod Wording
