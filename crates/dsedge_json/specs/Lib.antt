-- What the program answers of texts, as objects of JSON.
pub mod Blanks
pub mod Certificates
pub mod Objects
pub mod Quotations
pub mod Told
