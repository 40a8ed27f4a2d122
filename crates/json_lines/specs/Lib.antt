-- Values as lines of JSON.
pub mod JsonLines
