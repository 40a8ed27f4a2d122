pub mod SaleLemmas
