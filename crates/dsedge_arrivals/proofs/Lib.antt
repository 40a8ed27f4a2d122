pub mod ArrivalLaws
