pub mod AgainLaws
pub mod DriveLaws
pub mod KeepLaws
pub mod OfferLaws
pub mod RequestLaws
pub mod SaidLaws
pub mod ShopLaws
