pub mod ExcessLaws
pub mod FillingLaws
pub mod KeepingLaws
pub mod KindLaws
pub mod MeteringLaws
pub mod OutputLaws
pub mod RoomLaws
pub mod TokenLaws
