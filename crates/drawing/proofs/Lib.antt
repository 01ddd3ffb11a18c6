pub mod RisingLaws
pub mod CellLaws
pub mod PositionLaws
pub mod CallLaws
pub mod TextLaws
pub mod MemberLaws
pub mod Claimed
pub mod ComputedPictures
