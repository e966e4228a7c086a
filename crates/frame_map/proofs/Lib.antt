pub mod HexLaws
pub mod LawfulProp
pub mod Listing
pub mod MapLaws
pub mod Rising
pub mod RowLaws
pub mod TableLaws
pub mod TextLaws
