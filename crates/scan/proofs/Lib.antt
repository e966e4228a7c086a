pub mod MaskLaws
pub mod Members
pub mod RootLaws
pub mod StackLaws
pub mod WritingLaws
