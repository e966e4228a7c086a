pub mod CodeLaws
pub mod MaskLaws
pub mod ParseLaws
pub mod SlotLaws
