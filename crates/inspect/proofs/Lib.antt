pub mod ShowLaws
