pub mod FileLaws
pub mod ImageLaws
pub mod LayoutLaws
pub mod PieceLaws
pub mod SearchLaws
