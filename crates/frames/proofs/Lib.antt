pub mod FrameLaws
pub mod StreamLaws
pub mod PushLaws
