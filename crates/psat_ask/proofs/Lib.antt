pub mod StatusLaws
pub mod KindLaws
pub mod RequestLaws
