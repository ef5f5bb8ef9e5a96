pub mod Blank
pub mod Tags
pub mod Relations
pub mod Feats
pub mod Rising
pub mod Seen
pub mod Begun
