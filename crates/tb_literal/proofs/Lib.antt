pub mod PatternLemmas
pub mod NeedleLemmas
pub mod ItemLemmas
pub mod PlainLemmas
pub mod Deciding
pub mod PlainTexts
