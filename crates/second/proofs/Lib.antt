-- The lemma that the proof of `relation` uses.
pub mod Checked
