-- Inner: no contract beyond this crate cites a definition of this module.
-- Texts that were seen.
use Rattle.std.specs.Prelude.{ℕ, List, Bool, bytes_eq}
use Rattle.std.specs.List.{list_any}
use Rattle.std.specs.BTreeSet.{BTreeSet}
use denote.Ref.{Bor}

-- the text is one of those in the set
abbrev pub has_come : BTreeSet (Bor (List ℕ)) → List ℕ → Bool
has_come seen text = list_any (λ k. bytes_eq k.now text) seen.keys
