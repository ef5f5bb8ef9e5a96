-- Inner: no contract beyond this crate cites a definition of this module.
-- Names of which no two are the same.
use Rattle.std.specs.Prelude.{◌≡◌, ℕ, List, map, Bool, true, false, ◌||◌, bytes_eq}
use Rattle.std.specs.List.{AllByRecursion, list_any}
use Rattle.tb_core.specs.Names.{is_name, AreApart}
use Rattle.tb_tables.specs.Records.{Batch, Sentence}

-- batches have good names, no two the same
pub record AreNamed (bs : List Batch) : Type 0 where
  pub good : AllByRecursion (λ (b : Batch). is_name b.name ≡ true) bs
  pub apart : AreApart (map (λ (b : Batch). b.name) bs)

-- no two sentences have the same `sent_id`
abbrev pub AreTitled : List Sentence → Type 0
AreTitled ss = AreApart (map (λ (s : Sentence). s.sent_id) ss)

-- a text is added to those seen, unless it is one of them
abbrev pub IsAdded : Bool → List (List ℕ) → List ℕ → List (List ℕ) → Type 0
IsAdded true old text new = (list_any (bytes_eq text) old ≡ false)
    × ((q : List ℕ) → list_any (bytes_eq q) new ≡ (bytes_eq text q || list_any (bytes_eq q) old))
IsAdded false old text new = list_any (bytes_eq text) old ≡ true
