-- What the words of a command line ask for. The program's name comes first.
use Rattle.std.specs.Prelude.{ℕ, List, [], ◌∷◌, Bool, false, ◌&&◌, bytes_eq, codes}

-- the only word is `check`, perhaps with the end of options after it
abbrev pub asks_check : List (List ℕ) → Bool
asks_check [] = false
asks_check (name ∷ []) = false
asks_check (name ∷ word ∷ []) = bytes_eq word (codes "check")
asks_check (name ∷ word ∷ end ∷ []) = bytes_eq word (codes "check") && bytes_eq end (codes "--")
asks_check (name ∷ word ∷ next ∷ more ∷ rest) = false
