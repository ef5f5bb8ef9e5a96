-- The pieces that a source was asked for.
use Rattle.std.specs.Prelude.{◌≡◌, ℕ, List, [], ◌∷◌, ◌++◌, Option, Some, None, ⊤}
use Rattle.std.specs.List.{concat}

-- these were added to the counted pieces
abbrev pub Gives : Option (List (List ℕ)) → Option (List (List ℕ)) → List (List ℕ) → Type 0
Gives None new ps = ⊤
Gives (Some xs) None ps = ⊥
Gives (Some xs) (Some ys) ps = ys ≡ xs ++ ps

-- P held of the bytes before each piece when it was asked for
abbrev pub AllOwed : (List ℕ → Type 0) → List ℕ → List (List ℕ) → Type 0
AllOwed P before [] = ⊤
AllOwed P before (p ∷ ps) = P before × AllOwed P (before ++ p) ps

-- after some bytes these were taken, in pieces that were owed
abbrev pub AskedFor : (List ℕ → Type 0) → List ℕ → Option (List (List ℕ)) → Option (List (List ℕ))
    → List ℕ → Type 0
AskedFor P before old new taken = (ps : List (List ℕ)) × Gives old new ps × (concat ps ≡ taken)
    × AllOwed P before ps
