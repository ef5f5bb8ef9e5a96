-- A field without a value.
-- CoNLL-U format page: an underscore is written for a value that is not given.
use Rattle.std.specs.Prelude.{ℕ, List, [], ◌∷◌, Bool, bytes_eq}

-- `_`
abbrev pub is_blank : List ℕ → Bool
is_blank bs = bytes_eq bs (95 ∷ [])
