-- Universal parts of speech.
-- UD v2 guidelines, "Universal POS tags".
use Rattle.std.specs.Prelude.{ℕ, List, Bool, ◌||◌, bytes_eq, codes}

-- the 17 universal parts of speech
abbrev pub is_universal_tag : List ℕ → Bool
is_universal_tag bs =
    bytes_eq bs (codes "ADJ") || bytes_eq bs (codes "ADP") || bytes_eq bs (codes "ADV") || bytes_eq bs (codes "AUX") ||
    bytes_eq bs (codes "CCONJ") || bytes_eq bs (codes "DET") || bytes_eq bs (codes "INTJ")
    || bytes_eq bs (codes "NOUN") ||
    bytes_eq bs (codes "NUM") || bytes_eq bs (codes "PART") || bytes_eq bs (codes "PRON")
    || bytes_eq bs (codes "PROPN") ||
    bytes_eq bs (codes "PUNCT") || bytes_eq bs (codes "SCONJ") || bytes_eq bs (codes "SYM")
    || bytes_eq bs (codes "VERB") ||
    bytes_eq bs (codes "X")
