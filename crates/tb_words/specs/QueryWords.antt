-- Between crates: no contract of a front door cites a definition of this module.
-- Words of a query: names of columns, and words of other query languages.
use Rattle.std.specs.Prelude.{ℕ, ◌+◌, ◌-◌, ◌^◌, List, chars, codes, length, min, take, Bool, ◌||◌, ◌==◌, not, bytes_eq, if◌then◌else◌}
use Rattle.std.specs.Char.{is_ascii_alphanumeric}
use Rattle.std.specs.List.{before_first}
use Rattle.std.specs.Str.{str_to_ascii_lowercase}
use Rattle.tb_words.specs.declared.sentences.TheConstants.{COLUMN_CASE, COLUMN_CLOSED, COLUMN_DEPREL, COLUMN_FEATS}
use Rattle.tb_words.specs.declared.sentences.TheConstants.{COLUMN_OTHER, COLUMN_POS, COLUMN_WORD}

-- the number of the character that begins at a byte, counted from 1 in 64 bits
abbrev pub character_number : (text : List ℕ) → (at : ℕ) → ℕ
character_number text at = min (length (chars (take at text)) + 1) (2 ^ 64 - 1)

-- the ASCII letters, digits and underscores with which a text begins
abbrev pub is_no_letter : ℕ → Bool
is_no_letter b = not (is_ascii_alphanumeric b || b == 95)

abbrev pub first_word : List ℕ → List ℕ
first_word text = before_first is_no_letter text

-- one of the names of the columns that a query may ask passes
abbrev pub any_column : (List ℕ → Bool) → Bool
any_column test = test (codes "word") || test (codes "lemma") || test (codes "upos")
    || test (codes "xpos") || test (codes "feats") || test (codes "deprel")

-- the name of a column that a query may ask
abbrev pub is_column : List ℕ → Bool
is_column word = any_column (bytes_eq word)

-- the same, apart from the case of its letters
abbrev pub is_column_in_capitals : List ℕ → Bool
is_column_in_capitals word = is_column (str_to_ascii_lowercase word)

-- a word for and, or, or not
abbrev pub is_connective : List ℕ → Bool
is_connective word = bytes_eq word (codes "and") || bytes_eq word (codes "or") || bytes_eq word (codes "not")
    || bytes_eq word (codes "AND") || bytes_eq word (codes "OR") || bytes_eq word (codes "NOT")

-- names that others have for a column, by the column that is meant
abbrev pub is_of_tags : List ℕ → Bool
is_of_tags word = bytes_eq word (codes "pos") || bytes_eq word (codes "POS") || bytes_eq word (codes "tag")
    || bytes_eq word (codes "cpos") || bytes_eq word (codes "postag")

abbrev pub is_of_forms : List ℕ → Bool
is_of_forms word = bytes_eq word (codes "form") || bytes_eq word (codes "FORM") || bytes_eq word (codes "token")
    || bytes_eq word (codes "text")

abbrev pub is_of_features : List ℕ → Bool
is_of_features word = bytes_eq word (codes "morph") || bytes_eq word (codes "feat") || bytes_eq word (codes "features")
    || bytes_eq word (codes "featscontains")

abbrev pub is_of_relations : List ℕ → Bool
is_of_relations word = bytes_eq word (codes "rel") || bytes_eq word (codes "dep") || bytes_eq word (codes "relation")
    || bytes_eq word (codes "deprels")

-- a column that cannot be asked
abbrev pub is_closed_column : List ℕ → Bool
is_closed_column word = bytes_eq word (codes "id") || bytes_eq word (codes "ID") || bytes_eq word (codes "head")
    || bytes_eq word (codes "HEAD") || bytes_eq word (codes "deps") || bytes_eq word (codes "DEPS")
    || bytes_eq word (codes "misc") || bytes_eq word (codes "MISC")

-- what is said of a word in the place of a column's name
abbrev pub column_sentence : List ℕ → List ℕ
column_sentence word =
    if is_column_in_capitals word then COLUMN_CASE.now else
    if is_of_tags word then COLUMN_POS.now else
    if is_of_forms word then COLUMN_WORD.now else
    if is_of_features word then COLUMN_FEATS.now else
    if is_of_relations word then COLUMN_DEPREL.now else
    if is_closed_column word then COLUMN_CLOSED.now else COLUMN_OTHER.now
