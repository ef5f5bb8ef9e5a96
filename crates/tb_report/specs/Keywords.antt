-- What a report has of one hit: its line, a keyword in context, and its key.
-- The CQP Query Language Manual, on concordance lines: a match with the words before it and after it.
-- A hit (i, j) covers the words i + 1 to j of a sentence, where words are the word rows.
use Rattle.std.specs.Prelude.{ℕ, ◌+◌, ◌-◌, List, [], ◌∷◌, ◌++◌, map, take, drop}
use Rattle.std.specs.List.{join_with_byte}
use Rattle.std.specs.Fmt.{decimal}
use Rattle.tb_conllu.specs.Text.{BlockText}
use Rattle.tb_syntax.specs.declared.lexeme.Attr.{Attr}
use Rattle.tb_syntax.specs.declared.lexeme.Attr.TheVariants.{Form}
use Rattle.tb_query.specs.Meaning.{value_of, word_rows}
use Rattle.tb_core.specs.Machine.{sent_id_of}

-- the values of the words in one column
abbrev pub values : Attr → BlockText → List (List ℕ)
values column b = map (value_of column) (word_rows b)

-- texts with one space between each two
abbrev pub joined : List (List ℕ) → List ℕ
joined texts = join_with_byte 32 texts

-- the texts of a hit's words
abbrev pub of_hit : ℕ → ℕ → List (List ℕ) → List (List ℕ)
of_hit i j texts = take (j - i) (drop i texts)

-- the last n of the first i texts, or all of them where there are fewer
abbrev pub before : ℕ → ℕ → List (List ℕ) → List (List ℕ)
before n i texts = drop (i - n) (take i texts)

-- the first n texts after the first j, or all of them where there are fewer
abbrev pub after : ℕ → ℕ → List (List ℕ) → List (List ℕ)
after n j texts = take n (drop j texts)

-- the key of a hit: its values
abbrev pub key_of : Attr → BlockText → ℕ × ℕ → List ℕ
key_of column b hit = joined (of_hit hit.0 hit.1 (values column b))

-- the six columns of a line: a name, the numbers of the first and the last word, and three of forms
abbrev pub columns : List ℕ → ℕ × ℕ → ℕ → List (List ℕ) → List (List ℕ)
columns name hit n forms =
    name ∷ decimal (hit.0 + 1) ∷ decimal hit.1 ∷ joined (before n hit.0 forms)
    ∷ joined (of_hit hit.0 hit.1 forms) ∷ joined (after n hit.1 forms) ∷ []

-- the line of a hit with n words of context: its columns with a tab between each two, and a line feed
abbrev pub keyword_line : BlockText → ℕ × ℕ → ℕ → List ℕ
keyword_line b hit n = join_with_byte 9 (columns (sent_id_of b) hit n (values Form b)) ++ 10 ∷ []
