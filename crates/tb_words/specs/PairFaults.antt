-- Between crates: no contract of a front door cites a definition of this module.
-- What is said of the pairs in DEPS: the first that is at fault, and why.
-- CoNLL-U format page, "Syntactic Annotation": pairs `head:relation` joined by bars, in the order of their heads.
use Rattle.std.specs.Prelude.{◌≡◌, ◌≢◌, ◌+◌, ◌<◌, ◌≤◌, ◌^◌, ◌⊎◌, ℕ, List, [], ◌∷◌, true, false}
use Rattle.std.specs.Prelude.{codes, count_by, IsSomeAnd, length, slice_index, slice_index_or, take}
use Rattle.std.specs.List.{after_first, before_first, list_any, slice_get, slice_split}
use Rattle.tb_conllu.specs.declared.id.LineId.{LineId}
use Rattle.tb_conllu.specs.declared.id.LineId.TheVariants.{Word, Span, Empty}
use Rattle.tb_conllu.specs.Shape.{IsIdShaped}
use Rattle.tb_conllu.specs.Text.{RowText, id_text}
use Rattle.tb_conllu.specs.Words.{is_word}
use Rattle.tb_fields.specs.Feats.{is_bar}
use Rattle.tb_fields.specs.Relations.{is_colon}
use Rattle.tb_rules.specs.Ids.{is_in_place, is_node_after}
use Rattle.tb_rules.specs.Rows.{EachRowPasses}
use Rattle.tb_words.specs.declared.sentences.TheConstants.{BROKEN, PAIR_FORM, PAIR_HEAD, PAIR_ORDER, PAIR_RELATION}

-- For each word, and for 0, how many empty nodes come after it.
pub record CountNodes (rows : List RowText) (nodes : List ℕ) : Type 0 where
  pub words : length nodes ≡ count_by is_word rows + 1
  pub after : (i : ℕ) → slice_index nodes i ≡ count_by (is_node_after i) rows

-- ---- heads

-- the text is the ID of a word or of an empty node, as a row writes it
abbrev pub Writes : List ℕ → LineId → Type 0
Writes text (Word n) = (id_text (Word n) ≡ text) × IsIdShaped (Word n)
Writes text (Span a b) = ⊥
Writes text (Empty i k) = (id_text (Empty i k) ≡ text) × IsIdShaped (Empty i k)

-- an ID as a place: n is (n, 0), and i.k is (i, k)
abbrev pub place_of : LineId → ℕ × ℕ
place_of (Word n) = (n, 0)
place_of (Span a b) = (a, 0)
place_of (Empty i k) = (i, k)

-- A sentence with so many empty nodes after each word has this word, or this empty node.
abbrev pub IsThere : (nodes : List ℕ) → (place : ℕ × ℕ) → Type 0
IsThere nodes place = IsSomeAnd (slice_get nodes place.0) (λ last. place.1 ≤ last)

-- the head that a text names in the sentence: 0, a word, or an empty node
abbrev pub IsHead : (nodes text : List ℕ) → ℕ × ℕ → Type 0
IsHead nodes text place =
    ((text ≡ codes "0") × (place ≡ (0, 0)))
    ⊎ ((text ≢ codes "0") × ((id : LineId) × Writes text id × (place ≡ place_of id)) × IsThere nodes place)

-- it names none
abbrev pub IsNoHead : (nodes text : List ℕ) → Type 0
IsNoHead nodes text = (text ≢ codes "0") × ((id : LineId) → Writes text id → IsThere nodes (place_of id) → ⊥)

-- the first head comes before the second; 0 before all, and i.k after i
abbrev pub IsBefore : (first second : ℕ × ℕ) → Type 0
IsBefore first second = (first.0 < second.0) ⊎ ((first.0 ≡ second.0) × (first.1 < second.1))

-- ---- pairs

abbrev pub front : List ℕ → List ℕ
front pair = before_first is_colon pair

abbrev pub relation : List ℕ → List ℕ
relation pair = after_first is_colon pair

-- a pair after one with this head: it has a head, which is not before that one, and a relation
abbrev pub IsRight : (nodes : List ℕ) → (last : ℕ × ℕ) → (pair : List ℕ) → (head : ℕ × ℕ) → Type 0
IsRight nodes last pair head =
    (list_any is_colon pair ≡ true) × IsHead nodes (front pair) head × (0 < length (relation pair))
    × (IsBefore head last → ⊥)

-- what is wrong with a pair after one with this head
abbrev pub SaysPair : (nodes : List ℕ) → (last : ℕ × ℕ) → (pair sentence : List ℕ) → Type 0
SaysPair nodes last pair sentence =
    ((sentence ≡ PAIR_FORM.now) × (list_any is_colon pair ≡ false))
    ⊎ ((sentence ≡ PAIR_HEAD.now) × (list_any is_colon pair ≡ true) × IsNoHead nodes (front pair))
    ⊎ ((sentence ≡ PAIR_RELATION.now) × (list_any is_colon pair ≡ true) × (length (relation pair) ≡ 0))
    ⊎ ((sentence ≡ PAIR_ORDER.now) × ((head : ℕ × ℕ) × IsHead nodes (front pair) head × IsBefore head last))

-- right pairs, one after another, and the head of the last
abbrev pub AreRight : (nodes : List ℕ) → (last : ℕ × ℕ) → List (List ℕ) → (end : ℕ × ℕ) → Type 0
AreRight nodes last [] end = end ≡ last
AreRight nodes last (pair ∷ pairs) end = (head : ℕ × ℕ) × IsRight nodes last pair head × AreRight nodes head pairs end

abbrev pub pairs_of : List ℕ → List (List ℕ)
pairs_of deps = slice_split is_bar deps

-- the first pair that is not right, and what is wrong with it; those before it are right
pub record IsFirstPair (nodes deps pair sentence : List ℕ) : Type 0 where
  pub place : ℕ
  pub last : ℕ × ℕ
  pub within : place < length (pairs_of deps)
  pub pair_is : pair ≡ slice_index_or (pairs_of deps) place []
  pub before : AreRight nodes (0, 0) (take place (pairs_of deps)) last
  pub said : SaysPair nodes last pair sentence

-- the first pair at fault is told; the whole field where each is right
abbrev pub SaysPairs : (nodes deps pair sentence : List ℕ) → Type 0
SaysPairs nodes deps pair sentence =
    IsFirstPair nodes deps pair sentence
    ⊎ ((pair ≡ deps) × (sentence ≡ BROKEN.now) × ((last : ℕ × ℕ) × AreRight nodes (0, 0) (pairs_of deps) last))

-- so in a sentence whose rows are numbered in order
abbrev pub SaysDeps : List RowText → (deps pair sentence : List ℕ) → Type 0
SaysDeps rows deps pair sentence =
    length rows + 1 < 2 ^ 32 → EachRowPasses is_in_place rows
    → (nodes : List ℕ) × CountNodes rows nodes × SaysPairs nodes deps pair sentence
