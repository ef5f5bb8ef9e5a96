-- The comments of a sentence: values by keys, and the two comments that every sentence has.
-- CoNLL-U format page, "Sentence Boundaries and Comments": `# sent_id = ...` and `# text = ...` are required.
-- Where the page leaves it open, this project is lenient. Spaces (U+0020) around key and value are ignored, and the key
-- ends at the first `=`.
use Rattle.std.specs.Prelude.{◌≡◌, ℕ, ◌<◌, List, [], ◌∷◌, length, reverse, Option, Some, None, false}
use Rattle.std.specs.Prelude.{◌&&◌, bytes_eq, ◌==◌, if◌then◌else◌}
use Rattle.std.specs.List.{filter_map, list_any, before_first, after_first}
use Rattle.tb_chars.specs.Spaces.{has_space}
use Rattle.tb_fields.specs.Feats.{is_equals}
use Rattle.tb_conllu.specs.Text.{BlockText}

abbrev pub drop_spaces : List ℕ → List ℕ
drop_spaces [] = []
drop_spaces (b ∷ bs) = if b == 32 then drop_spaces bs else b ∷ bs

-- without the spaces at both ends
abbrev pub trimmed : List ℕ → List ℕ
trimmed bs = reverse (drop_spaces (reverse (drop_spaces bs)))

-- The value of a comment with this key, which is the text between the hash and the first `=`.
abbrev pub value_under : List ℕ → List ℕ → Option (List ℕ)
value_under key [] = None
value_under key (b ∷ bs) =
    if b == 35 && list_any is_equals bs && bytes_eq (trimmed (before_first is_equals bs)) key then Some (trimmed
    (after_first is_equals bs)) else None

-- the values of the comments with the key, in order
abbrev pub values_of : List ℕ → List (List ℕ) → List (List ℕ)
values_of key cs = filter_map (value_under key) cs

-- the only one, if there is exactly one
abbrev pub only : List (List ℕ) → Option (List ℕ)
only [] = None
only (v ∷ []) = Some v
only (v ∷ w ∷ vs) = None

-- `sent_id`
abbrev pub sent_id_key : List ℕ
sent_id_key = 115 ∷ 101 ∷ 110 ∷ 116 ∷ 95 ∷ 105 ∷ 100 ∷ []

-- `text`
abbrev pub text_key : List ℕ
text_key = 116 ∷ 101 ∷ 120 ∷ 116 ∷ []

abbrev pub sent_ids : BlockText → List (List ℕ)
sent_ids b = values_of sent_id_key b.comments

abbrev pub texts : BlockText → List (List ℕ)
texts b = values_of text_key b.comments

-- Exactly one comment names the sentence. The name is not empty and holds no white space.
pub record HasSentId (b : BlockText) : Type 0 where
  pub name : List ℕ
  pub one : sent_ids b ≡ name ∷ []
  pub nonempty : 0 < length name
  pub no_space : has_space name ≡ false

-- Exactly one comment gives the text of the sentence.
pub record HasText (b : BlockText) : Type 0 where
  pub value : List ℕ
  pub one : texts b ≡ value ∷ []
