-- Which sentences can be written and read back: the shape that the format requires of each of their parts.
-- CoNLL-U format page: the text is NFC and UTF-8. Fields are not empty, and only FORM, LEMMA and MISC may hold spaces.
-- Comments begin with a hash. Numbers of at most six digits are this project's own limit.
use Rattle.std.specs.Prelude.{◌≡◌, ℕ, ◌<◌, ◌≤◌, List, [], ◌∷◌, length, take, IfSome, Bool}
use Rattle.std.specs.Prelude.{false, ◌&&◌, not, nat_lt, ◌==◌, chars}
use Rattle.std.specs.List.{AllByRecursion, list_any}
use Rattle.std.specs.Str.{IsUtf8}
use Rattle.tb_chars.specs.Spaces.{has_space}
use Rattle.unicode_normalization.specs.Forms.{IsInForm, Nfc}
use Rattle.tb_conllu.specs.declared.id.LineId.{LineId}
use Rattle.tb_conllu.specs.declared.id.LineId.TheVariants.{Word, Span, Empty}
use Rattle.tb_conllu.specs.Text.{RowText, BlockText}

-- a control character other than tab
abbrev pub is_control : ℕ → Bool
is_control b = nat_lt b 32 && not (b == 9)

abbrev pub is_tab : ℕ → Bool
is_tab b = b == 9

-- a text that a line may have
pub record IsLineText (bs : List ℕ) : Type 0 where
  pub utf8 : IsUtf8 bs
  pub nfc : IsInForm Nfc (chars bs)
  pub clean : list_any is_control bs ≡ false

-- a text that a field may have
pub record IsFieldText (bs : List ℕ) : Type 0 where
  pub text : IsLineText bs
  pub nonempty : 0 < length bs
  pub no_tab : list_any is_tab bs ≡ false

-- a text that a field other than FORM, LEMMA and MISC may have
pub record IsTightText (bs : List ℕ) : Type 0 where
  pub field : IsFieldText bs
  pub no_space : has_space bs ≡ false

-- at most six digits
abbrev pub IsShort : ℕ → Type 0
IsShort n = n < 1000000

abbrev pub IsIdShaped : LineId → Type 0
IsIdShaped (Word n) = (1 ≤ n) × IsShort n
IsIdShaped (Span n m) = ((1 ≤ n) × IsShort n) × ((1 ≤ m) × IsShort m)
IsIdShaped (Empty i k) = IsShort i × ((1 ≤ k) × IsShort k)

pub record IsRowShaped (r : RowText) : Type 0 where
  pub id : IsIdShaped r.id
  pub form : IsFieldText r.form
  pub lemma : IsFieldText r.lemma
  pub upos : IsTightText r.upos
  pub xpos : IsTightText r.xpos
  pub feats : IsTightText r.feats
  pub head : IfSome r.head IsShort
  pub deprel : IsTightText r.deprel
  pub deps : IsTightText r.deps
  pub misc : IsFieldText r.misc

-- a comment begins with a hash
pub record IsCommentText (bs : List ℕ) : Type 0 where
  pub text : IsLineText bs
  pub hash : take 1 bs ≡ 35 ∷ []

pub record IsShaped (b : BlockText) : Type 0 where
  pub comments : AllByRecursion IsCommentText b.comments
  pub rows : AllByRecursion IsRowShaped b.rows
  pub nonempty : 0 < length b.rows

abbrev pub AllShaped : List BlockText → Type 0
AllShaped bs = AllByRecursion IsShaped bs
