-- The code of a word line, and the row that it spells.
use Rattle.std.proofs.Common.{◌≡◌, ℕ, ◌<◌, List, [], ◌∷◌, length, Bool, true, false, ◌||◌, not, sym, ◌∙◌, ap, subst, arith, Option}
use Rattle.std.specs.Prelude.{slice_index_or, IfSome}
use Rattle.std.specs.List.{list_any, AllByRecursion, join_with_byte}
use Rattle.std.proofs.lemmas.Bool.{or_parts, cond-false}
use Rattle.tb_chars.specs.Spaces.{has_space}
use Rattle.tb_conllu.specs.declared.id.LineId.{LineId}
use Rattle.tb_conllu.specs.Text.{RowText, fields_of, id_text, head_text}
use Rattle.tb_conllu.specs.Shape.{IsLineText, IsFieldText, IsTightText, IsRowShaped, IsIdShaped, IsShort}
use Rattle.tb_conllu.specs.Lines.{fields, field, is_id, is_head, is_empty, has_ten_fields, has_spaced_field, word_code}
use Rattle.tb_conllu.proofs.Parts.{HasNoTab, fields_lack, fields_text, join_split}

-- a field other than FORM, LEMMA and MISC of these has white space
abbrev any_space : List (List ℕ) → Bool
any_space fs = has_space (slice_index_or fs 3 []) || has_space (slice_index_or fs 4 []) || has_space (slice_index_or fs 5 []) || has_space (slice_index_or fs 6 []) || has_space (slice_index_or fs 7 []) || has_space (slice_index_or fs 8 [])

pub none_bad : (line : List ℕ) (fs : List (List ℕ)) → has_ten_fields line ≡ true → fields line ≡ fs → is_id (slice_index_or fs 0 []) ≡ true → any_space fs ≡ false → is_head (slice_index_or fs 6 []) ≡ true → word_code line ≡ 0
none_bad line fs ten same id space h =
    let first : is_id (field 0 line) ≡ true = ap (λ x. is_id (slice_index_or x 0 [])) same ∙ id in
    let spaced : has_spaced_field line ≡ false = ap any_space same ∙ space in
    let seventh : is_head (field 6 line) ≡ true = ap (λ x. is_head (slice_index_or x 6 [])) same ∙ h in
    cond-false _ _ _ (ap not ten) ∙ cond-false _ _ _ (ap not first) ∙ cond-false _ _ _ spaced ∙ cond-false _ _ _ (ap not seventh)

-- ---- the row

-- the fields of a line, where its ID and its HEAD spell these
pub fields_spelled : (line a b c d e f g h k l : List ℕ) (i : LineId) (hd : Option ℕ) → fields line ≡ a ∷ b ∷ c ∷ d ∷ e ∷ f ∷ g ∷ h ∷ k ∷ l ∷ [] → id_text i ≡ a → head_text hd ≡ g → fields line ≡ id_text i ∷ b ∷ c ∷ d ∷ e ∷ f ∷ head_text hd ∷ h ∷ k ∷ l ∷ []
fields_spelled line a b c d e f g h k l i hd same it ht =
    same ∙ ap (λ x. x ∷ b ∷ c ∷ d ∷ e ∷ f ∷ g ∷ h ∷ k ∷ l ∷ []) (sym it) ∙ ap (λ x. id_text i ∷ b ∷ c ∷ d ∷ e ∷ f ∷ x ∷ h ∷ k ∷ l ∷ []) (sym ht)

pub line_of_fields : (line : List ℕ) (fs : List (List ℕ)) → fields line ≡ fs → join_with_byte 9 fs ≡ line
line_of_fields line fs same = ap (join_with_byte 9) (sym same) ∙ join_split line

some_bytes : (f : List ℕ) → is_empty f ≡ false → 0 < length f
some_bytes [] h = absurd cc
some_bytes (b ∷ f) h = omega arith

field_texts : (fs : List (List ℕ)) → AllByRecursion IsLineText fs → AllByRecursion HasNoTab fs → list_any is_empty fs ≡ false → AllByRecursion IsFieldText fs
field_texts [] t n h = tt
field_texts (f ∷ fs) t n h =
    let parts = or_parts (is_empty f) (list_any is_empty fs) h in
    (record { text = t.0; nonempty = some_bytes f parts.0; no_tab = n.0 }, field_texts fs t.1 n.1 parts.1)

none_empty : (line : List ℕ) → has_ten_fields line ≡ true → list_any is_empty (fields line) ≡ false
none_empty line h = grind arith

pub line_fields : (line : List ℕ) (fs : List (List ℕ)) → has_ten_fields line ≡ true → fields line ≡ fs → IsLineText line → AllByRecursion IsFieldText fs
line_fields line fs ten same h =
    let P : List (List ℕ) → Type 0 = AllByRecursion IsFieldText in
    subst P same (field_texts (fields line) (fields_text line h) (fields_lack line) (none_empty line ten))

tight : (f : List ℕ) → IsFieldText f → has_space f ≡ false → IsTightText f
tight f h s = record { field = h; no_space = s }

-- six tests, none of which holds
record AllSix (a b c d e f : Bool) : Type 0 where
  pub upos : a ≡ false
  pub xpos : b ≡ false
  pub feats : c ≡ false
  pub head : d ≡ false
  pub deprel : e ≡ false
  pub deps : f ≡ false

all_six : (a b c d e f : Bool) → (a || b || c || d || e || f) ≡ false → AllSix a b c d e f
all_six a b c d e f h =
    let p = or_parts _ _ h in
    let q = or_parts _ _ p.0 in
    let r = or_parts _ _ q.0 in
    let s = or_parts _ _ r.0 in
    let t = or_parts _ _ s.0 in
    record { upos = t.0; xpos = t.1; feats = s.1; head = r.1; deprel = q.1; deps = p.1 }

pub row_shaped : (r : RowText) → AllByRecursion IsFieldText (fields_of r) → any_space (fields_of r) ≡ false → IsIdShaped r.id → IfSome r.head IsShort → IsRowShaped r
row_shaped r h space id head =
    let s = all_six _ _ _ _ _ _ space in
    let t = h.1.1.1 in
    let u = t.1.1.1.1 in
    record {
      id = id;
      form = h.1.0;
      lemma = h.1.1.0;
      upos = tight r.upos t.0 s.upos;
      xpos = tight r.xpos t.1.0 s.xpos;
      feats = tight r.feats t.1.1.0 s.feats;
      head = head;
      deprel = tight r.deprel u.0 s.deprel;
      deps = tight r.deps u.1.0 s.deps;
      misc = u.1.1.0;
    }

-- a line without a code has the row that its fields spell
pub row_ok : (line a b c d e f g h k l : List ℕ) (i : LineId) (hd : Option ℕ) → has_ten_fields line ≡ true → fields line ≡ a ∷ b ∷ c ∷ d ∷ e ∷ f ∷ g ∷ h ∷ k ∷ l ∷ [] → is_id a ≡ true → id_text i ≡ a → (has_space d || has_space e || has_space f || has_space g || has_space h || has_space k) ≡ false → is_head g ≡ true → head_text hd ≡ g → (word_code line ≡ 0) × (join_with_byte 9 (id_text i ∷ b ∷ c ∷ d ∷ e ∷ f ∷ head_text hd ∷ h ∷ k ∷ l ∷ []) ≡ line)
row_ok line a b c d e f g h k l i hd ten same id it space head ht = (
  none_bad line _ ten same id space head,
  line_of_fields line _ (fields_spelled line a b c d e f g h k l i hd same it ht),
)

-- that row is shaped, where the line may stand in a file
pub row_fits : (line a b c d e f g h k l : List ℕ) (i : LineId) (hd : Option ℕ) → has_ten_fields line ≡ true → fields line ≡ a ∷ b ∷ c ∷ d ∷ e ∷ f ∷ g ∷ h ∷ k ∷ l ∷ [] → id_text i ≡ a → IsIdShaped i → (has_space d || has_space e || has_space f || has_space g || has_space h || has_space k) ≡ false → head_text hd ≡ g → IfSome hd IsShort → IsLineText line → IsRowShaped (record { id = i; form = b; lemma = c; upos = d; xpos = e; feats = f; head = hd; deprel = h; deps = k; misc = l })
row_fits line a b c d e f g h k l i hd ten same it shaped space ht short text =
    let spelled = fields_spelled line a b c d e f g h k l i hd same it ht in
    let r : RowText = record { id = i; form = b; lemma = c; upos = d; xpos = e; feats = f; head = hd; deprel = h; deps = k; misc = l } in
    row_shaped r (line_fields line (fields_of r) ten spelled text) (ap any_space (sym spelled ∙ same) ∙ space) shaped short
