-- One pair more in a walk over the pairs of DEPS, and the ID that a text writes.
use Rattle.std.proofs.Common.{◌≡◌, ℕ, List, [], ◌∷◌, ◌++◌, ap, false, refl, subst, sym, ◌∙◌}
use Rattle.std.proofs.lemmas.Bool.{true≢false}
use Rattle.tb_conllu.proofs.OneList.{id_same}
use Rattle.tb_conllu.proofs.RowLines.{id_passes}
use Rattle.tb_conllu.specs.Lines.{is_id}
use Rattle.tb_conllu.specs.declared.id.LineId.{LineId}
use Rattle.tb_conllu.specs.declared.id.LineId.TheVariants.{Word, Span, Empty}
use Rattle.tb_conllu.specs.Shape.{IsIdShaped}
use Rattle.tb_conllu.specs.Text.{id_text}
use Rattle.tb_words.specs.PairFaults.{AreRight, IsRight, Writes}

pub one_more_right : (nodes : List ℕ) (first last head : ℕ × ℕ) (pairs : List (List ℕ)) (pair : List ℕ)
    → AreRight nodes first pairs last → IsRight nodes last pair head → AreRight nodes first (pairs ++ pair ∷ []) head
one_more_right nodes first last head [] pair are right =
    (head, subst (λ (at : ℕ × ℕ). IsRight nodes at pair head) are right, refl)
one_more_right nodes first last head (x ∷ xs) pair (h, here, rest) right =
    (h, here, one_more_right nodes h last head xs pair rest right)

-- what writes the text has its form
shaped : (text : List ℕ) (id : LineId) → Writes text id → (id_text id ≡ text) × IsIdShaped id
shaped text (Word n) h = h
shaped text (Span a b) h = absurd h
shaped text (Empty i k) h = h

pub same_written : (text : List ℕ) (one other : LineId) → id_text one ≡ text → IsIdShaped one → Writes text other → other ≡ one
same_written text one other is shape writes =
    let h = shaped text other writes in id_same other one h.1 shape (h.0 ∙ sym is)

pub same_two : (text : List ℕ) (one other : LineId) → Writes text one → Writes text other → other ≡ one
same_two text one other first second =
    let h = shaped text one first in same_written text one other h.0 h.1 second

pub none_written : (text : List ℕ) → is_id text ≡ false → (id : LineId) → Writes text id → ⊥
none_written text none id writes =
    let h = shaped text id writes in
    true≢false (sym (id_passes id h.1) ∙ (ap is_id h.0 ∙ none))

pub span_written : (text : List ℕ) (a b : ℕ) → id_text (Span a b) ≡ text → IsIdShaped (Span a b) → (id : LineId)
    → Writes text id → ⊥
span_written text a b is shape id writes =
    subst (Writes text) (same_written text (Span a b) id is shape writes) writes
