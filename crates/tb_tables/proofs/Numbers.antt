-- Numbers of rows, and the lists that a command leaves as they are.
use Rattle.std.proofs.Common.{◌≡◌, sym, ◌+◌, ◌<◌, ℕ, zero, suc, List, [], ◌∷◌, length, take, get_or, slice_get, Some, refl, ap, ◌∙◌, arith, length-append}
use Rattle.std.proofs.lemmas.List.{length-set}
use Rattle.tb_tables.specs.Records.{Tables, Total}
use Rattle.tb_tables.specs.Changes.{total_replaced}
use Rattle.tb_tables.specs.Commands.{NewSentenceRecord, with_total, with_item, with_items}
use Rattle.tb_tables.specs.declared.recording.MoveWrite.{MoveWrite}
use Rattle.tb_tables.specs.Premises.{Follows}

-- a row below the length is there
pub is_there : {X : Type 0} (xs : List X) (i : ℕ) → i < length xs → (x : X) × (slice_get xs i ≡ Some x)
is_there [] i h = absurd (omega (arith, h))
is_there (x ∷ xs) zero h = (x, refl)
is_there (x ∷ xs) (suc i) h = is_there xs i (omega (arith, h))

-- totals stay as many as they are
pub total_count : (d : Tables) (n : ℕ) (t : Total) → length (with_total d n t).totals ≡ length d.totals
total_count d zero t = refl
total_count d (suc n) t = length-set d.totals _ t

-- the row of a state that is one is replaced
pub total_replaced_is : (d : Tables) (n : ℕ) (t : Total) → 0 < n → total_replaced d n t ≡ with_total d n t
total_replaced_is d zero t h = absurd (omega (arith, h))
total_replaced_is d (suc n) t h = refl

module _ (batch : ℕ) (who : List ℕ) where
  pub one_longer : (d : Tables) (item : NewSentenceRecord) → length (with_item batch who d item).sentences ≡ length d.sentences + 1
  one_longer d item = length-append d.sentences _

  one_after : (d : Tables) (items : List NewSentenceRecord) (k : ℕ) (item : NewSentenceRecord) → k < length items → get_or items k item ≡ item
      → with_items batch who d (take (suc k) items) ≡ with_item batch who (with_items batch who d (take k items)) item
  one_after d [] k item low is = absurd (omega (arith, low))
  one_after d (x ∷ xs) zero item low is = ap (with_item batch who d) is
  one_after d (x ∷ xs) (suc k) item low is = one_after (with_item batch who d x) xs k item (omega (arith, low)) is

  pub one_more : (d : Tables) (items : List NewSentenceRecord) (k : ℕ) (item : NewSentenceRecord) → k < length items → get_or items k item ≡ item
      → with_items batch who d (take (k + 1) items) ≡ with_item batch who (with_items batch who d (take k items)) item
  one_more d items k item low is =
      let next : k + 1 ≡ suc k = omega arith in
      ap (λ n. with_items batch who d (take n items)) next ∙ one_after d items k item low is

  -- the sentences leave the moves and the totals
  pub items_keep : (d : Tables) (items : List NewSentenceRecord) → ((with_items batch who d items).moves ≡ d.moves) × ((with_items batch who d items).totals ≡ d.totals)
  items_keep d [] = (refl, refl)
  items_keep d (x ∷ xs) = items_keep (with_item batch who d x) xs

-- a change follows other records with as many moves and totals
pub follows_too : (d e : Tables) (change : MoveWrite) → e.moves ≡ d.moves → e.totals ≡ d.totals → Follows d change → Follows e change
follows_too d e change moves totals h = record {
  number = h.number ∙ ap (λ ms. 1 + length ms) (sym moves);
  left = rw totals h.left;
  reached = rw totals h.reached;
}
