-- Stored totals, and those of a state.
use Rattle.std.proofs.Common.{◌≡◌, ℕ, suc, List, [], ◌∷◌, length, map, Bool, true, false, IsTrue, ◌↔◌, refl, sym, ap, ap₂, ◌∙◌, arith}
use Rattle.tb_core.specs.declared.kinds.State.{State}
use Rattle.tb_core.specs.declared.sums.Totals.{Totals}
use Rattle.tb_core.specs.Machine.{Machine}
use Rattle.tb_core.specs.Totals.{at_state, AreTotalsOf}
use Rattle.tb_core.proofs.Lists.{head_is, tail_is}
use Rattle.tb_tables.specs.Records.{Total}
use Rattle.tb_tables.specs.Values.{total_of}
use Rattle.tb_tables.specs.declared.rows.TotalRow.{TotalRow}
use Rattle.tb_refine.specs.DeskTables.{total_record, six_states}
use Rattle.tb_verify.specs.Summary.{six_totals}

-- six numbers are those of the six states
in_states : (l : List ℕ) → length l ≡ 6 → map (at_state l) six_states ≡ l
in_states [] h = absurd (omega (arith, h))
in_states (a ∷ []) h = absurd (omega (arith, h))
in_states (a ∷ b ∷ []) h = absurd (omega (arith, h))
in_states (a ∷ b ∷ c ∷ []) h = absurd (omega (arith, h))
in_states (a ∷ b ∷ c ∷ d ∷ []) h = absurd (omega (arith, h))
in_states (a ∷ b ∷ c ∷ d ∷ e ∷ []) h = absurd (omega (arith, h))
in_states (a ∷ b ∷ c ∷ d ∷ e ∷ f ∷ []) h = refl
in_states (a ∷ b ∷ c ∷ d ∷ e ∷ f ∷ g ∷ l) h = absurd (omega (arith, h))

-- the records of two lists of numbers
abbrev paired : List ℕ → List ℕ → List State → List Total
paired s w sts = map (λ (st : State). record { sentences = at_state s st; words = at_state w st }) sts

sentences_back : (s w : List ℕ) (sts : List State) → map (λ (x : Total). x.sentences) (paired s w sts) ≡ map (at_state s) sts
sentences_back s w [] = refl
sentences_back s w (st ∷ sts) = ap (λ l. at_state s st ∷ l) (sentences_back s w sts)

words_back : (s w : List ℕ) (sts : List State) → map (λ (x : Total). x.words) (paired s w sts) ≡ map (at_state w) sts
words_back s w [] = refl
words_back s w (st ∷ sts) = ap (λ l. at_state w st ∷ l) (words_back s w sts)

sentences_of_rows : (rows : List TotalRow) → map (λ (x : Total). x.sentences) (map total_of rows) ≡ map (λ (r : TotalRow). r.sentences) rows
sentences_of_rows [] = refl
sentences_of_rows (r ∷ rows) = ap (λ l. r.sentences ∷ l) (sentences_of_rows rows)

words_of_rows : (rows : List TotalRow) → map (λ (x : Total). x.words) (map total_of rows) ≡ map (λ (r : TotalRow). r.words) rows
words_of_rows [] = refl
words_of_rows (r ∷ rows) = ap (λ l. r.words ∷ l) (words_of_rows rows)

-- two lists of records with the same numbers
same_records : (xs ys : List Total) → map (λ (x : Total). x.sentences) xs ≡ map (λ (x : Total). x.sentences) ys → map (λ (x : Total). x.words) xs ≡ map (λ (x : Total). x.words) ys → xs ≡ ys
same_records [] [] e f = refl
same_records [] (y ∷ ys) e f = absurd (let s = ap length e in omega (arith, s))
same_records (x ∷ xs) [] e f = absurd (let s = ap length e in omega (arith, s))
same_records (x ∷ xs) (y ∷ ys) e f =
    let s : x.sentences ≡ y.sentences = head_is x.sentences y.sentences (map (λ (z : Total). z.sentences) xs) (map (λ (z : Total). z.sentences) ys) e in
    let w : x.words ≡ y.words = head_is x.words y.words (map (λ (z : Total). z.words) xs) (map (λ (z : Total). z.words) ys) f in
    let one : x ≡ y = λ j. record { sentences = s j; words = w j } in
    ap₂ (λ a b. a ∷ b) one
    (same_records xs ys (tail_is x.sentences y.sentences (map (λ (z : Total). z.sentences) xs) (map (λ (z : Total). z.sentences) ys) e) (tail_is x.words y.words (map (λ (z : Total). z.words) xs) (map (λ (z : Total). z.words) ys) f))

pub rows_are : (rows : List TotalRow) (t : Totals) → length t.sentences ≡ 6 → length t.words ≡ 6 → map (λ (r : TotalRow). r.sentences) rows ≡ t.sentences → map (λ (r : TotalRow). r.words) rows ≡ t.words → map total_of rows ≡ six_totals t
rows_are rows t ls lw s w =
    same_records (map total_of rows) (six_totals t)
    (sentences_of_rows rows ∙ s ∙ sym (in_states t.sentences ls) ∙ sym (sentences_back t.sentences t.words six_states))
    (words_of_rows rows ∙ w ∙ sym (in_states t.words lw) ∙ sym (words_back t.sentences t.words six_states))

pub rows_have : (rows : List TotalRow) (t : Totals) → length t.sentences ≡ 6 → length t.words ≡ 6 → map total_of rows ≡ six_totals t → (map (λ (r : TotalRow). r.sentences) rows ≡ t.sentences) × (map (λ (r : TotalRow). r.words) rows ≡ t.words)
rows_have rows t ls lw e = (
  sym (sentences_of_rows rows) ∙ ap (map (λ (x : Total). x.sentences)) e ∙ sentences_back t.sentences t.words six_states ∙ in_states t.sentences ls,
  sym (words_of_rows rows) ∙ ap (map (λ (x : Total). x.words)) e ∙ words_back t.sentences t.words six_states ∙ in_states t.words lw,
)

many : (rows : List TotalRow) → length (map total_of rows) ≡ length rows
many [] = refl
many (r ∷ rows) = ap (λ n. suc n) (many rows)

mapped : {X Y : Type 0} (f g : X → Y) → ((x : X) → f x ≡ g x) → (xs : List X) → map f xs ≡ map g xs
mapped f g h [] = refl
mapped f g h (x ∷ xs) = ap₂ (λ a b. a ∷ b) (h x) (mapped f g h xs)

-- totals that stand for a state are its records
pub stand_as : (t : Totals) (f : Machine) → AreTotalsOf t f → six_totals t ≡ map (total_record f) six_states
stand_as t f h = mapped (λ (st : State). record { sentences = at_state t.sentences st; words = at_state t.words st }) (total_record f) (λ st.
    let s = h.sentences st in
    let w = h.words st in
    λ j. record { sentences = s j; words = w j }) six_states

-- rows and totals with the same numbers, first those of sentences, then those of words
module _ (rows : List TotalRow) (stored t : Totals) (reported : (length rows ≡ 6) × (stored.sentences ≡ map (λ (r : TotalRow). r.sentences) rows) × (stored.words ≡ map (λ (r : TotalRow). r.words) rows)) (ls : length t.sentences ≡ 6) (lw : length t.words ≡ 6) where
  pub sums_then : (b : Bool) → stored.sentences ≡ t.sentences → (IsTrue b ↔ stored.words ≡ t.words) → IsTrue b ↔ map total_of rows ≡ six_totals t
  sums_then b s w = (λ yes_it_is. rows_are rows t ls lw (sym reported.1 ∙ s) (sym reported.2 ∙ w.0 yes_it_is), λ e. w.1 (reported.2 ∙ (rows_have rows t ls lw e).1))

  pub sums_else : (b : Bool) → b ≡ false → (IsTrue b ↔ stored.sentences ≡ t.sentences) → IsTrue b ↔ map total_of rows ≡ six_totals t
  sums_else b is s = (λ it. absurd (let d : false ≡ true = sym is ∙ it in cc), λ e. s.1 (reported.1 ∙ (rows_have rows t ls lw e).0))
