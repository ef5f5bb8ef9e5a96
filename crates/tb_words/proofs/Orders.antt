-- A row is in its place where its ID is the next one.
use Rattle.std.proofs.Common.{◌≡◌, ℕ, ◌+◌, ◌-◌, ◌^◌, ◌<◌, ◌≤◌, List, length, take, get_or, true, false, ◌&&◌, refl, sym, ◌∙◌, ap, arith, eqb, subst, Some}
use Rattle.std.proofs.lemmas.Bool.{and_parts, eqb-true, false_from_ne_true}
use Rattle.std.proofs.lemmas.Bool.Decides.{nat_tests}
use Rattle.std.proofs.lemmas.Option.{slice_get-get_or}
use Rattle.std.specs.List.{count_by, slice_get}
use Rattle.tb_conllu.specs.declared.id.LineId.{LineId}
use Rattle.tb_conllu.specs.declared.id.LineId.TheVariants.{Word, Span, Empty}
use Rattle.tb_conllu.specs.Text.{RowText}
use Rattle.tb_conllu.specs.Words.{is_word}
use Rattle.tb_rules.proofs.Counts.{HasCome, node_comes, span_comes, word_comes}
use Rattle.tb_rules.proofs.RowSteps.{first_fails}
use Rattle.tb_rules.specs.Ids.{is_in_place, is_next_id, is_node_after}
use Rattle.tb_rules.specs.Rows.{IsFirstFault}
use Rattle.std.proofs.Common.{IfSome, None, Option}
use Rattle.tb_words.specs.Keyed.{IsMisplaced, IsMisplacedRow, SaysOrder, next_id, numbered, wanted_at}
use Rattle.tb_words.specs.declared.findings.Finding.{Finding}
use Rattle.tb_words.specs.declared.places.Placed.{Placed}
use Rattle.tb_words.specs.RowFaults.{word_number}

-- the two numbers of an empty node
abbrev node_word : LineId → ℕ
node_word (Word n) = 0
node_word (Span a b) = 0
node_word (Empty i k) = i

abbrev node_number : LineId → ℕ
node_number (Word n) = 0
node_number (Span a b) = 0
node_number (Empty i k) = k

small : (n : ℕ) → n + 1 < 2 ^ 32 → numbered (n + 1) ≡ n + 1
small n few = omega arith

same_test : (a b : ℕ) → a ≡ b → eqb a b ≡ true
same_test a b is = grind (arith, nat_tests)

both_tests : (a b c d : ℕ) → a ≡ b → c ≡ d → (eqb a b && eqb c d) ≡ true
both_tests a b c d first second = rw (same_test a b first) (same_test c d second)

-- the next ID is in its place
pub next_is_in_place : (id : LineId) (words nodes : ℕ) (f : ℕ → ℕ) → words + 1 < 2 ^ 32 → nodes + 1 < 2 ^ 32 → f words ≡ nodes
    → id ≡ next_id words nodes id → is_next_id words f id ≡ true
next_is_in_place (Word n) words nodes f few small_nodes is next =
    same_test n (words + 1) (ap word_number next ∙ small words few)
next_is_in_place (Span a b) words nodes f few small_nodes is next = refl
next_is_in_place (Empty i k) words nodes f few small_nodes is next =
    both_tests i words k (f i + 1) (ap node_word next)
    (ap node_number next ∙ (small nodes small_nodes ∙ (ap (λ (n : ℕ). n + 1) (sym is) ∙ ap (λ (w : ℕ). f w + 1) (sym (ap node_word next)))))

-- an ID in its place is the next one
in_place_is_next : (id : LineId) (words nodes : ℕ) (f : ℕ → ℕ) → words + 1 < 2 ^ 32 → nodes + 1 < 2 ^ 32 → f words ≡ nodes
    → is_next_id words f id ≡ true → id ≡ next_id words nodes id
in_place_is_next (Word n) words nodes f few small_nodes is passes =
    ap (λ (m : ℕ). Word m) (eqb-true n (words + 1) passes ∙ sym (small words few))
in_place_is_next (Span a b) words nodes f few small_nodes is passes = refl
in_place_is_next (Empty i k) words nodes f few small_nodes is passes =
    let parts = and_parts (eqb i words) (eqb k (f i + 1)) passes in
    let first : i ≡ words = eqb-true i words parts.0 in
    let second : k ≡ numbered (nodes + 1) = eqb-true k (f i + 1) parts.1 ∙ (ap (λ (w : ℕ). f w + 1) first ∙ (ap (λ (n : ℕ). n + 1) is ∙ sym (small nodes small_nodes))) in
    ap (λ (w : ℕ). Empty w k) first ∙ ap (λ (m : ℕ). Empty words m) second

-- the first row that is not the next one
pub first_misplaced : (rows : List RowText) (at words nodes : ℕ) (row : RowText) → at < length rows → row ≡ get_or rows at row
    → words + 1 < 2 ^ 32 → nodes + 1 < 2 ^ 32 → HasCome rows at words nodes → (row.id ≡ next_id words nodes row.id → ⊥)
    → IsFirstFault is_in_place rows (at + 1) × (next_id words nodes row.id ≡ wanted_at rows at row)
first_misplaced rows at words nodes row within is few small_nodes come other =
    let f = λ (w : ℕ). count_by (is_node_after w) (take at rows) in
    let fails : is_next_id words f row.id ≡ false =
    false_from_ne_true (is_next_id words f row.id) (λ passes. other (in_place_is_next row.id words nodes f few small_nodes (sym come.nodes_are) passes)) in (
      first_fails is_in_place rows at row within is come.passed (ap (λ (w : ℕ). is_next_id w f row.id) (sym come.words_are) ∙ fails),
      ap (λ (w : ℕ). next_id w nodes row.id) come.words_are ∙ ap (λ (n : ℕ). next_id (count_by is_word (take at rows)) n row.id)
          (come.nodes_are ∙ ap f come.words_are),
    )

-- one row more is in its place
abbrev Counted : List RowText → (at words nodes : ℕ) → Type 0
Counted rows at words nodes =
    (length rows + 1 < 2 ^ 32 → HasCome rows at words nodes) × (words ≤ at) × (nodes ≤ at)

pub word_more : (rows : List RowText) (at words nodes word next_words next_nodes : ℕ) (row : RowText) → at < length rows
    → row ≡ get_or rows at row → Counted rows at words nodes → row.id ≡ next_id words nodes row.id → row.id ≡ Word word
    → next_words ≡ word → next_nodes ≡ 0 → Counted rows (at + 1) next_words next_nodes
word_more rows at words nodes word next_words next_nodes row within is counted next id word_is node_is =
    let number : word ≡ numbered (words + 1) = ap word_number (sym id ∙ (next ∙ ap (λ (i : LineId). next_id words nodes i) id)) in (
      λ few. let come = counted.0 few in
          let passes = next_is_in_place row.id words nodes (λ (w : ℕ). count_by (is_node_after w) (take at rows))
          (omega (arith, few, counted.1, within)) (omega (arith, few, counted.2, within)) (sym come.nodes_are) next in
          let words_are : words + 1 ≡ next_words = omega (arith, few, counted.1, within, number, word_is) in
          subst (λ (n : ℕ). HasCome rows (at + 1) n next_nodes) words_are (subst (λ (n : ℕ). HasCome rows (at + 1) (words + 1) n) (sym node_is)
          (word_comes rows at words nodes word row within is come passes id)),
      omega (arith, number, word_is, counted.1),
      omega (arith, node_is),
    )

pub span_more : (rows : List RowText) (at words nodes a b next_words next_nodes : ℕ) (row : RowText) → at < length rows
    → row ≡ get_or rows at row → Counted rows at words nodes → row.id ≡ next_id words nodes row.id → row.id ≡ Span a b
    → next_words ≡ words → next_nodes ≡ nodes → Counted rows (at + 1) next_words next_nodes
span_more rows at words nodes a b next_words next_nodes row within is counted next id word_is node_is = (
  λ few. let come = counted.0 few in
      let passes = next_is_in_place row.id words nodes (λ (w : ℕ). count_by (is_node_after w) (take at rows))
      (omega (arith, few, counted.1, within)) (omega (arith, few, counted.2, within)) (sym come.nodes_are) next in
      subst (λ (n : ℕ). HasCome rows (at + 1) n next_nodes) (sym word_is) (subst (λ (n : ℕ). HasCome rows (at + 1) words n) (sym node_is)
      (span_comes rows at words nodes a b row within is come passes id)),
  omega (arith, word_is, counted.1),
  omega (arith, node_is, counted.2),
)

pub node_more : (rows : List RowText) (at words nodes i k next_words next_nodes : ℕ) (row : RowText) → at < length rows
    → row ≡ get_or rows at row → Counted rows at words nodes → row.id ≡ next_id words nodes row.id → row.id ≡ Empty i k
    → next_words ≡ words → next_nodes ≡ k → Counted rows (at + 1) next_words next_nodes
node_more rows at words nodes i k next_words next_nodes row within is counted next id word_is node_is =
    let number : k ≡ numbered (nodes + 1) = ap node_number (sym id ∙ (next ∙ ap (λ (x : LineId). next_id words nodes x) id)) in (
      λ few. let come = counted.0 few in
          let passes = next_is_in_place row.id words nodes (λ (w : ℕ). count_by (is_node_after w) (take at rows))
          (omega (arith, few, counted.1, within)) (omega (arith, few, counted.2, within)) (sym come.nodes_are) next in
          let nodes_are : nodes + 1 ≡ next_nodes = omega (arith, few, counted.2, within, number, node_is) in
          subst (λ (n : ℕ). HasCome rows (at + 1) n next_nodes) (sym word_is) (subst (λ (n : ℕ). HasCome rows (at + 1) words n) nodes_are
          (node_comes rows at words nodes i k row within is come passes id)),
      omega (arith, word_is, counted.1),
      omega (arith, number, node_is, counted.2),
    )

-- the row at a place
pub row_here : (rows : List RowText) (at : ℕ) (row : RowText) → at < length rows → row ≡ get_or rows at row
    → slice_get rows at ≡ Some row
row_here rows at row within is = slice_get-get_or rows at row within ∙ ap (λ (r : RowText). Some r) (sym is)

pub order_told : (placed : Placed) (at : ℕ) (wanted : LineId) (told : Option Finding) → IsMisplaced placed.block.rows (at, wanted)
    → IfSome told (IsMisplacedRow placed at wanted) → IfSome told (SaysOrder placed)
order_told placed at wanted None first row = tt
order_told placed at wanted (Some found) first row = (at, wanted, first, row)
