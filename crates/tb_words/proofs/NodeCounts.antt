-- How many empty nodes come after each word, in a walk over rows that are numbered in order.
use Rattle.std.proofs.Common.{◌≡◌, ℕ, ◌+◌, ◌<◌, ◌≤◌, List, [], ◌∷◌, ◌++◌, length, take, get_or, true, eqb, inl, inr, refl, sym, ◌∙◌, ap, subst, arith}
use Rattle.std.specs.List.{count_by}
use Rattle.std.proofs.lemmas.Bool.{and_parts, cases_lt, eqb-true, ne_eqb}
use Rattle.std.proofs.lemmas.List.{get_or_append_left, get_or_past, length_push, take_all}
use Rattle.std.proofs.Math.Seq.{get_or-append_seam}
use Rattle.tb_conllu.specs.declared.id.LineId.TheVariants.{Word, Span, Empty}
use Rattle.tb_conllu.specs.Text.{RowText}
use Rattle.tb_conllu.specs.Words.{is_word}
use Rattle.tb_rules.proofs.Counts.{HasCome, node_comes, not_counted, span_comes, word_comes}
use Rattle.tb_rules.specs.Ids.{is_in_place, is_next_id, is_node_after, is_node_id_after}
use Rattle.tb_rules.specs.Rows.{EachRowPasses}
use Rattle.tb_words.specs.PairFaults.{CountNodes}

-- of so many rows: the nodes after each word but the last, and after the last
pub record HasNodes (rows : List RowText) (at : ℕ) (counts : List ℕ) (count : ℕ) : Type 0 where
  pub come : HasCome rows at (length counts) count
  pub after : (i : ℕ) → i < length counts → get_or counts i 0 ≡ count_by (is_node_after i) (take at rows)

next_in : (rows : List RowText) (at words count : ℕ) (row : RowText) → at < length rows → row ≡ get_or rows at row
    → EachRowPasses is_in_place rows → HasCome rows at words count
    → is_next_id words (λ w. count_by (is_node_after w) (take at rows)) row.id ≡ true
next_in rows at words count row within is passes come =
    let here : is_in_place (take at rows) row ≡ true = ap (is_in_place (take at rows)) is ∙ passes at row within in
    ap (λ (w : ℕ). is_next_id w (λ v. count_by (is_node_after v) (take at rows)) row.id) come.words_are ∙ here

pub none_noted : (rows : List RowText) → HasNodes rows 0 [] 0
none_noted rows = record {
  come = record {
    passed = λ k d less. absurd (omega arith);
    words_are = refl;
    nodes_are = refl;
    none_later = λ w more. refl;
  };
  after = λ i less. absurd (omega arith);
}

-- the counts, and that of the last word
with_last : (rows : List RowText) (at : ℕ) (counts : List ℕ) (count : ℕ) (i : ℕ) → HasNodes rows at counts count
    → i < length counts + 1 → get_or (counts ++ count ∷ []) i 0 ≡ count_by (is_node_after i) (take at rows)
with_last rows at counts count i h less = elim (cases_lt i (length counts)) [
  | inl before ↦ get_or_append_left counts (count ∷ []) 0 i before ∙ h.after i before
  | inr last ↦ (
      let e : length counts ≡ i = omega (arith, less, last) in
      ap (λ (k : ℕ). get_or (counts ++ count ∷ []) k 0) (sym e) ∙ (get_or-append_seam counts count [] 0
      ∙ (h.come.nodes_are ∙ ap (λ (k : ℕ). count_by (is_node_after k) (take at rows)) e))
      )
]

pub word_noted : (rows : List RowText) (at n : ℕ) (counts next : List ℕ) (count none_yet : ℕ) (row : RowText) → at < length rows
    → row ≡ get_or rows at row → EachRowPasses is_in_place rows → HasNodes rows at counts count → row.id ≡ Word n
    → next ≡ counts ++ count ∷ [] → none_yet ≡ 0 → HasNodes rows (at + 1) next none_yet
word_noted rows at n counts next count none_yet row within is passes h id next_is none =
    let come = word_comes rows at (length counts) count n row within is h.come (next_in rows at (length counts) count row within is passes h.come) id in
    let long : length next ≡ length counts + 1 = ap length next_is ∙ length_push counts count in
    record {
      come = subst (λ (k : ℕ). HasCome rows (at + 1) (length next) k) (sym none) (subst (λ (k : ℕ). HasCome rows (at + 1) k 0) (sym long) come);
      after = λ i less. ap (λ (xs : List ℕ). get_or xs i 0) next_is ∙ (with_last rows at counts count i h (omega (arith, less, long))
          ∙ sym (not_counted (is_node_after i) rows at row within is (ap (is_node_id_after i) id)));
    }

pub span_noted : (rows : List RowText) (at a b : ℕ) (counts next : List ℕ) (count same : ℕ) (row : RowText) → at < length rows
    → row ≡ get_or rows at row → EachRowPasses is_in_place rows → HasNodes rows at counts count → row.id ≡ Span a b
    → next ≡ counts → same ≡ count → HasNodes rows (at + 1) next same
span_noted rows at a b counts next count same row within is passes h id next_is count_is =
    let come = span_comes rows at (length counts) count a b row within is h.come (next_in rows at (length counts) count row within is passes h.come) id in
    subst (λ (xs : List ℕ). HasNodes rows (at + 1) xs same) (sym next_is) (subst (λ (k : ℕ). HasNodes rows (at + 1) counts k) (sym count_is)
    (record {
      come = come;
      after = λ i less. h.after i less ∙ sym (not_counted (is_node_after i) rows at row within is (ap (is_node_id_after i) id));
    }))

pub node_noted : (rows : List RowText) (at w k : ℕ) (counts next : List ℕ) (count more : ℕ) (row : RowText) → at < length rows
    → row ≡ get_or rows at row → EachRowPasses is_in_place rows → HasNodes rows at counts count → row.id ≡ Empty w k
    → next ≡ counts → more ≡ count + 1 → HasNodes rows (at + 1) next more
node_noted rows at w k counts next count more row within is passes h id next_is count_is =
    let in_place = next_in rows at (length counts) count row within is passes h.come in
    let come = node_comes rows at (length counts) count w k row within is h.come in_place id in
    let word : w ≡ length counts = eqb-true w (length counts) (and_parts (eqb w (length counts)) _ (ap (is_next_id (length counts) (λ v. count_by (is_node_after v) (take at rows))) (sym id) ∙ in_place)).0 in
    subst (λ (xs : List ℕ). HasNodes rows (at + 1) xs more) (sym next_is) (subst (λ (m : ℕ). HasNodes rows (at + 1) counts m) (sym count_is)
    (record {
      come = come;
      after = λ i less. h.after i less ∙ sym (not_counted (is_node_after i) rows at row within is
          (ap (is_node_id_after i) id ∙ ne_eqb w i (λ e. omega (arith, e, word, less))));
    }))

pub all_noted : (rows : List RowText) (at : ℕ) (counts all : List ℕ) (count : ℕ) → length rows ≤ at → HasNodes rows at counts count
    → all ≡ counts ++ count ∷ [] → CountNodes rows all
all_noted rows at counts all count end h all_is =
    let whole : take at rows ≡ rows = take_all at rows end in
    let long : length all ≡ length counts + 1 = ap length all_is ∙ length_push counts count in
    record {
      words = long ∙ ap (λ (n : ℕ). n + 1) (h.come.words_are ∙ ap (λ (rs : List RowText). count_by is_word rs) whole);
      after = λ i. elim (cases_lt i (length counts + 1)) [
        | inl less ↦ ap (λ (xs : List ℕ). get_or xs i 0) all_is ∙ (with_last rows at counts count i h less
            ∙ ap (λ (rs : List RowText). count_by (is_node_after i) rs) whole)
        | inr past ↦ get_or_past all i 0 (omega (arith, past, long)) ∙ (sym (h.come.none_later i (omega (arith, past)))
            ∙ ap (λ (rs : List RowText). count_by (is_node_after i) rs) whole)
      ];
    }
