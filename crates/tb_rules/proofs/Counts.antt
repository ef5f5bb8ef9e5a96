-- one more row, counted
use Rattle.std.proofs.Common.{◌≡◌, ℕ, ◌+◌, ◌<◌, max, List, length, take, get_or, Bool, true, false, sym, ◌∙◌, ap, arith, eqb}
use Rattle.std.specs.List.{count_by}
use Rattle.std.proofs.lemmas.Bool.{eqb-true, ne_eqb, and_parts}
use Rattle.std.proofs.lemmas.List.Sums.{count_by_more_yes, count_by_more_no, fold_more}
use Rattle.tb_conllu.specs.declared.id.LineId.TheVariants.{Word, Span, Empty}
use Rattle.tb_conllu.specs.Text.{RowText}
use Rattle.tb_conllu.specs.Words.{is_word, is_word_id}
use Rattle.tb_rules.specs.Rows.{FirstRowsPass, IsFirstFault}
use Rattle.tb_rules.specs.Ids.{is_node_after, is_node_id_after, is_next_id, is_in_place}
use Rattle.tb_rules.specs.Spans.{span_test}
use Rattle.tb_rules.specs.Leading.{greatest_end, end_of_id, is_fine_past}
use Rattle.tb_rules.proofs.RowSteps.{one_more_passes, first_fails}
use Rattle.tb_rules.proofs.Ends.{fine_past}

pub counted : {X : Type 0} (p : X → Bool) (xs : List X) (i : ℕ) (x : X) → i < length xs → x ≡ get_or xs i x → p x ≡ true → count_by p (take (i + 1) xs) ≡ count_by p (take i xs) + 1
counted p xs i x l e passes = count_by_more_yes p xs i x l (ap p (sym e) ∙ passes)

pub not_counted : {X : Type 0} (p : X → Bool) (xs : List X) (i : ℕ) (x : X) → i < length xs → x ≡ get_or xs i x → p x ≡ false → count_by p (take (i + 1) xs) ≡ count_by p (take i xs)
not_counted p xs i x l e fails = count_by_more_no p xs i x l (ap p (sym e) ∙ fails)

pub greatest_end-more : (rs : List RowText) (i : ℕ) (r : RowText) → i < length rs → r ≡ get_or rs i r → greatest_end (take (i + 1) rs) ≡ max (greatest_end (take i rs)) (end_of_id r.id)
greatest_end-more rs i r l e =
    fold_more (λ (a : ℕ) (x : RowText). max a (end_of_id x.id)) 0 rs i r l ∙ ap (λ (x : RowText). max (greatest_end (take i rs)) (end_of_id x.id)) (sym e)

-- what has come of the rows: words, and empty nodes after the last word
pub record HasCome (rs : List RowText) (i words nodes : ℕ) : Type 0 where
  pub passed : FirstRowsPass is_in_place rs i
  pub words_are : words ≡ count_by is_word (take i rs)
  pub nodes_are : nodes ≡ count_by (is_node_after words) (take i rs)
  pub none_later : (w : ℕ) → words < w → count_by (is_node_after w) (take i rs) ≡ 0

-- the row stands in its place
stands : (rs : List RowText) (i words nodes : ℕ) (r : RowText) → HasCome rs i words nodes → is_next_id words (λ w. count_by (is_node_after w) (take i rs)) r.id ≡ true → is_in_place (take i rs) r ≡ true
stands rs i words nodes r h next = ap (λ w. is_next_id w (λ v. count_by (is_node_after v) (take i rs)) r.id) (sym h.words_are) ∙ next

pub word_comes : (rs : List RowText) (i words nodes n : ℕ) (r : RowText) → i < length rs → r ≡ get_or rs i r → HasCome rs i words nodes → is_next_id words (λ w. count_by (is_node_after w) (take i rs)) r.id ≡ true → r.id ≡ Word n → HasCome rs (i + 1) (words + 1) 0
word_comes rs i words nodes n r l e h next id = record {
  passed = one_more_passes is_in_place rs i r l e h.passed (stands rs i words nodes r h next);
  words_are = ap (λ k. k + 1) h.words_are ∙ sym (counted is_word rs i r l e (ap is_word_id id));
  nodes_are = sym (not_counted (is_node_after (words + 1)) rs i r l e (ap (is_node_id_after (words + 1)) id) ∙ h.none_later (words + 1) (omega arith));
  none_later = λ w more. not_counted (is_node_after w) rs i r l e (ap (is_node_id_after w) id) ∙ h.none_later w (omega arith);
}

pub span_comes : (rs : List RowText) (i words nodes a b : ℕ) (r : RowText) → i < length rs → r ≡ get_or rs i r → HasCome rs i words nodes → is_next_id words (λ w. count_by (is_node_after w) (take i rs)) r.id ≡ true → r.id ≡ Span a b → HasCome rs (i + 1) words nodes
span_comes rs i words nodes a b r l e h next id = record {
  passed = one_more_passes is_in_place rs i r l e h.passed (stands rs i words nodes r h next);
  words_are = h.words_are ∙ sym (not_counted is_word rs i r l e (ap is_word_id id));
  nodes_are = h.nodes_are ∙ sym (not_counted (is_node_after words) rs i r l e (ap (is_node_id_after words) id));
  none_later = λ w more. not_counted (is_node_after w) rs i r l e (ap (is_node_id_after w) id) ∙ h.none_later w more;
}

pub node_comes : (rs : List RowText) (i words nodes w k : ℕ) (r : RowText) → i < length rs → r ≡ get_or rs i r → HasCome rs i words nodes → is_next_id words (λ v. count_by (is_node_after v) (take i rs)) r.id ≡ true → r.id ≡ Empty w k → HasCome rs (i + 1) words (nodes + 1)
node_comes rs i words nodes w k r l e h next id =
    let place : eqb w words ≡ true = (and_parts (eqb w words) _ (ap (is_next_id words (λ v. count_by (is_node_after v) (take i rs))) (sym id) ∙ next)).0 in
    let here : w ≡ words = eqb-true w words place in
    record {
      passed = one_more_passes is_in_place rs i r l e h.passed (stands rs i words nodes r h next);
      words_are = h.words_are ∙ sym (not_counted is_word rs i r l e (ap is_word_id id));
      nodes_are = ap (λ m. m + 1) h.nodes_are ∙ sym (counted (is_node_after words) rs i r l e (ap (is_node_id_after words) id ∙ place));
      none_later = λ v more.
          let apart : w ≡ v → ⊥ = λ same. omega arith in
          not_counted (is_node_after v) rs i r l e (ap (is_node_id_after v) id ∙ ne_eqb w v apart) ∙ h.none_later v more;
    }

-- what has come of the rows: words, and ranges up to an end
pub record HasPassed (n : ℕ) (rs : List RowText) (i words end : ℕ) : Type 0 where
  pub passed : FirstRowsPass (span_test n) rs i
  pub words_are : words ≡ count_by is_word (take i rs)
  pub end_is : end ≡ greatest_end (take i rs)

-- what the counts tell of a row
row_is : (n : ℕ) (rs : List RowText) (i words end : ℕ) (r : RowText) (b : Bool) → HasPassed n rs i words end → is_fine_past n words end r.id r ≡ b → span_test n (take i rs) r ≡ b
row_is n rs i words end r b h fine =
    sym (fine_past n (take i rs) r.id r) ∙ (ap (λ w. is_fine_past n w (greatest_end (take i rs)) r.id r) (sym h.words_are) ∙ (ap (λ x. is_fine_past n words x r.id r) (sym h.end_is) ∙ fine))

pub row_fails : (n : ℕ) (rs : List RowText) (i words end : ℕ) (r : RowText) → i < length rs → r ≡ get_or rs i r → HasPassed n rs i words end → is_fine_past n words end r.id r ≡ false → IsFirstFault (span_test n) rs (i + 1)
row_fails n rs i words end r l e h fails = first_fails (span_test n) rs i r l e h.passed (row_is n rs i words end r false h fails)

pub row_passes : (n : ℕ) (rs : List RowText) (i words end words' end' : ℕ) (r : RowText) → i < length rs → r ≡ get_or rs i r → HasPassed n rs i words end → is_fine_past n words end r.id r ≡ true → words' ≡ count_by is_word (take (i + 1) rs) → end' ≡ max end (end_of_id r.id) → HasPassed n rs (i + 1) words' end'
row_passes n rs i words end words' end' r l e h fine count last = record {
  passed = one_more_passes (span_test n) rs i r l e h.passed (row_is n rs i words end r true h fine);
  words_are = count;
  end_is = last ∙ (ap (λ x. max x (end_of_id r.id)) h.end_is ∙ sym (greatest_end-more rs i r l e));
}
