-- Bytes that stand in a part of a text stand in the text.
use Rattle.std.proofs.Common.{◌≡◌, ℕ, zero, suc, List, [], ◌∷◌, ◌++◌, map, filter, Some, Bool, sym, ap, ◌∙◌, subst, inl, inr, slice_get, append-nil, cond, option_to_list}
use Rattle.std.proofs.lemmas.List.{append_assoc}
use Rattle.std.proofs.lemmas.Bool.{cases_Bool}
use Rattle.std.specs.List.{AllByRecursion}
use Rattle.tb_conllu.specs.Shape.{IsRowShaped}
use Rattle.tb_conllu.specs.Text.{RowText, BlockText, ended, block_lines, row_line, text_of}
use Rattle.tb_prefilter.specs.Needed.{IsSubstring}

module _ (n : List ℕ) where
  pub in_after : (xs ys : List ℕ) → IsSubstring n ys → IsSubstring n (xs ++ ys)
  in_after xs ys s = record { before = xs ++ s.before; after = s.after; cut = ap (λ zs. xs ++ zs) s.cut ∙ sym (append_assoc xs (s.before ++ n) s.after) ∙ ap (λ zs. zs ++ s.after) (sym (append_assoc xs s.before n)) }

  pub in_before : (xs ys : List ℕ) → IsSubstring n xs → IsSubstring n (xs ++ ys)
  in_before xs ys s = record {
    before = s.before;
    after = s.after ++ ys;
    cut = ap (λ zs. zs ++ ys) s.cut ∙ append_assoc (s.before ++ n) s.after ys;
  }

  -- a line of some stands in them
  pub is_in_line : (ls rest : List (List ℕ)) (k : ℕ) (l : List ℕ) → slice_get ls k ≡ Some l → IsSubstring n l → IsSubstring n (ended (ls ++ rest))
  is_in_line [] rest k l h s = absurd (cc)
  is_in_line (x ∷ ls) rest zero l h s =
      in_before (x ++ 10 ∷ []) (ended (ls ++ rest)) (in_before x (10 ∷ []) (subst (IsSubstring n) (cc) s))
  is_in_line (x ∷ ls) rest (suc k) l h s = in_after (x ++ 10 ∷ []) (ended (ls ++ rest)) (is_in_line ls rest k l h s)

  pub in_past : (cs rest : List (List ℕ)) → IsSubstring n (ended rest) → IsSubstring n (ended (cs ++ rest))
  in_past [] rest s = s
  in_past (c ∷ cs) rest s = in_after (c ++ 10 ∷ []) (ended (cs ++ rest)) (in_past cs rest s)

-- a kept element is one of the list
later : {X : Type 0} (y : X) (ys : List X) (x : X) → (m : ℕ) × (slice_get ys m ≡ Some x) → (m : ℕ) × (slice_get (y ∷ ys) m ≡ Some x)
later y ys x (m, at) = (suc m, at)

kept : {X : Type 0} (y : X) (ys zs : List X) (x : X) → ((j : ℕ) → slice_get zs j ≡ Some x → (m : ℕ) × (slice_get ys m ≡ Some x)) →
    (k : ℕ) → slice_get (y ∷ zs) k ≡ Some x → (m : ℕ) × (slice_get (y ∷ ys) m ≡ Some x)
kept y ys zs x rest zero e = (0, e)
kept y ys zs x rest (suc j) e = later y ys x (rest j e)

pub one_of : {X : Type 0} (p : X → Bool) (xs : List X) (x : X) (k : ℕ) → slice_get (filter p xs) k ≡ Some x → (m : ℕ) × (slice_get xs m ≡ Some x)
one_of p [] x k h = absurd (cc)
one_of p (y ∷ ys) x k h =
    elim (cases_Bool (p y)) [
      | inl hit ↦ kept y ys (filter p ys) x (one_of p ys x) k (sym (ap (λ b. slice_get (cond b (y ∷ filter p ys) (filter p ys)) k) hit) ∙ h)
      | inr miss ↦ later y ys x (one_of p ys x k (sym (ap (λ b. slice_get (cond b (y ∷ filter p ys) (filter p ys)) k) miss) ∙ h))
    ]

pub row_shaped : (rs : List RowText) (m : ℕ) (r : RowText) → AllByRecursion IsRowShaped rs → slice_get rs m ≡ Some r → IsRowShaped r
row_shaped [] m r all h = absurd (cc)
row_shaped (x ∷ rs) zero r all h = subst IsRowShaped (cc) all.0
row_shaped (x ∷ rs) (suc m) r all h = row_shaped rs m r all.1 h

pub row_line_there : (rs : List RowText) (m : ℕ) (r : RowText) → slice_get rs m ≡ Some r → slice_get (map row_line rs) m ≡ Some (row_line r)
row_line_there [] m r h = absurd (cc)
row_line_there (x ∷ rs) zero r h = ap (λ o. slice_get (map row_line (option_to_list o)) 0) h
row_line_there (x ∷ rs) (suc m) r h = row_line_there rs m r h

-- what stands in the line of a row stands in the sentence's text
pub is_in_text : (n : List ℕ) (b : BlockText) (m : ℕ) (r : RowText) → slice_get b.rows m ≡ Some r → IsSubstring n (row_line r) → IsSubstring n (text_of (b ∷ []))
is_in_text n b m r h s =
    let rows = is_in_line n (map row_line b.rows) ([] ∷ []) m (row_line r) (row_line_there b.rows m r h) s in
    subst (λ ls. IsSubstring n (ended ls)) (sym (append-nil (block_lines b))) (in_past n b.comments (map row_line b.rows ++ [] ∷ []) rows)
