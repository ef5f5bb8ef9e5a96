-- An item of the features stands in the row.
use Rattle.std.proofs.Common.{◌≡◌, ◌≤◌, ◌+◌, ◌⊎◌, ℕ, zero, suc, List, [], ◌∷◌, ◌++◌, Bool, true, false, ◌||◌, codes, length, get_or, refl, sym, ap, ◌∙◌, subst, inl, inr, ⊎_elim, append-nil, arith, IsUtf8, All, if◌then◌else◌, bytes_eq, IsCharBoundary}
use Rattle.std.proofs.lemmas.Bool.{cases_Bool, cases_lt, false≢true, eqb-true}
use Rattle.std.proofs.lemmas.List.{length-drop}
use Rattle.std.proofs.lemmas.List.Splits.{slice_split_none, slice_split_first}
use Rattle.std.proofs.lemmas.List.Sums.{split_at_first, fails_before_first, passes_at_first}
use Rattle.std.proofs.lemmas.Str.{IsUtf8-take, IsUtf8-drop, IsCharBoundary-after_ascii}
use Rattle.std.specs.List.{list_any, position_or_len, before_first, after_first}
use Rattle.tb_conllu.specs.Shape.{IsRowShaped}
use Rattle.tb_conllu.specs.Text.{RowText, row_line}
use Rattle.tb_syntax.specs.declared.lexeme.Attr.TheVariants.{Feats}
use Rattle.tb_syntax.specs.Tests.{feature}
use Rattle.tb_literal.specs.Items.{is_bar, pieces, meets_item}
use Rattle.tb_literal.specs.Literals.{PlainLit, meets}
use Rattle.tb_query.specs.Meaning.{holds}
use Rattle.tb_prefilter.specs.Needed.{IsSubstring, IsPlainText, Requires}
use Rattle.tb_prefilter.proofs.Substrings.{in_after, in_before}
use Rattle.tb_prefilter.proofs.Fields.{between, column_there}

one_or : (b c : Bool) → (b || c) ≡ true → (b ≡ true) ⊎ (c ≡ true)
one_or true c h = inl refl
one_or false c h = inr h

module _ (l : PlainLit) (plain : IsPlainText l) where
  the_same : (v : List ℕ) → IsUtf8 v → meets l v ≡ true → IsSubstring l.text v
  the_same v u h = record { before = []; after = []; cut = plain.alone v u h ∙ sym (append-nil l.text) }

  first_or_later : (x : List ℕ) (xs : List (List ℕ)) → list_any (meets l) (x ∷ xs) ≡ true → (meets l x ≡ true) ⊎ (list_any (meets l) xs ≡ true)
  first_or_later x xs h = one_or (meets l x) (list_any (meets l) xs) h

  whole_piece : (xs : List ℕ) → length xs ≤ position_or_len is_bar xs → IsUtf8 xs → list_any (meets l) (pieces xs) ≡ true → IsSubstring l.text xs
  whole_piece xs past u h =
      let none : All (λ x. is_bar x ≡ false) xs = λ k d lt. fails_before_first is_bar xs k d (omega (arith, lt, past)) in
      ⊎_elim (λ hit. the_same xs u hit) (λ more. absurd (false≢true more))
      (first_or_later xs [] (ap (list_any (meets l)) (sym (slice_split_none is_bar xs none)) ∙ h))

  pub piece_is_in : (fuel : ℕ) (xs : List ℕ) → length xs ≤ fuel → IsUtf8 xs → list_any (meets l) (pieces xs) ≡ true → IsSubstring l.text xs
  piece_is_in zero xs le u h = whole_piece xs (omega (arith, le)) u h
  piece_is_in (suc fuel) xs le u h =
      let at = position_or_len is_bar xs in
      elim (cases_lt at (length xs)) [
        | inl lt ↦
            let bar = eqb-true (get_or xs at 0) 0x7C (passes_at_first is_bar xs 0 lt) in
            let here : IsCharBoundary xs at = (omega arith, λ _ high. absurd (omega (arith, bar, high))) in
            let first = IsUtf8-take xs at u here in
            let rest = IsUtf8-drop xs (at + 1) u (IsCharBoundary-after_ascii xs at u lt (omega (arith, bar))) in
            let split = split_at_first is_bar xs 0 lt in
            let parts = first_or_later (before_first is_bar xs) (pieces (after_first is_bar xs)) (ap (list_any (meets l)) (sym (slice_split_first is_bar xs 0 lt)) ∙ h) in
            subst (IsSubstring l.text) (sym split)
            (⊎_elim
            (λ hit. in_before l.text (before_first is_bar xs) (get_or xs at 0 ∷ after_first is_bar xs) (the_same (before_first is_bar xs) first hit))
            (λ more. in_after l.text (before_first is_bar xs) (get_or xs at 0 ∷ after_first is_bar xs)
            (in_after l.text (get_or xs at 0 ∷ []) (after_first is_bar xs)
            (piece_is_in fuel (after_first is_bar xs) (omega (arith, length-drop (at + 1) xs, lt, le)) rest more)))
            parts)
        | inr past ↦ whole_piece xs past u h
      ]

  in_feats : (feats : List ℕ) → IsUtf8 feats → meets_item l feats ≡ true → IsSubstring l.text feats
  in_feats feats u h =
      let listed = λ (b : Bool). list_any (meets l) (if b then [] else pieces feats) in
      elim (cases_Bool (bytes_eq feats (codes "_"))) [
        | inl none ↦ absurd (false≢true (sym (ap listed none) ∙ h))
        | inr some ↦ piece_is_in (length feats) feats (omega arith) u (sym (ap listed some) ∙ h)
      ]

  pub item_in_line : (r : RowText) → IsRowShaped r → holds (feature l) r ≡ true → IsSubstring l.text (row_line r)
  item_in_line r shaped h =
      let column = column_there Feats r in
      let feats : IsSubstring l.text r.feats = in_feats r.feats shaped.feats.field.text.utf8 h in
      let wide : IsSubstring l.text (between r.feats) = in_after l.text (9 ∷ []) (r.feats ++ 9 ∷ []) (in_before l.text r.feats (9 ∷ []) feats) in
      subst (IsSubstring l.text) (sym column.cut) (in_before l.text (column.before ++ between r.feats) column.after (in_after l.text column.before (between r.feats) wide))

pub item_required : (l : PlainLit) → IsPlainText l → Requires (feature l) l.text
item_required l plain = record { there = item_in_line l plain }
