-- Which tests hold of which words, from turn to turn.
use Rattle.std.proofs.Common.{◌≡◌, ◌<◌, ◌≤◌, ◌+◌, ◌-◌, ◌↔◌, ◌⊎◌, ℕ, zero, suc, List, [], ◌∷◌, ◌++◌, length, get_or, take, drop, map, filter, Some, option_map, if◌then◌else◌, true, false, inl, inr, ⊎_elim, sym, ap, ◌∙◌, refl, subst, arith, append-nil, length-append}
use Rattle.std.proofs.lemmas.Bool.{cases_lt}
use Rattle.std.proofs.lemmas.List.{length-take, length-map, take-append-drop}
use Rattle.std.proofs.lemmas.List.Elements.{filter_more, filter-append}
use Rattle.std.proofs.lemmas.List.Sums.{length-filter, count_by-le-length}
use Rattle.std.proofs.lemmas.Option.{slice_get-map, slice_get-get_or, slice_get_within}
use Rattle.std.specs.List.{slice_get}
use Rattle.tb_conllu.specs.Text.{RowText}
use Rattle.tb_conllu.specs.Words.{is_word}
use Rattle.tb_query.specs.declared.prepared.PreparedExpr.{PreparedExpr}
use Rattle.tb_query.specs.PreparedExprs.{asked}
use Rattle.tb_literal.specs.Literals.{PlainLit}
use Rattle.tb_syntax.specs.Tests.{Test}
use Rattle.tb_query.specs.Meaning.{holds, HoldsAtWord, HoldsOf}

module _ {A : Type 0} where
  pushed_from : (xs : List A) (y : A) (k : ℕ) (x : A) → slice_get (xs ++ y ∷ []) k ≡ Some x →
      (slice_get xs k ≡ Some x) ⊎ ((k ≡ length xs) × (y ≡ x))
  pushed_from [] y zero x h = inr (refl, cc)
  pushed_from [] y (suc k) x h = absurd (cc)
  pushed_from (z ∷ xs) y zero x h = inl h
  pushed_from (z ∷ xs) y (suc k) x h =
      ⊎_elim (λ there. inl there) (λ (at_end : (k ≡ length xs) × (y ≡ x)). inr (ap suc at_end.0, at_end.1)) (pushed_from xs y k x h)

  pushed_old : (xs : List A) (y : A) (k : ℕ) (x : A) → slice_get xs k ≡ Some x → slice_get (xs ++ y ∷ []) k ≡ Some x
  pushed_old [] y k x h = absurd (cc)
  pushed_old (z ∷ xs) y zero x h = h
  pushed_old (z ∷ xs) y (suc k) x h = pushed_old xs y k x h

  pushed_new : (xs : List A) (y : A) → slice_get (xs ++ y ∷ []) (length xs) ≡ Some y
  pushed_new [] y = refl
  pushed_new (z ∷ xs) y = pushed_new xs y

-- one more word
pub word_pushed : (t : Test PlainLit) (ws : List RowText) (r : RowText) (w : ℕ) →
    HoldsAtWord t (ws ++ r ∷ []) w ↔ (HoldsAtWord t ws w ⊎ ((w ≡ length ws + 1) × (holds t r ≡ true)))
word_pushed t ws r w = (there, back)
  where
    there : HoldsAtWord t (ws ++ r ∷ []) w → (HoldsAtWord t ws w ⊎ ((w ≡ length ws + 1) × (holds t r ≡ true)))
    there (x, least, at, held) =
        ⊎_elim (λ old. inl (x, least, old, held))
        (λ (new : (w - 1 ≡ length ws) × (r ≡ x)). inr (omega arith, ap (holds t) new.1 ∙ held))
        (pushed_from ws r (w - 1) x at)

    back : (HoldsAtWord t ws w ⊎ ((w ≡ length ws + 1) × (holds t r ≡ true))) → HoldsAtWord t (ws ++ r ∷ []) w
    back (inl (x, least, at, held)) = (x, least, pushed_old ws r (w - 1) x at, held)
    back (inr (e, held)) =
        let place : length ws ≡ w - 1 = omega arith in
        (r, omega arith, subst (λ k. slice_get (ws ++ r ∷ []) k ≡ Some r) place (pushed_new ws r), held)

-- the words of the first rows
abbrev pub words_before : List RowText → ℕ → List RowText
words_before rows i = filter is_word (take i rows)

module _ (rows : List RowText) (i : ℕ) (r : RowText) (lt : i < length rows) (at : r ≡ get_or rows i r) where
  more : filter is_word (take (i + 1) rows) ≡ words_before rows i ++ (if is_word r then r ∷ [] else [])
  more = filter_more is_word rows i r lt ∙ ap (λ x. words_before rows i ++ (if is_word x then x ∷ [] else [])) (sym at)

  pub next_word : is_word r ≡ true → words_before rows (i + 1) ≡ words_before rows i ++ r ∷ []
  next_word h = more ∙ ap (λ b. words_before rows i ++ (if b then r ∷ [] else [])) h

  pub no_word : is_word r ≡ false → words_before rows (i + 1) ≡ words_before rows i
  no_word h = more ∙ ap (λ b. words_before rows i ++ (if b then r ∷ [] else [])) h ∙ append-nil _

pub few_words : (rows : List RowText) (i : ℕ) → length (words_before rows i) ≤ length (filter is_word rows)
few_words rows i =
    omega (arith, length-append (words_before rows i) (filter is_word (drop i rows)), ap length (sym (filter-append is_word (take i rows) (drop i rows)) ∙ ap (filter is_word) (take-append-drop i rows)))

-- there are no more words than rows
pub words_of_rows : (rows : List RowText) (i : ℕ) → length (words_before rows i) ≤ i
words_of_rows rows i =
    omega (arith, length-filter is_word (take i rows), count_by-le-length is_word (take i rows), length-take i rows)

-- an expression is asked of one more word
pub row_step : (u t : Test PlainLit) (vs ws : List RowText) (r : RowText) (w word : ℕ) (E F O N : Type 0) → u ≡ t → vs ≡ ws ++ r ∷ [] → word ≡ length ws →
    (N ↔ (O ⊎ (E × (w ≡ word + 1) × (holds u r ≡ true)))) → (O ↔ (F ⊎ (E × HoldsAtWord t ws w))) → N ↔ (F ⊎ (E × HoldsAtWord t vs w))
row_step u t vs ws r w word E F O N same longer count step before =
    subst (λ xs. N ↔ (F ⊎ (E × HoldsAtWord t xs w))) (sym longer) (there, back)
  where
    there : N → (F ⊎ (E × HoldsAtWord t (ws ++ r ∷ []) w))
    there n = ⊎_elim
        (λ o. ⊎_elim (λ f. inl f) (λ (h : E × HoldsAtWord t ws w). inr (h.0, (word_pushed t ws r w).1 (inl h.1))) (before.0 o))
        (λ (h : E × (w ≡ word + 1) × (holds u r ≡ true)).
        inr (h.0, (word_pushed t ws r w).1 (inr (h.1 ∙ ap (λ n. n + 1) count, ap (λ v. holds v r) (sym same) ∙ h.2))))
        (step.0 n)

    back : (F ⊎ (E × HoldsAtWord t (ws ++ r ∷ []) w)) → N
    back (inl f) = step.1 (inl (before.1 (inl f)))
    back (inr (e, h)) = ⊎_elim
        (λ old. step.1 (inl (before.1 (inr (e, old)))))
        (λ (new : (w ≡ length ws + 1) × (holds t r ≡ true)).
        step.1 (inr (e, new.0 ∙ ap (λ n. n + 1) (sym count), ap (λ v. holds v r) same ∙ new.1)))
        ((word_pushed t ws r w).0 h)

pub test_there : (xs : List PreparedExpr) (ts : List (Test PlainLit)) (i : ℕ) (d : PreparedExpr) → map asked xs ≡ ts → i < length xs → slice_get ts i ≡ Some (asked (get_or xs i d))
test_there xs ts i d same lt =
    ap (λ us. slice_get us i) (sym same) ∙ slice_get-map asked xs i ∙ ap (option_map asked) (slice_get-get_or xs i d lt)

-- one more expression is asked of each word
pub table_step : (ts : List (Test PlainLit)) (ws : List RowText) (e w i : ℕ) (t : Test PlainLit) (O N : Type 0) → slice_get ts i ≡ Some t →
    (N ↔ (O ⊎ ((e ≡ i) × HoldsAtWord t ws w))) → (O ↔ ((e < i) × HoldsOf ts ws e w)) → N ↔ ((e < i + 1) × HoldsOf ts ws e w)
table_step ts ws e w i t O N there_is step before = (there, back)
  where
    there : N → (e < i + 1) × HoldsOf ts ws e w
    there n = ⊎_elim
        (λ o. let h = before.0 o in (omega (arith, h.0), h.1))
        (λ (h : (e ≡ i) × HoldsAtWord t ws w).
        (omega (arith, h.0), (t, h.1.0, ap (slice_get ts) h.0 ∙ there_is, h.1.1, h.1.2, h.1.3)))
        (step.0 n)

    back : (e < i + 1) × HoldsOf ts ws e w → N
    back (lt, (u, r, at, least, word, held)) = ⊎_elim
        (λ sooner. step.1 (inl (before.1 (sooner, (u, r, at, least, word, held)))))
        (λ later.
        let same : e ≡ i = omega arith in
        let one : u ≡ t = cc (ap (slice_get ts) same) in
        step.1 (inr (same, (r, least, word, ap (λ v. holds v r) (sym one) ∙ held))))
        (cases_lt e i)

pub table_done : (xs : List PreparedExpr) (ws : List RowText) (e w i : ℕ) (O : Type 0) → length xs ≤ i →
    (O ↔ ((e < i) × HoldsOf (map asked xs) ws e w)) → O ↔ HoldsOf (map asked xs) ws e w
table_done xs ws e w i O all h = (
  λ o. (h.0 o).1,
  λ (t, r, there, least, word, held).
      h.1 (omega (arith, slice_get_within (map asked xs) e t there, length-map xs asked), (t, r, there, least, word, held)),
)
