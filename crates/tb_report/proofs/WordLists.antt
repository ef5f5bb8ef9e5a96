-- Words among rows, and their texts joined by spaces.
use Rattle.std.proofs.Common.{◌≡◌, ℕ, suc, ◌+◌, ◌-◌, ◌<◌, ◌≤◌, ◌==◌, true, false, cond, List, [], ◌∷◌, ◌++◌, length, map, filter, take, drop, get_or, refl, sym, ap, ◌∙◌, subst, arith, append_assoc, append-nil, take_all, Option}
use Rattle.std.specs.Io.KnownBytes.{Appends}
use Rattle.std.proofs.KnownBytes.{Appends-trans}
use Rattle.std.proofs.Math.Seq.{take-append_seam}
use Rattle.std.proofs.lemmas.Bool.Decides.{nat_tests}
use Rattle.std.proofs.lemmas.List.{take-append-drop, length-append, length-map, map-append}
use Rattle.std.proofs.lemmas.List.Elements.{filter-append, filter_more}
use Rattle.tb_conllu.specs.Text.{RowText}
use Rattle.tb_conllu.specs.Words.{is_word}
use Rattle.tb_report.specs.Keywords.{joined}

-- ---- the words so far

abbrev pub words_to : ℕ → List RowText → List RowText
words_to i rows = filter is_word (take i rows)

pub next_word : (rows : List RowText) (i : ℕ) (r : RowText) → i < length rows → r ≡ get_or rows i r → is_word r ≡ true → words_to (i + 1) rows ≡ words_to i rows ++ r ∷ []
next_word rows i r inside is word = filter_more is_word rows i r inside ∙ λ j. words_to i rows ++ cond ((ap is_word (sym is) ∙ word) j) (sym is j ∷ []) []

pub no_word : (rows : List RowText) (i : ℕ) (r : RowText) → i < length rows → r ≡ get_or rows i r → is_word r ≡ false → words_to (i + 1) rows ≡ words_to i rows
no_word rows i r inside is none = filter_more is_word rows i r inside ∙ (λ j. words_to i rows ++ cond ((ap is_word (sym is) ∙ none) j) (sym is j ∷ []) []) ∙ append-nil (words_to i rows)

-- so many words are so far: they are the first ones
pub first_words : (f : RowText → List ℕ) (rows : List RowText) (i n : ℕ) → n ≡ length (words_to i rows) → map f (words_to i rows) ≡ take n (map f (filter is_word rows))
first_words f rows i n count =
    let parts : filter is_word rows ≡ words_to i rows ++ filter is_word (drop i rows) = ap (filter is_word) (sym (take-append-drop i rows)) ∙ filter-append is_word (take i rows) (drop i rows) in
    let texts : map f (filter is_word rows) ≡ map f (words_to i rows) ++ map f (filter is_word (drop i rows)) = ap (map f) parts ∙ map-append f (words_to i rows) (filter is_word (drop i rows)) in
    let long : n ≡ length (map f (words_to i rows)) = count ∙ sym (length-map (words_to i rows) f) in
    sym ((λ j. take (long j) (texts j)) ∙ take-append_seam (map f (words_to i rows)) (map f (filter is_word (drop i rows))))

-- all words are so far, and they are not more
pub all_words : (f : RowText → List ℕ) (rows : List RowText) (i n done : ℕ) → length rows ≤ i → done ≡ length (words_to i rows) → done ≤ n → map f (words_to i rows) ≡ take n (map f (filter is_word rows))
all_words f rows i n done end count few =
    let all : take i rows ≡ rows = take_all i rows end in
    let same : map f (words_to i rows) ≡ map f (filter is_word rows) = ap (λ rs. map f (filter is_word rs)) all in
    let long : length (map f (filter is_word rows)) ≡ done = sym (count ∙ sym (length-map (words_to i rows) f) ∙ ap length same) in
    same ∙ sym (take_all n (map f (filter is_word rows)) (omega (arith, long)))

pub one_more_word : (rows : List RowText) (i n : ℕ) (r : RowText) → i < length rows → r ≡ get_or rows i r → is_word r ≡ true → n ≡ length (words_to i rows) → n + 1 ≡ length (words_to (i + 1) rows)
one_more_word rows i n r inside is word count =
    let next = ap length (next_word rows i r inside is word) ∙ length-append (words_to i rows) (r ∷ []) in
    omega (arith, count, next)

-- the first word, with none before it
pub first_word : (f : RowText → List ℕ) (rows : List RowText) (i : ℕ) (r : RowText) → i < length rows → r ≡ get_or rows i r → is_word r ≡ true → words_to i rows ≡ [] → take 1 (map f (filter is_word rows)) ≡ f r ∷ []
first_word f rows i r inside is word none =
    let next : words_to (i + 1) rows ≡ r ∷ [] = next_word rows i r inside is word ∙ ap (λ ws. ws ++ r ∷ []) none in
    sym (first_words f rows (i + 1) 1 (sym (ap length next))) ∙ ap (map f) next

abbrev pub texts_of : (RowText → List ℕ) → List RowText → List (List ℕ)
texts_of f rows = map f rows

-- ---- texts joined

-- the text as it goes behind n others
abbrev pub next_text : ℕ → List ℕ → List ℕ
next_text n text = cond (n == 0) text (32 ∷ text)

joined_more : (t u : List ℕ) (ts : List (List ℕ)) → joined (t ∷ (ts ++ u ∷ [])) ≡ joined (t ∷ ts) ++ 32 ∷ u
joined_more t u [] = refl
joined_more t u (v ∷ ts) = ap (λ rest. t ++ 32 ∷ rest) (joined_more v u ts) ∙ sym (append_assoc t (32 ∷ joined (v ∷ ts)) (32 ∷ u))

pub joined_next : (ts : List (List ℕ)) (u : List ℕ) (n : ℕ) → n ≡ length ts → joined (ts ++ u ∷ []) ≡ joined ts ++ cond (n == 0) u (32 ∷ u)
joined_next [] u n none = rw none refl
joined_next (t ∷ ts) u n some =
    let no : (n == 0) ≡ false = grind (arith, nat_tests) in
    rw no (joined_more t u ts)

-- one more word after those so far
pub joined_word : (f : RowText → List ℕ) (rows : List RowText) (i n : ℕ) (r : RowText) → i < length rows → r ≡ get_or rows i r → is_word r ≡ true → n ≡ length (words_to i rows)
    → joined (map f (words_to (i + 1) rows)) ≡ joined (map f (words_to i rows)) ++ cond (n == 0) (f r) (32 ∷ f r)
joined_word f rows i n r inside is word count =
    ap (λ ws. joined (map f ws)) (next_word rows i r inside is word) ∙ ap joined (map-append f (words_to i rows) (r ∷ []))
    ∙ joined_next (map f (words_to i rows)) (f r) n (count ∙ sym (length-map (words_to i rows) f))

-- what is put for it
pub joined_put : (f : RowText → List ℕ) (rows : List RowText) (i n : ℕ) (r : RowText) (text : List ℕ) (o a b : Option (List ℕ)) → i < length rows → r ≡ get_or rows i r → is_word r ≡ true
    → n ≡ length (words_to i rows) → text ≡ f r → Appends o a (joined (map f (words_to i rows))) → Appends a b (cond (n == 0) text (32 ∷ text))
    → Appends o b (joined (map f (words_to (i + 1) rows)))
joined_put f rows i n r text o a b inside is word count same done put =
    let P : List ℕ → Type 0 = Appends o b in
    subst P (sym (joined_word f rows i n r inside is word count)) (Appends-trans o a b _ _ done (subst (λ t. Appends a b (cond (n == 0) t (32 ∷ t))) same put))

-- ---- words passed

pub passed_word : (left n : ℕ) (rows rest : List RowText) (r : RowText) (more : List RowText) → 0 < left → rest ≡ r ∷ more → is_word r ≡ true
    → drop left (filter is_word rest) ≡ drop n (filter is_word rows) → drop (left - 1) (filter is_word more) ≡ drop n (filter is_word rows)
passed_word left n rows rest r more some split word before =
    let words : filter is_word rest ≡ r ∷ filter is_word more = ap (filter is_word) split ∙ ap (λ b. cond b (r ∷ filter is_word more) (filter is_word more)) word in
    let one : left ≡ suc (left - 1) = omega arith in
    sym (ap (λ k. drop k (r ∷ filter is_word more)) one) ∙ sym (ap (drop left) words) ∙ before
