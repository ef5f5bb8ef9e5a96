-- The texts of a hit and of the words round it, as parts of those of the sentence.
use Rattle.std.proofs.Common.{◌≡◌, ℕ, ◌+◌, ◌-◌, ◌<◌, ◌≤◌, List, [], ◌∷◌, ◌++◌, length, map, take, drop, refl, sym, ap, ◌∙◌, subst, arith, append_assoc, Option, None, Some}
use Rattle.std.specs.Prelude.{MatchOption}
use Rattle.std.specs.Io.KnownBytes.{Appends}
use Rattle.std.specs.List.{join_with_byte}
use Rattle.std.proofs.KnownBytes.{Appends-trans}
use Rattle.std.proofs.lemmas.List.{drop-take, drop-map, drop-drop, length-drop}
use Rattle.tb_conllu.specs.Text.{RowText}
use Rattle.tb_report.specs.Keywords.{joined, before, of_hit, after}

-- what stands behind the first words
pub behind : (f : RowText → List ℕ) (words rest : List RowText) (i : ℕ) → rest ≡ drop i words → map f rest ≡ drop i (map f words)
behind f words rest i same = ap (map f) same ∙ sym (drop-map f i words)

-- what stands behind some more words
pub behind_more : (words rest next : List RowText) (i n j : ℕ) → rest ≡ drop i words → next ≡ drop n rest → i + n ≡ j → next ≡ drop j words
behind_more words rest next i n j same more sum = more ∙ ap (drop n) same ∙ drop-drop n i words ∙ ap (λ k. drop k words) sum

-- the last words before a hit
pub before_is : (texts : List (List ℕ)) (n i first : ℕ) → first ≡ i - n → take (i - first) (drop first texts) ≡ before n i texts
before_is texts n i first is =
    let sum : first + (i - first) ≡ i = omega (arith, is) in
    sym (drop-take first (i - first) texts) ∙ λ k. drop (is k) (take (sum k) texts)

-- three texts, the first two with a tab, and the end of the line
pub three_texts : (l m r : List ℕ) (o a b c d : Option (List ℕ)) → Appends o a (l ++ 9 ∷ []) → Appends a b (m ++ 9 ∷ []) → Appends b c r → Appends c d (10 ∷ [])
    → Appends o d (l ++ 9 ∷ (m ++ 9 ∷ (r ++ 10 ∷ [])))
three_texts l m r o a b c d left mid right end =
    let all = Appends-trans o a d _ _ left (Appends-trans a b d _ _ mid (Appends-trans b c d _ _ right end)) in
    let shape : (l ++ 9 ∷ []) ++ ((m ++ 9 ∷ []) ++ (r ++ 10 ∷ [])) ≡ l ++ 9 ∷ (m ++ 9 ∷ (r ++ 10 ∷ [])) =
    append_assoc l (9 ∷ []) ((m ++ 9 ∷ []) ++ (r ++ 10 ∷ [])) ∙ ap (λ t. l ++ 9 ∷ t) (append_assoc m (9 ∷ []) (r ++ 10 ∷ [])) in
    let P : List ℕ → Type 0 = Appends o d in
    subst P shape all

-- the texts of a hit, with those before and behind it
pub texts_put : (f : RowText → List ℕ) (words left matched right : List RowText) (n i j first : ℕ) (o a b c d : Option (List ℕ)) → i < j → first ≡ i - n
    → left ≡ drop first words → matched ≡ drop (i - first) left → right ≡ drop (j - i) matched
    → Appends o a (joined (take (i - first) (map f left)) ++ 9 ∷ []) → Appends a b (joined (take (j - i) (map f matched)) ++ 9 ∷ [])
    → Appends b c (joined (take n (map f right))) → Appends c d (10 ∷ [])
    → Appends o d (joined (before n i (map f words)) ++ 9 ∷ (joined (of_hit i j (map f words)) ++ 9 ∷ (joined (after n j (map f words)) ++ 10 ∷ [])))
texts_put f words left matched right n i j first o a b c d order is at_left at_match at_right put_left put_match put_right end =
    let texts : List (List ℕ) = map f words in
    let start : matched ≡ drop i words = behind_more words left matched first (i - first) i at_left at_match (omega (arith, is)) in
    let past : right ≡ drop j words = behind_more words matched right i (j - i) j start at_right (omega (arith, order)) in
    let l : take (i - first) (map f left) ≡ before n i texts = ap (take (i - first)) (behind f words left first at_left) ∙ before_is texts n i first is in
    let m : take (j - i) (map f matched) ≡ of_hit i j texts = ap (take (j - i)) (behind f words matched i start) in
    let r : take n (map f right) ≡ after n j texts = ap (take n) (behind f words right j past) in
    three_texts _ _ _ o a b c d
    (subst (λ ts. Appends o a (joined ts ++ 9 ∷ [])) l put_left) (subst (λ ts. Appends a b (joined ts ++ 9 ∷ [])) m put_match) (subst (λ ts. Appends b c (joined ts)) r put_right) end

-- the text of a lone word is the key of its hit
pub lone_text : {A : Type 0} (f : RowText → List ℕ) (text : A → List ℕ) (words rest : List RowText) (i j : ℕ) (o : Option A) → i < j → j ≤ length words → j ≤ i + 1 → rest ≡ drop i words
    → MatchOption o (rest ≡ []) (λ v. take 1 (map f rest) ≡ text v ∷ []) → MatchOption o (i + 1 < j) (λ v. text v ≡ joined (of_hit i j (map f words)))
lone_text f text words rest i j None order last lone same none =
    let left : length (drop i words) ≡ length words - i = length-drop i words in
    let empty : length (drop i words) ≡ 0 = ap length (sym same ∙ none) in
    omega (arith, left, empty, order, last)
lone_text f text words rest i j (Some v) order last lone same first =
    let one : j - i ≡ 1 = omega (arith, order, lone) in
    sym (ap joined (ap (λ n. take n (drop i (map f words))) one ∙ ap (take 1) (sym (behind f words rest i same)) ∙ first))

-- six columns in a row
pub six_columns : (name first last l m r : List ℕ)
    → (name ++ 9 ∷ (first ++ 9 ∷ (last ++ 9 ∷ []))) ++ (l ++ 9 ∷ (m ++ 9 ∷ (r ++ 10 ∷ []))) ≡ join_with_byte 9 (name ∷ first ∷ last ∷ l ∷ m ∷ r ∷ []) ++ 10 ∷ []
six_columns name first last l m r =
    let right : join_with_byte 9 (name ∷ first ∷ last ∷ l ∷ m ∷ r ∷ []) ++ 10 ∷ [] ≡ name ++ 9 ∷ (first ++ 9 ∷ (last ++ 9 ∷ (l ++ 9 ∷ (m ++ 9 ∷ (r ++ 10 ∷ []))))) = simp append_assoc refl in
    let left : (name ++ 9 ∷ (first ++ 9 ∷ (last ++ 9 ∷ []))) ++ (l ++ 9 ∷ (m ++ 9 ∷ (r ++ 10 ∷ []))) ≡ name ++ 9 ∷ (first ++ 9 ∷ (last ++ 9 ∷ (l ++ 9 ∷ (m ++ 9 ∷ (r ++ 10 ∷ []))))) = simp append_assoc refl in
    left ∙ sym right
