-- What becomes of the revisions and of the numbers of pulled sentences.
use Rattle.std.proofs.Common.{◌≡◌, inl, inr, ℕ, zero, suc, ◌+◌, ◌<◌, List, [], ◌∷◌, ◌++◌, length, filter, Bool, true, false, cond, not, ◌==◌, eqb, Some, None, refl, sym, ◌∙◌, ap, subst, arith, append_assoc, slice_get}
use Rattle.std.specs.Prelude.{IsPermutation}
use Rattle.std.proofs.lemmas.Option.{same_Some}
use Rattle.std.proofs.lemmas.Bool.{eq-eqb}
use Rattle.std.proofs.lemmas.Bool.Decides.{eqb_tells}
use Rattle.std.proofs.lemmas.List.Sorted.{IsPermutation-cons, IsPermutation-to_front, IsPermutation-append_right}
use Rattle.tb_conllu.specs.Text.{BlockText, text_of}
use Rattle.tb_core.specs.Machine.{Revision, Sentence, revisions, change_at}
use Rattle.tb_core.specs.Acts.{corrected, flagged}
use Rattle.tb_core.specs.Rows.{RevisionRow, revision_rows, revisions_from, pulled_from}

-- ---- revisions

rows-append : (n k : ℕ) (rs qs : List Revision) → revision_rows n k (rs ++ qs) ≡ revision_rows n k rs ++ revision_rows n (k + length rs) qs
rows-append n k [] qs = let e : k ≡ k + 0 = omega arith in ap (λ j. revision_rows n j qs) e
rows-append n k (r ∷ rs) qs =
    let e : k + 1 + length rs ≡ k + length (r ∷ rs) = omega arith in
    let row : RevisionRow = record { sent = n; rev = k; who = r.who; body = text_of (r.body ∷ []) } in
    ap (λ l. row ∷ l) (rows-append n (k + 1) rs qs ∙ ap (λ j. revision_rows n (k + 1) rs ++ revision_rows n j qs) e)

pub revisions-append : (n : ℕ) (xs ys : List Sentence) → revisions_from n (xs ++ ys) ≡ revisions_from n xs ++ revisions_from (n + length xs) ys
revisions-append n [] ys = let e : n ≡ n + 0 = omega arith in ap (λ j. revisions_from j ys) e
revisions-append n (x ∷ xs) ys =
    let e : n + 1 + length xs ≡ n + length (x ∷ xs) = omega arith in
    ap (λ l. revision_rows n 1 (revisions x) ++ l) (revisions-append (n + 1) xs ys ∙ ap (λ j. revisions_from (n + 1) xs ++ revisions_from j ys) e)
    ∙ sym (append_assoc (revision_rows n 1 (revisions x)) (revisions_from (n + 1) xs) (revisions_from (n + length (x ∷ xs)) ys))

-- the row of a correction
abbrev pub new_row : ℕ → ℕ → List ℕ → BlockText → RevisionRow
new_row n k user body = record { sent = n; rev = k; who = user; body = text_of (body ∷ []) }

own_rows : (n : ℕ) (user : List ℕ) (body : BlockText) (x : Sentence) → revision_rows n 1 (revisions (corrected user body x)) ≡ revision_rows n 1 (revisions x) ++ new_row n (1 + length (revisions x)) user body ∷ []
own_rows n user body x = let q : Revision = record { who = user; body = body } in rows-append n 1 (revisions x) (q ∷ [])

-- one more at the end, in another order
one_more : (l rest : List RevisionRow) (r : RevisionRow) → IsPermutation ((l ++ rest) ++ r ∷ []) ((l ++ r ∷ []) ++ rest)
one_more l rest r =
    subst (λ z. IsPermutation z ((l ++ r ∷ []) ++ rest)) (sym (append_assoc l rest (r ∷ [])))
    (subst (IsPermutation (l ++ (rest ++ r ∷ []))) (sym (append_assoc l (r ∷ []) rest)) (IsPermutation-append_right l (rest ++ r ∷ []) (r ∷ rest) (IsPermutation-to_front rest r)))

pub revised : (n : ℕ) (user : List ℕ) (body : BlockText) (xs : List Sentence) (i : ℕ) (x : Sentence) (m k : ℕ) → slice_get xs i ≡ Some x → m ≡ n + i → k ≡ 1 + length (revisions x)
    → IsPermutation (revisions_from n xs ++ new_row m k user body ∷ []) (revisions_from n (change_at (corrected user body) xs i))
revised n user body [] i x m k e a b = let d : None ≡ Some x = e in absurd (cc)
revised n user body (y ∷ ys) zero x m k e a b =
    let same : y ≡ x = same_Some y x e in
    let here : m ≡ n = omega (arith, a) in
    let count : k ≡ 1 + length (revisions y) = b ∙ ap (λ z. 1 + length (revisions z)) (sym same) in
    let row : new_row m k user body ≡ new_row n (1 + length (revisions y)) user body = ap (λ j. new_row j k user body) here ∙ ap (λ j. new_row n j user body) count in
    subst (λ r. IsPermutation (revisions_from n (y ∷ ys) ++ r ∷ []) (revisions_from n (change_at (corrected user body) (y ∷ ys) zero))) (sym row)
    (subst (λ l. IsPermutation (revisions_from n (y ∷ ys) ++ new_row n (1 + length (revisions y)) user body ∷ []) (l ++ revisions_from (n + 1) ys)) (sym (own_rows n user body y))
    (one_more (revision_rows n 1 (revisions y)) (revisions_from (n + 1) ys) (new_row n (1 + length (revisions y)) user body)))
revised n user body (y ∷ ys) (suc i) x m k e a b =
    let own = revision_rows n 1 (revisions y) in
    subst (λ l. IsPermutation l (own ++ revisions_from (n + 1) (change_at (corrected user body) ys i))) (sym (append_assoc own (revisions_from (n + 1) ys) (new_row m k user body ∷ [])))
    (IsPermutation-append_right own (revisions_from (n + 1) ys ++ new_row m k user body ∷ []) (revisions_from (n + 1) (change_at (corrected user body) ys i)) (revised (n + 1) user body ys i x m k e (omega (arith, a)) b))

-- a flag changes no revision
pub revisions_flagged : (p : Bool) (n : ℕ) (xs : List Sentence) (i : ℕ) → revisions_from n (change_at (flagged p) xs i) ≡ revisions_from n xs
revisions_flagged p n [] i = refl
revisions_flagged p n (x ∷ xs) zero = refl
revisions_flagged p n (x ∷ xs) (suc i) = ap (λ l. revision_rows n 1 (revisions x) ++ l) (revisions_flagged p (n + 1) xs i)

-- ---- numbers of pulled sentences

-- what a flag puts before the numbers of the later sentences
abbrev flag : Bool → ℕ → List ℕ → List ℕ
flag p n l = cond p (n ∷ l) l

flag-append : (p : Bool) (n : ℕ) (l rest : List ℕ) → flag p n (l ++ rest) ≡ flag p n l ++ rest
flag-append true n l rest = refl
flag-append false n l rest = refl

pub pulled-append : (n : ℕ) (xs ys : List Sentence) → pulled_from n (xs ++ ys) ≡ pulled_from n xs ++ pulled_from (n + length xs) ys
pulled-append n [] ys = let e : n ≡ n + 0 = omega arith in ap (λ j. pulled_from j ys) e
pulled-append n (x ∷ xs) ys =
    let e : n + 1 + length xs ≡ n + length (x ∷ xs) = omega arith in
    ap (flag x.pulled n) (pulled-append (n + 1) xs ys ∙ ap (λ j. pulled_from (n + 1) xs ++ pulled_from j ys) e)
    ∙ flag-append x.pulled n (pulled_from (n + 1) xs) (pulled_from (n + length (x ∷ xs)) ys)

pub pulled_corrected : (user : List ℕ) (body : BlockText) (n : ℕ) (xs : List Sentence) (i : ℕ) → pulled_from n (change_at (corrected user body) xs i) ≡ pulled_from n xs
pulled_corrected user body n [] i = refl
pulled_corrected user body n (x ∷ xs) zero = refl
pulled_corrected user body n (x ∷ xs) (suc i) = ap (flag x.pulled n) (pulled_corrected user body (n + 1) xs i)

flag_moves : (p : Bool) (n m : ℕ) (l k : List ℕ) → IsPermutation (l ++ m ∷ []) k → IsPermutation (flag p n l ++ m ∷ []) (flag p n k)
flag_moves true n m l k h = IsPermutation-cons n (l ++ m ∷ []) k h
flag_moves false n m l k h = h

-- a number more
pub pulled_one : (n : ℕ) (xs : List Sentence) (i : ℕ) (x : Sentence) (m : ℕ) → slice_get xs i ≡ Some x → x.pulled ≡ false → m ≡ n + i → IsPermutation (pulled_from n xs ++ m ∷ []) (pulled_from n (change_at (flagged true) xs i))
pulled_one n [] i x m e free a = let d : None ≡ Some x = e in absurd (cc)
pulled_one n (y ∷ ys) zero x m e free a =
    let here : m ≡ n = omega (arith, a) in
    let was : y.pulled ≡ false = ap (λ (z : Sentence). z.pulled) (same_Some y x e) ∙ free in
    let rest = pulled_from (n + 1) ys in
    subst (λ j. IsPermutation (flag y.pulled n rest ++ j ∷ []) (n ∷ rest)) (sym here)
    (subst (λ p. IsPermutation (flag p n rest ++ n ∷ []) (n ∷ rest)) (sym was) (IsPermutation-to_front rest n))
pulled_one n (y ∷ ys) (suc i) x m e free a =
    flag_moves y.pulled n m (pulled_from (n + 1) ys) (pulled_from (n + 1) (change_at (flagged true) ys i)) (pulled_one (n + 1) ys i x m e free (omega (arith, a)))

abbrev pub others : ℕ → List ℕ → List ℕ
others m l = filter (λ n. not (n == m)) l

apart : (n m : ℕ) → (n ≡ m → ⊥) → eqb n m ≡ false
apart n m h = elim (eqb_tells n m) [ inl y ↦ absurd (h y.1) | inr k ↦ k.0 ]

kept : (t : Bool) (n : ℕ) (l k : List ℕ) → t ≡ false → l ≡ k → cond (not t) (n ∷ l) l ≡ n ∷ k
kept true n l k e h = let d : true ≡ false = e in absurd (cc)
kept false n l k e h = ap (λ z. n ∷ z) h

gone : (t : Bool) (n : ℕ) (l k : List ℕ) → t ≡ true → l ≡ k → cond (not t) (n ∷ l) l ≡ k
gone true n l k e h = h
gone false n l k e h = let d : false ≡ true = e in absurd (cc)

flag_kept : (p : Bool) (n m : ℕ) (l k : List ℕ) → (n ≡ m → ⊥) → others m l ≡ k → others m (flag p n l) ≡ flag p n k
flag_kept true n m l k h e = kept (eqb n m) n (others m l) k (apart n m h) e
flag_kept false n m l k h e = e

flag_gone : (p : Bool) (n m : ℕ) (l k : List ℕ) → n ≡ m → others m l ≡ k → others m (flag p n l) ≡ k
flag_gone true n m l k h e = gone (eqb n m) n (others m l) k (eq-eqb n m h) e
flag_gone false n m l k h e = e

-- the numbers of later sentences are others
others_above : (n m : ℕ) (xs : List Sentence) → m < n → others m (pulled_from n xs) ≡ pulled_from n xs
others_above n m [] h = refl
others_above n m (x ∷ xs) h =
    flag_kept x.pulled n m (pulled_from (n + 1) xs) (pulled_from (n + 1) xs) (λ e. omega (arith, h, e)) (others_above (n + 1) m xs (omega (arith, h)))

-- a number less
pub restored : (n : ℕ) (xs : List Sentence) (i m : ℕ) → m ≡ n + i → others m (pulled_from n xs) ≡ pulled_from n (change_at (flagged false) xs i)
restored n [] i m a = refl
restored n (y ∷ ys) zero m a = flag_gone y.pulled n m (pulled_from (n + 1) ys) (pulled_from (n + 1) ys) (omega (arith, a)) (others_above (n + 1) m ys (omega (arith, a)))
restored n (y ∷ ys) (suc i) m a =
    flag_kept y.pulled n m (pulled_from (n + 1) ys) (pulled_from (n + 1) (change_at (flagged false) ys i)) (λ e. omega (arith, a, e)) (restored (n + 1) ys i m (omega (arith, a)))
