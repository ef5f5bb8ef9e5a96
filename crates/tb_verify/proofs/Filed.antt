-- Sentences of a file, one after the other: the first row is that of the first.
use Rattle.std.proofs.Common.{◌≡◌, ℕ, zero, suc, ◌+◌, ◌≤◌, ◌<◌, List, [], ◌∷◌, ◌++◌, length, get_or, map, take, drop, Bool, true, false, cond, refl, sym, ◌∙◌, ap, subst, arith, length-append, append_assoc}
use Rattle.std.specs.Prelude.{nat_eq}
use Rattle.std.proofs.lemmas.Bool.Decides.{Decides-eqb}
use Rattle.tb_core.specs.Machine as machine
use Rattle.tb_core.specs.Machine.{revisions}
use Rattle.tb_core.specs.Rows.{revision_rows, revisions_from, pulled_from}
use Rattle.tb_core.proofs.Lists.{head_is, tail_is, map-joined}
use Rattle.tb_replay.specs.Summaries.{SummaryRow, entry_of, entries_of}
use Rattle.tb_refine.specs.DeskTables.{sentence_record, revision_record}
use Rattle.tb_tables.specs.Records.{Sentence, Revision}
use Rattle.tb_verify.specs.Course.{IsReadBack}
use Rattle.tb_verify.specs.File.{AreReadBack, is_next, after_next}

take_front : {X : Type 0} (xs ys : List X) (n : ℕ) → n ≡ length xs → take n (xs ++ ys) ≡ xs
take_front [] ys zero e = refl
take_front [] ys (suc n) e = absurd (omega (arith, e))
take_front (x ∷ xs) ys zero e = absurd (omega (arith, e))
take_front (x ∷ xs) ys (suc n) e = ap (λ l. x ∷ l) (take_front xs ys n (omega (arith, e)))

drop_front : {X : Type 0} (xs ys : List X) (n : ℕ) → n ≡ length xs → drop n (xs ++ ys) ≡ ys
drop_front [] ys zero e = refl
drop_front [] ys (suc n) e = absurd (omega (arith, e))
drop_front (x ∷ xs) ys zero e = absurd (omega (arith, e))
drop_front (x ∷ xs) ys (suc n) e = drop_front xs ys n (omega (arith, e))

rows_count : (n k : ℕ) (rs : List machine.Revision) → length (map revision_record (revision_rows n k rs)) ≡ length rs
rows_count n k [] = refl
rows_count n k (r ∷ rs) = ap suc (rows_count n (k + 1) rs)

own_count : (n : ℕ) (x : machine.Sentence) → length x.before + 1 ≡ length (map revision_record (revision_rows n 1 (revisions x)))
own_count n x = sym (rows_count n 1 (revisions x) ∙ length-append x.before (x.current ∷ []))

own_rows : (n : ℕ) (x : machine.Sentence) (xs : List machine.Sentence) → map revision_record (revisions_from n (x ∷ xs)) ≡ map revision_record (revision_rows n 1 (revisions x)) ++ map revision_record (revisions_from (n + 1) xs)
own_rows n x xs = map-joined revision_record (revision_rows n 1 (revisions x)) (revisions_from (n + 1) xs)

-- numbers of later sentences are greater
pulled_step : (p : Bool) (n m : ℕ) (l rest : List ℕ) → cond p (n ∷ l) l ≡ m ∷ rest → (l ≡ m ∷ rest → n + 1 ≤ m) → n ≤ m
pulled_step true n m l rest e h = let s = head_is n m l rest e in omega (arith, s)
pulled_step false n m l rest e h = let s = h e in omega (arith, s)

pulled_above : (n : ℕ) (xs : List machine.Sentence) (m : ℕ) (rest : List ℕ) → pulled_from n xs ≡ m ∷ rest → n ≤ m
pulled_above n [] m rest e = let s = ap length e in absurd (omega (arith, s))
pulled_above n (x ∷ xs) m rest e = pulled_step x.pulled n m (pulled_from (n + 1) xs) rest e (pulled_above (n + 1) xs m rest)

pub unmet : (b : Bool) → (b ≡ true → ⊥) → b ≡ false
unmet true h = absurd (h refl)
unmet false h = refl

none_next : (n : ℕ) (flags : List ℕ) → ((m : ℕ) (rest : List ℕ) → flags ≡ m ∷ rest → n + 1 ≤ m) → is_next n flags ≡ false
none_next n [] h = refl
none_next n (m ∷ ms) h = let l = h m ms refl in unmet (nat_eq m n) (λ t. let e = (Decides-eqb m n).0 t in omega (arith, l, e))

flag_next : (p : Bool) (n : ℕ) (l : List ℕ) → ((m : ℕ) (rest : List ℕ) → l ≡ m ∷ rest → n + 1 ≤ m) → is_next n (cond p (n ∷ l) l) ≡ p
flag_next true n l h = (Decides-eqb n n).1 refl
flag_next false n l h = none_next n l h

flag_after : (p : Bool) (n : ℕ) (l : List ℕ) → cond p (drop 1 (cond p (n ∷ l) l)) (cond p (n ∷ l) l) ≡ l
flag_after true n l = refl
flag_after false n l = refl

-- the first sentence has the first row, and the others have those after it
pub first_and_rest : (n : ℕ) (s : Sentence) (ss : List Sentence) (flags : List ℕ) (rows : List Revision) (x : machine.Sentence) (rest : List machine.Sentence) → AreReadBack n (s ∷ ss) flags rows (x ∷ rest)
    → IsReadBack n s (is_next n flags) (take s.rev rows) x × AreReadBack (n + 1) ss (after_next n flags) (drop s.rev rows) rest
first_and_rest n s ss flags rows x rest h =
    let own = map revision_record (revision_rows n 1 (revisions x)) in
    let others = map revision_record (revisions_from (n + 1) rest) in
    let l = pulled_from (n + 1) rest in
    let row = head_is (sentence_record x) s (map sentence_record rest) ss h.sentences in
    let count : s.rev ≡ length own = sym (ap (λ (z : Sentence). z.rev) row) ∙ own_count n x in
    let parts : own ++ others ≡ rows = sym (own_rows n x rest) ∙ h.revised in
    let next : is_next n flags ≡ x.pulled = ap (is_next n) (sym h.pulled) ∙ flag_next x.pulled n l (pulled_above (n + 1) rest) in
    let after = ap (λ b. cond b (drop 1 flags) flags) next ∙ ap (λ f. cond x.pulled (drop 1 f) f) (sym h.pulled) ∙ flag_after x.pulled n l in (
      record { row = row; pulled = sym next; revised = sym (take_front own others s.rev count) ∙ ap (take s.rev) parts; fine = h.fine.0 },
      record { sentences = tail_is (sentence_record x) s (map sentence_record rest) ss h.sentences; revised = sym (drop_front own others s.rev count) ∙ ap (drop s.rev) parts; pulled = sym after; fine = h.fine.1 },
    )

pub first_of : (n : ℕ) (s : Sentence) (ss : List Sentence) (flags : List ℕ) (rows : List Revision) (xs : List machine.Sentence) → AreReadBack n (s ∷ ss) flags rows xs
    → (x : machine.Sentence) × (rest : List machine.Sentence) × IsReadBack n s (is_next n flags) (take s.rev rows) x × AreReadBack (n + 1) ss (after_next n flags) (drop s.rev rows) rest
first_of n s ss flags rows [] h = let e = ap length h.sentences in absurd (omega (arith, e))
first_of n s ss flags rows (x ∷ rest) h = let parts = first_and_rest n s ss flags rows x rest h in (x, rest, parts.0, parts.1)

flag_kept : (b : Bool) (n m : ℕ) (ms : List ℕ) → (b ≡ true → m ≡ n) → cond b (n ∷ cond b ms (m ∷ ms)) (cond b ms (m ∷ ms)) ≡ m ∷ ms
flag_kept true n m ms h = ap (λ z. z ∷ ms) (sym (h refl))
flag_kept false n m ms h = refl

flags_back : (n : ℕ) (flags : List ℕ) → cond (is_next n flags) (n ∷ after_next n flags) (after_next n flags) ≡ flags
flags_back n [] = refl
flags_back n (m ∷ ms) = flag_kept (nat_eq m n) n m ms (λ t. (Decides-eqb m n).0 t)

split_again : {X : Type 0} (n : ℕ) (xs : List X) → take n xs ++ drop n xs ≡ xs
split_again zero xs = refl
split_again (suc n) [] = refl
split_again (suc n) (x ∷ xs) = ap (λ l. x ∷ l) (split_again n xs)

-- a sentence before others
pub and_first : (n : ℕ) (s : Sentence) (ss : List Sentence) (flags : List ℕ) (rows : List Revision) (x : machine.Sentence) (xs : List machine.Sentence) → IsReadBack n s (is_next n flags) (take s.rev rows) x
    → AreReadBack (n + 1) ss (after_next n flags) (drop s.rev rows) xs → AreReadBack n (s ∷ ss) flags rows (x ∷ xs)
and_first n s ss flags rows x xs h g = record {
  sentences = ap (λ z. z ∷ map sentence_record xs) h.row ∙ ap (λ l. s ∷ l) g.sentences;
  revised = own_rows n x xs ∙ ap (λ l. l ++ map revision_record (revisions_from (n + 1) xs)) h.revised ∙ ap (λ l. take s.rev rows ++ l) g.revised ∙ split_again s.rev rows;
  pulled = ap (λ b. cond b (n ∷ pulled_from (n + 1) xs) (pulled_from (n + 1) xs)) h.pulled ∙ ap (λ l. cond (is_next n flags) (n ∷ l) l) g.pulled ∙ flags_back n flags;
  fine = (h.fine, g.fine);
}

-- ---- a turn of the loop

abbrev pub Leads : List Sentence → List ℕ → List Revision → ℕ → List Sentence → List ℕ → List Revision → Type 0
Leads all flags rows n reported left rest = (xs : List machine.Sentence) → AreReadBack 1 all flags rows xs → (ys : List machine.Sentence) × AreReadBack n reported left rest ys

abbrev pub Completes : List Sentence → List ℕ → List Revision → List SummaryRow → ℕ → List Sentence → List ℕ → List Revision → Type 0
Completes all flags rows done n reported left rest = (ys : List machine.Sentence) → AreReadBack n reported left rest ys → (xs : List machine.Sentence) × AreReadBack 1 all flags rows xs × (entries_of xs ≡ done ++ entries_of ys)

pub leads_on : (all : List Sentence) (flags : List ℕ) (rows : List Revision) (n : ℕ) (s : Sentence) (ss : List Sentence) (left : List ℕ) (rest : List Revision) → Leads all flags rows n (s ∷ ss) left rest
    → Leads all flags rows (n + 1) ss (after_next n left) (drop s.rev rest)
leads_on all flags rows n s ss left rest h = λ xs g. let y = h xs g in let f = first_of n s ss left rest y.0 y.1 in (f.1, f.3)

pub completes_on : (all : List Sentence) (flags : List ℕ) (rows : List Revision) (done : List SummaryRow) (n : ℕ) (s : Sentence) (ss : List Sentence) (left : List ℕ) (rest : List Revision) (x : machine.Sentence)
    → IsReadBack n s (is_next n left) (take s.rev rest) x → Completes all flags rows done n (s ∷ ss) left rest → Completes all flags rows (done ++ entry_of x ∷ []) (n + 1) ss (after_next n left) (drop s.rev rest)
completes_on all flags rows done n s ss left rest x b h = λ ys g.
    let w = h (x ∷ ys) (and_first n s ss left rest x ys b g) in
    (w.0, w.1, w.2 ∙ sym (append_assoc done (entry_of x ∷ []) (entries_of ys)))

pub mapped_drop : {X Y : Type 0} (f : X → Y) (xs : List X) (i : ℕ) (x : X) → i < length xs → x ≡ get_or xs i x → map f (drop i xs) ≡ f x ∷ map f (drop (i + 1) xs)
mapped_drop f [] i x l h = absurd (omega (arith, l))
mapped_drop f (y ∷ ys) zero x l h = ap (λ z. f z ∷ map f ys) (sym h)
mapped_drop f (y ∷ ys) (suc i) x l h = let s : suc i + 1 ≡ suc (i + 1) = omega arith in mapped_drop f ys i x (omega (arith, l)) h ∙ ap (λ j. f x ∷ map f (drop j (y ∷ ys))) (sym s)

pub map_dropped : {X Y : Type 0} (f : X → Y) (n : ℕ) (xs : List X) → map f (drop n xs) ≡ drop n (map f xs)
map_dropped f zero xs = refl
map_dropped f (suc n) [] = refl
map_dropped f (suc n) (x ∷ xs) = map_dropped f n xs

pub map_taken : {X Y : Type 0} (f : X → Y) (n : ℕ) (xs : List X) → map f (take n xs) ≡ take n (map f xs)
map_taken f zero xs = refl
map_taken f (suc n) [] = refl
map_taken f (suc n) (x ∷ xs) = ap (λ l. f x ∷ l) (map_taken f n xs)

pub no_more : {X Y : Type 0} (f : X → Y) (xs : List X) (i : ℕ) → length xs ≤ i → map f (drop i xs) ≡ []
no_more f [] zero l = refl
no_more f [] (suc i) l = refl
no_more f (x ∷ xs) zero l = absurd (omega (arith, l))
no_more f (x ∷ xs) (suc i) l = no_more f xs i (omega (arith, l))

pub turn : (all : List Sentence) (flags : List ℕ) (rows : List Revision) (done done_next : List SummaryRow) (n : ℕ) (reported : List Sentence) (s : Sentence) (ss : List Sentence) (left left_next : List ℕ) (rest rest_next : List Revision)
    (x : machine.Sentence) → reported ≡ s ∷ ss → left_next ≡ after_next n left → rest_next ≡ drop s.rev rest → done_next ≡ done ++ entry_of x ∷ [] → Leads all flags rows n reported left rest × Completes all flags rows done n reported left rest
    → IsReadBack n s (is_next n left) (take s.rev rest) x → Leads all flags rows (n + 1) ss left_next rest_next × Completes all flags rows done_next (n + 1) ss left_next rest_next
turn all flags rows done done_next n reported s ss left left_next rest rest_next x e p q d h b = (
  subst (λ r. Leads all flags rows (n + 1) ss left_next r) (sym q) (subst (λ l. Leads all flags rows (n + 1) ss l (drop s.rev rest)) (sym p) (leads_on all flags rows n s ss left rest (subst (λ t. Leads all flags rows n t left rest) e h.0))),
  subst (λ z. Completes all flags rows z (n + 1) ss left_next rest_next) (sym d)
      (subst (λ r. Completes all flags rows (done ++ entry_of x ∷ []) (n + 1) ss left_next r) (sym q)
      (subst (λ l. Completes all flags rows (done ++ entry_of x ∷ []) (n + 1) ss l (drop s.rev rest)) (sym p)
      (completes_on all flags rows done n s ss left rest x b (subst (λ t. Completes all flags rows done n t left rest) e h.1)))),
)

-- the facts of one sentence, by equal signs and equal rows
pub read_with : (n : ℕ) (s : Sentence) (p p_next : Bool) (rows rows_next : List Revision) (x : machine.Sentence) → p ≡ p_next → rows ≡ rows_next → IsReadBack n s p rows x → IsReadBack n s p_next rows_next x
read_with n s p p_next rows rows_next x e f h = record { row = h.row; pulled = h.pulled ∙ e; revised = h.revised ∙ f; fine = h.fine }

-- ---- after the last row

none_after : {X : Type 0} (f : X → Revision) (rs : List X) → [] ≡ map f rs → length rs ≡ 0
none_after f [] e = refl
none_after f (r ∷ rs) e = let s = ap length e in absurd (omega (arith, s))

pub nothing_left : {X : Type 0} (f : X → Revision) (n : ℕ) (reported : List Sentence) (left : List ℕ) (rest : List X) (ys : List machine.Sentence) → reported ≡ [] → AreReadBack n reported left (map f rest) ys → (length rest ≡ 0) × (length left ≡ 0)
nothing_left f n reported left rest [] e h = (none_after f rest h.revised, ap length (sym h.pulled))
nothing_left f n reported left rest (y ∷ ys) e h = let s = ap length (h.sentences ∙ e) in absurd (omega (arith, s))

none_of : {X : Type 0} (xs : List X) → length xs ≡ 0 → xs ≡ []
none_of [] e = refl
none_of (x ∷ xs) e = absurd (omega (arith, e))

pub all_read : {X : Type 0} (f : X → Revision) (n : ℕ) (reported : List Sentence) (left : List ℕ) (rest : List X) → reported ≡ [] → length rest ≡ 0 → length left ≡ 0 → AreReadBack n reported left (map f rest) []
all_read f n reported left rest e g h = record { sentences = sym e; revised = ap (map f) (sym (none_of rest g)); pulled = sym (none_of left h); fine = tt }
