-- Two reached states with the same rows are equal.
use Rattle.std.proofs.Common.{◌≡◌, ℕ, ◌+◌, ◌≤◌, List, [], ◌∷◌, length, map, Bool, true, false, cond, refl, sym, ◌∙◌, ap, arith, length-append}
use Rattle.std.specs.List.{AllByRecursion}
use Rattle.tb_conllu.specs.Text.{BlockText, text_of}
use Rattle.tb_conllu.specs.Reported.{IsFile}
use Rattle.tb_core.specs.Machine.{IsLawful, Revision, Sentence, Machine, revisions}
use Rattle.tb_core.specs.Reaching.{Reached}
use Rattle.tb_core.specs.Keeping.{IsFine}
use Rattle.tb_core.specs.Rows.{SentenceRow, RevisionRow, Rows, sentence_row, revision_rows, revisions_from, pulled_from, rows_of}
use Rattle.tb_core.proofs.Lists.{head_is, tail_is, snoc_front, snoc_last, split_front, split_back}
use Rattle.tb_core.proofs.Keeps.{well}

-- shaped sentences have one text
abbrev pub IsOneList : Type 0
IsOneList = (f : List ℕ) (bs cs : List BlockText) → IsFile f bs → IsFile f cs → bs ≡ cs

one_body : IsOneList → (a b : BlockText) → IsLawful a → IsLawful b → text_of (a ∷ []) ≡ text_of (b ∷ []) → a ≡ b
one_body u a b h g e = head_is a b [] [] (u (text_of (a ∷ [])) (a ∷ []) (b ∷ []) (record { shaped = (h.shaped, tt); text = refl }) (record { shaped = (g.shaped, tt); text = e }))

pub sentence_is : (x y : Sentence) → x.sent_id ≡ y.sent_id → x.batch ≡ y.batch → x.pulled ≡ y.pulled → x.before ≡ y.before → x.current ≡ y.current → x ≡ y
sentence_is x y p q r s t =
    ap (λ z. let w : Sentence = record { sent_id = z; batch = x.batch; pulled = x.pulled; before = x.before; current = x.current } in w) p
    ∙ (ap (λ z. let w : Sentence = record { sent_id = y.sent_id; batch = z; pulled = x.pulled; before = x.before; current = x.current } in w) q
    ∙ (ap (λ z. let w : Sentence = record { sent_id = y.sent_id; batch = y.batch; pulled = z; before = x.before; current = x.current } in w) r
    ∙ (ap (λ z. let w : Sentence = record { sent_id = y.sent_id; batch = y.batch; pulled = y.pulled; before = z; current = x.current } in w) s
    ∙ ap (λ z. let w : Sentence = record { sent_id = y.sent_id; batch = y.batch; pulled = y.pulled; before = y.before; current = z } in w) t)))

pub machine_is : (s f : Machine) → s.batches ≡ f.batches → s.sentences ≡ f.sentences → s.moves ≡ f.moves → s ≡ f
machine_is s f p q r =
    ap (λ z. let w : Machine = record { batches = z; sentences = s.sentences; moves = s.moves } in w) p
    ∙ (ap (λ z. let w : Machine = record { batches = f.batches; sentences = z; moves = s.moves } in w) q ∙ ap (λ z. let w : Machine = record { batches = f.batches; sentences = f.sentences; moves = z } in w) r)

rows_size : (n k : ℕ) (rs : List Revision) → length (revision_rows n k rs) ≡ length rs
rows_size n k [] = refl
rows_size n k (r ∷ rs) = let e = rows_size n (k + 1) rs in omega (arith, e)

revision_is : (a b : Revision) → a.who ≡ b.who → a.body ≡ b.body → a ≡ b
revision_is a b p q = ap (λ z. let r : Revision = record { who = z; body = a.body } in r) p ∙ ap (λ z. let r : Revision = record { who = b.who; body = z } in r) q

revisions_same : IsOneList → (n k : ℕ) (ps bs : List Revision) → AllByRecursion IsLawful (map (λ (r : Revision). r.body) ps) → AllByRecursion IsLawful (map (λ (r : Revision). r.body) bs)
    → revision_rows n k ps ≡ revision_rows n k bs → ps ≡ bs
revisions_same u n k [] [] h g e = refl
revisions_same u n k [] (b ∷ bs) h g e = let s = ap length e in absurd (omega (arith, s))
revisions_same u n k (a ∷ ps) [] h g e = let s = ap length e in absurd (omega (arith, s))
revisions_same u n k (a ∷ ps) (b ∷ bs) h g e =
    let row = head_is (let z : RevisionRow = record { sent = n; rev = k; who = a.who; body = text_of (a.body ∷ []) } in z) (record { sent = n; rev = k; who = b.who; body = text_of (b.body ∷ []) }) (revision_rows n (k + 1) ps) (revision_rows n (k + 1) bs) e in
    let rest = tail_is (let z : RevisionRow = record { sent = n; rev = k; who = a.who; body = text_of (a.body ∷ []) } in z) (record { sent = n; rev = k; who = b.who; body = text_of (b.body ∷ []) }) (revision_rows n (k + 1) ps) (revision_rows n (k + 1) bs) e in
    let one = revision_is a b (ap (λ (r : RevisionRow). r.who) row) (one_body u a.body b.body h.0 g.0 (ap (λ (r : RevisionRow). r.body) row)) in
    ap (λ z. z ∷ ps) one ∙ ap (λ l. b ∷ l) (revisions_same u n (k + 1) ps bs h.1 g.1 rest)

-- numbers of later sentences are greater
pulled_step : (p : Bool) (n m : ℕ) (l rest : List ℕ) → cond p (n ∷ l) l ≡ m ∷ rest → (l ≡ m ∷ rest → n + 1 ≤ m) → n ≤ m
pulled_step true n m l rest e h = let s = head_is n m l rest e in omega (arith, s)
pulled_step false n m l rest e h = let s = h e in omega (arith, s)

pulled_above : (n : ℕ) (xs : List Sentence) (m : ℕ) (rest : List ℕ) → pulled_from n xs ≡ m ∷ rest → n ≤ m
pulled_above n [] m rest e = let s = ap length e in absurd (omega (arith, s))
pulled_above n (x ∷ xs) m rest e = pulled_step x.pulled n m (pulled_from (n + 1) xs) rest e (pulled_above (n + 1) xs m rest)

flag_same : (p q : Bool) (n : ℕ) (xs ys : List Sentence) → cond p (n ∷ pulled_from (n + 1) xs) (pulled_from (n + 1) xs) ≡ cond q (n ∷ pulled_from (n + 1) ys) (pulled_from (n + 1) ys)
    → (p ≡ q) × (pulled_from (n + 1) xs ≡ pulled_from (n + 1) ys)
flag_same true true n xs ys e = (refl, tail_is n n (pulled_from (n + 1) xs) (pulled_from (n + 1) ys) e)
flag_same true false n xs ys e = let s = pulled_above (n + 1) ys n (pulled_from (n + 1) xs) (sym e) in absurd (omega (arith, s))
flag_same false true n xs ys e = let s = pulled_above (n + 1) xs n (pulled_from (n + 1) ys) e in absurd (omega (arith, s))
flag_same false false n xs ys e = (refl, e)

sentences_same : IsOneList → (n : ℕ) (xs ys : List Sentence) → AllByRecursion IsFine xs → AllByRecursion IsFine ys → map sentence_row xs ≡ map sentence_row ys → revisions_from n xs ≡ revisions_from n ys
    → pulled_from n xs ≡ pulled_from n ys → xs ≡ ys
sentences_same u n [] [] h g a b c = refl
sentences_same u n [] (y ∷ ys) h g a b c = let s = ap length a in absurd (omega (arith, s))
sentences_same u n (x ∷ xs) [] h g a b c = let s = ap length a in absurd (omega (arith, s))
sentences_same u n (x ∷ xs) (y ∷ ys) h g a b c =
    let row = head_is (sentence_row x) (sentence_row y) (map sentence_row xs) (map sentence_row ys) a in
    let rows = tail_is (sentence_row x) (sentence_row y) (map sentence_row xs) (map sentence_row ys) a in
    let count = ap (λ (r : SentenceRow). r.rev) row in
    let sx = rows_size n 1 (revisions x) ∙ length-append x.before (x.current ∷ []) in
    let sy = rows_size n 1 (revisions y) ∙ length-append y.before (y.current ∷ []) in
    let size : length (revision_rows n 1 (revisions x)) ≡ length (revision_rows n 1 (revisions y)) = omega (arith, sx, sy, count) in
    let own = split_front (revision_rows n 1 (revisions x)) (revisions_from (n + 1) xs) (revision_rows n 1 (revisions y)) (revisions_from (n + 1) ys) size b in
    let others = split_back (revision_rows n 1 (revisions x)) (revisions_from (n + 1) xs) (revision_rows n 1 (revisions y)) (revisions_from (n + 1) ys) size b in
    let all = revisions_same u n 1 (revisions x) (revisions y) h.0.lawful g.0.lawful own in
    let flags = flag_same x.pulled y.pulled n xs ys c in
    let one = sentence_is x y (ap (λ (r : SentenceRow). r.sent_id) row) (ap (λ (r : SentenceRow). r.batch) row) flags.0 (snoc_front x.before x.current y.before y.current all) (snoc_last x.before x.current y.before y.current all) in
    ap (λ z. z ∷ xs) one ∙ ap (λ l. y ∷ l) (sentences_same u (n + 1) xs ys h.1 g.1 rows others flags.1)

pub same_rows : IsOneList → (s t : Machine) → Reached s → Reached t → rows_of s ≡ rows_of t → s ≡ t
same_rows u s t r q e =
    machine_is s t (ap (λ (x : Rows). x.batches) e)
    (sentences_same u 1 s.sentences t.sentences (well s r).fine (well t q).fine (ap (λ (x : Rows). x.sentences) e) (ap (λ (x : Rows). x.revisions) e) (ap (λ (x : Rows). x.pulled) e))
    (ap (λ (x : Rows). x.moves) e)
