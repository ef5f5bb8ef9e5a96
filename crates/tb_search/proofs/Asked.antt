-- The revisions that a walk asks for are the current ones of the sentences that are wanted.
use Rattle.std.proofs.Common.{◌≡◌, ℕ, suc, ◌+◌, ◌<◌, List, [], ◌∷◌, ◌++◌, map, filter, length, Bool, true, false, cond, ◌&&◌, nat_eq, refl, ap, ◌∙◌, arith}
use Rattle.std.proofs.lemmas.Bool.Decides.{nat_tests}
use Rattle.tb_conllu.specs.Text.{text_of}
use Rattle.tb_core.specs.Machine as machine
use Rattle.tb_core.specs.Machine.{Sentence, revisions, rev}
use Rattle.tb_core.specs.Rows.{RevisionRow, revision_rows, revisions_from}
use Rattle.tb_tables.specs.Records.{Revision}
use Rattle.tb_refine.specs.DeskTables.{revision_record, sentence_record}
use Rattle.tb_reads.specs.Found.{work_of}
use Rattle.tb_search.specs.declared.picks.Pick.{Pick}
use Rattle.tb_search.specs.Picked.{picked, bodies, picks_from, pick_of}
use Rattle.tb_search.specs.Visited.{texts}

abbrev body_of : Revision → List ℕ
body_of r = r.body

abbrev pub text : Sentence → List ℕ
text x = text_of (x.current.body ∷ [])

-- none of them is asked for of this sentence first
abbrev BeginsPast : ℕ → List Pick → Type 0
BeginsPast n [] = Unit {0}
BeginsPast n (p ∷ ps) = nat_eq p.sent n ≡ false

skips : (n k : ℕ) (rs : List machine.Revision) (ps : List Pick) (tail : List RevisionRow) → BeginsPast n ps → picked ps (map revision_record (revision_rows n k rs ++ tail)) ≡ picked ps (map revision_record tail)
skips n k rs [] tail h = refl
skips n k [] (p ∷ ps) tail h = refl
skips n k (r ∷ rs) (p ∷ ps) tail h =
    let here : Revision = record { sent = n; rev = k; who = r.who; body = text_of (r.body ∷ []) } in
    let more = map revision_record (revision_rows n (k + 1) rs ++ tail) in
    ap (λ b. cond (b && nat_eq p.rev k) (here ∷ picked ps more) (picked (p ∷ ps) more)) h ∙ skips n (k + 1) rs (p ∷ ps) tail h

takes : (n k m : ℕ) (before : List machine.Revision) (q : machine.Revision) (ps : List Pick) (tail : List RevisionRow) → m ≡ k + length before
    → map body_of (picked (record { sent = n; rev = m } ∷ ps) (map revision_record (revision_rows n k (before ++ q ∷ []) ++ tail))) ≡ text_of (q.body ∷ []) ∷ map body_of (picked ps (map revision_record tail))
takes n k m [] q ps tail e =
    let here : Revision = record { sent = n; rev = k; who = q.who; body = text_of (q.body ∷ []) } in
    let rest = map revision_record tail in
    let same : nat_eq n n ≡ true = grind (arith, nat_tests) in
    let one : m ≡ k = omega (arith, e) in
    let also : nat_eq m k ≡ true = grind (arith, nat_tests, one) in
    ap (λ b. map body_of (cond (b && nat_eq m k) (here ∷ picked ps rest) (picked (record { sent = n; rev = m } ∷ ps) rest))) same ∙ ap (λ b. map body_of (cond b (here ∷ picked ps rest) (picked (record { sent = n; rev = m } ∷ ps) rest))) also
takes n k m (r ∷ before) q ps tail e =
    let here : Revision = record { sent = n; rev = k; who = r.who; body = text_of (r.body ∷ []) } in
    let more = map revision_record (revision_rows n (k + 1) (before ++ q ∷ []) ++ tail) in
    let same : nat_eq n n ≡ true = grind (arith, nat_tests) in
    let past : k < m = omega (arith, e) in
    let other : nat_eq m k ≡ false = grind (arith, nat_tests, past) in
    ap (λ b. map body_of (cond (b && nat_eq m k) (here ∷ picked ps more) (picked (record { sent = n; rev = m } ∷ ps) more))) same
    ∙ ap (λ b. map body_of (cond b (here ∷ picked ps more) (picked (record { sent = n; rev = m } ∷ ps) more))) other
    ∙ takes n (k + 1) m before q ps tail (omega (arith, e))

begins_past : (wanted : Sentence → Bool) (n m : ℕ) (xs : List Sentence) → n < m → BeginsPast n (picks_from wanted m xs)
begins_past wanted n m [] low = tt
begins_past wanted n m (x ∷ xs) low = by (begins_past wanted n (m + 1) xs (omega (arith, low))) (wanted x)
  where
    by : BeginsPast n (picks_from wanted (m + 1) xs) → (b : Bool) → BeginsPast n (cond b (record { sent = m; rev = rev x } ∷ picks_from wanted (m + 1) xs) (picks_from wanted (m + 1) xs))
    by later true = grind (arith, nat_tests, low)
    by later false = later

-- the bodies that are asked for are the texts of the sentences that are wanted
pub currents : (wanted : Sentence → Bool) (n : ℕ) (xs : List Sentence) → bodies (picked (picks_from wanted n xs) (map revision_record (revisions_from n xs))) ≡ texts (filter wanted xs)
currents wanted n [] = refl
currents wanted n (x ∷ xs) = by (currents wanted (n + 1) xs) (wanted x)
  where
    by : map body_of (picked (picks_from wanted (n + 1) xs) (map revision_record (revisions_from (n + 1) xs))) ≡ map text (filter wanted xs) → (b : Bool)
        → map body_of (picked (cond b (record { sent = n; rev = rev x } ∷ picks_from wanted (n + 1) xs) (picks_from wanted (n + 1) xs)) (map revision_record (revision_rows n 1 (revisions x) ++ revisions_from (n + 1) xs))) ≡ map text (cond b (x ∷ filter wanted xs) (filter wanted xs))
    by later true = takes n 1 (rev x) x.before x.current (picks_from wanted (n + 1) xs) (revisions_from (n + 1) xs) (omega arith) ∙ ap (λ l. text x ∷ l) later
    by later false = ap (map body_of) (skips n 1 (revisions x) (picks_from wanted (n + 1) xs) (revisions_from (n + 1) xs) (begins_past wanted n (n + 1) xs (omega arith))) ∙ later

-- ---- those of a batch

pub batch_asked : (batch n : ℕ) (xs : List Sentence) → map pick_of (work_of batch n (map sentence_record xs)) ≡ picks_from (λ (x : Sentence). nat_eq x.batch batch) n xs
batch_asked batch n [] = refl
batch_asked batch n (x ∷ xs) = by (batch_asked batch (suc n) xs) (nat_eq x.batch batch) ∙ ap (λ m. cond (nat_eq x.batch batch) (record { sent = n; rev = rev x } ∷ picks_from (λ (y : Sentence). nat_eq y.batch batch) m xs) (picks_from (λ (y : Sentence). nat_eq y.batch batch) m xs)) (let next : suc n ≡ n + 1 = omega arith in next)
  where
    by : map pick_of (work_of batch (suc n) (map sentence_record xs)) ≡ picks_from (λ (y : Sentence). nat_eq y.batch batch) (suc n) xs → (b : Bool)
        → map pick_of (cond b (record { number = n; rev = rev x; words = machine.words x } ∷ work_of batch (suc n) (map sentence_record xs)) (work_of batch (suc n) (map sentence_record xs)))
        ≡ cond b (record { sent = n; rev = rev x } ∷ picks_from (λ (y : Sentence). nat_eq y.batch batch) (suc n) xs) (picks_from (λ (y : Sentence). nat_eq y.batch batch) (suc n) xs)
    by later true = ap (λ l. record { sent = n; rev = rev x } ∷ l) later
    by later false = later
