-- The rows of one sentence tell it, where the tests hold; and they hold of the rows of each sentence.
use Rattle.std.proofs.Common.{◌≡◌, ℕ, suc, ◌+◌, ◌-◌, ◌<◌, List, [], ◌∷◌, ◌++◌, length, map, Bool, true, false, ◌&&◌, Some, refl, sym, ◌∙◌, ap, subst, arith, length-append}
use Rattle.std.specs.Prelude.{not, bytes_eq, nat_eq, slice_get}
use Rattle.std.specs.List.{list_all, AllByRecursion}
use Rattle.std.proofs.lemmas.Bool.Decides.{Decides-eqb}
use Rattle.std.proofs.lemmas.Slice.Eq.{bytes_eq-Decides}
use Rattle.tb_conllu.specs.Text.{BlockText}
use Rattle.tb_conllu.specs.Reported.{IsFile}
use Rattle.tb_conllu.specs.Words.{words_of}
use Rattle.tb_core.specs.Machine as machine
use Rattle.tb_core.specs.Machine.{IsLawful, revisions, bodies_of, sent_id_of, text_value_of}
use Rattle.tb_core.specs.Keeping.{IsFine}
use Rattle.tb_core.specs.Rows.{revision_rows}
use Rattle.tb_core.proofs.Lists.{head_is, tail_is, map-joined, get_seam}
use Rattle.tb_core.proofs.Same.{IsOneList}
use Rattle.tb_replay.specs.Summaries.{RevisionRow, SummaryRow, row_of, entry_of}
use Rattle.tb_refine.specs.DeskTables.{sentence_record, revision_record}
use Rattle.tb_tables.specs.Records.{Sentence, Revision}
use Rattle.tb_verify.specs.Course.{IsReadBack, own_text, is_numbered, are_numbered, are_new, is_titled, is_spelled, ends_as, is_reported, is_course, text_in, rows_reported}

abbrev pub body_in : machine.Revision → BlockText
body_in r = r.body

abbrev pub text_under : machine.Revision → List ℕ
text_under r = own_text r.body

-- a sentence alone is a file of its text
pub own_file : (b : BlockText) (f : List ℕ) → IsLawful b → own_text b ≡ f → IsFile f (b ∷ [])
own_file b f h e = record { shaped = (h.shaped, tt); text = sym e }

-- ---- tests

pub first_true : (a b : Bool) → (a && b) ≡ true → a ≡ true
first_true true b h = refl
first_true false b h = h

pub second_true : (a b : Bool) → (a && b) ≡ true → b ≡ true
second_true true b h = h
second_true false b h = absurd (let d : false ≡ true = h in cc)

pub both : (a b : Bool) → a ≡ true → b ≡ true → (a && b) ≡ true
both true b h g = g
both false b h g = h

not_true : (a : Bool) → (a ≡ true → ⊥) → not a ≡ true
not_true true h = absurd (h refl)
not_true false h = refl

untrue : (a : Bool) → not a ≡ true → a ≡ true → ⊥
untrue true h g = let d : false ≡ true = h in cc
untrue false h g = let d : false ≡ true = g in cc

all_from : {X : Type 0} (t : X → Bool) (P : X → Type 0) → ((x : X) → t x ≡ true → P x) → (xs : List X) → list_all t xs ≡ true → AllByRecursion P xs
all_from t P f [] h = tt
all_from t P f (x ∷ xs) h = (f x (first_true (t x) (list_all t xs) h), all_from t P f xs (second_true (t x) (list_all t xs) h))

all_to : {X : Type 0} (t : X → Bool) (P : X → Type 0) → ((x : X) → P x → t x ≡ true) → (xs : List X) → AllByRecursion P xs → list_all t xs ≡ true
all_to t P f [] h = refl
all_to t P f (x ∷ xs) h = both (t x) (list_all t xs) (f x h.0) (all_to t P f xs h.1)

-- ---- lists

last_split : {X : Type 0} (xs : List X) → 0 < length xs → (before : List X) × (x : X) × (xs ≡ before ++ x ∷ [])
last_split [] l = absurd (omega (arith, l))
last_split (x ∷ []) l = ([], x, refl)
last_split (x ∷ y ∷ xs) l = let p = last_split (y ∷ xs) (omega arith) in (x ∷ p.0, p.1, ap (λ z. x ∷ z) p.2)

last_got : {X : Type 0} (before : List X) (x : X) → slice_get (before ++ x ∷ []) (length (before ++ x ∷ []) - 1) ≡ Some x
last_got before x =
    let n = length-append before (x ∷ []) in
    let i : length (before ++ x ∷ []) - 1 ≡ length before = omega (arith, n) in
    ap (λ j. slice_get (before ++ x ∷ []) j) i ∙ get_seam before x

length_mapped : {X Y : Type 0} (f : X → Y) (xs : List X) → length (map f xs) ≡ length xs
length_mapped f [] = refl
length_mapped f (x ∷ xs) = ap suc (length_mapped f xs)

-- ---- texts

pub one_body : IsOneList → (a b : BlockText) → IsLawful a → IsLawful b → own_text a ≡ own_text b → a ≡ b
one_body u a b h g e = head_is a b [] [] (u (own_text a) (a ∷ []) (b ∷ []) (own_file a (own_text a) h refl) (own_file b (own_text a) g (sym e)))

one_course : IsOneList → (bs cs : List BlockText) → AllByRecursion IsLawful bs → AllByRecursion IsLawful cs → map own_text bs ≡ map own_text cs → bs ≡ cs
one_course u [] [] h g e = refl
one_course u [] (c ∷ cs) h g e = let s = ap length e in absurd (omega (arith, s))
one_course u (b ∷ bs) [] h g e = let s = ap length e in absurd (omega (arith, s))
one_course u (b ∷ bs) (c ∷ cs) h g e =
    ap (λ z. z ∷ bs) (one_body u b c h.0 g.0 (head_is (own_text b) (own_text c) (map own_text bs) (map own_text cs) e))
    ∙ ap (λ l. c ∷ l) (one_course u bs cs h.1 g.1 (tail_is (own_text b) (own_text c) (map own_text bs) (map own_text cs) e))

-- neighbours differ
new_pairs : (ts : List (List ℕ)) → are_new ts ≡ true → (before : List (List ℕ)) (a b : List ℕ) (more : List (List ℕ)) → ts ≡ before ++ a ∷ b ∷ more → a ≡ b → ⊥
new_pairs [] h before a b more e s = let n = ap length e in let m = length-append before (a ∷ b ∷ more) in omega (arith, n, m)
new_pairs (x ∷ []) h before a b more e s = let n = ap length e in let m = length-append before (a ∷ b ∷ more) in omega (arith, n, m)
new_pairs (x ∷ y ∷ ts) h [] a b more e s =
    let t = tail_is x a (y ∷ ts) (b ∷ more) e in
    let same = head_is x a (y ∷ ts) (b ∷ more) e ∙ s ∙ sym (head_is y b ts more t) in
    untrue (bytes_eq x y) (first_true (not (bytes_eq x y)) (are_new (y ∷ ts)) h) ((bytes_eq-Decides x y).1 same)
new_pairs (x ∷ y ∷ ts) h (z ∷ before) a b more e s =
    new_pairs (y ∷ ts) (second_true (not (bytes_eq x y)) (are_new (y ∷ ts)) h) before a b more (tail_is x z (y ∷ ts) (before ++ a ∷ b ∷ more) e) s

new_of : IsOneList → (rs : List machine.Revision) → AllByRecursion IsLawful (map body_in rs)
    → ((before : List machine.Revision) (r q : machine.Revision) (more : List machine.Revision) → rs ≡ before ++ r ∷ q ∷ more → q.body ≡ r.body → ⊥) → are_new (map text_under rs) ≡ true
new_of u [] h n = refl
new_of u (r ∷ []) h n = refl
new_of u (r ∷ q ∷ rs) h n =
    both (not (bytes_eq (text_under r) (text_under q))) (are_new (map text_under (q ∷ rs)))
    (not_true (bytes_eq (text_under r) (text_under q)) (λ t. n [] r q rs refl (sym (one_body u r.body q.body h.0 h.1.0 ((bytes_eq-Decides (text_under r) (text_under q)).0 t)))))
    (new_of u (q ∷ rs) h.1 (λ before a b more e. n (r ∷ before) a b more (ap (λ l. r ∷ l) e)))

-- ---- the revisions that rows and sentences make

abbrev pub joined : List Revision → List BlockText → List machine.Revision
joined [] bs = []
joined (r ∷ rs) [] = []
joined (r ∷ rs) (b ∷ bs) = record { who = r.who; body = b } ∷ joined rs bs

revision_is : (r : Revision) (n k : ℕ) (t : List ℕ) → n ≡ r.sent → k ≡ r.rev → t ≡ r.body → let w : Revision = record { sent = n; rev = k; who = r.who; body = t } in w ≡ r
revision_is r n k t a b c =
    ap (λ z. let w : Revision = record { sent = z; rev = k; who = r.who; body = t } in w) a
    ∙ (ap (λ z. let w : Revision = record { sent = r.sent; rev = z; who = r.who; body = t } in w) b ∙ ap (λ z. let w : Revision = record { sent = r.sent; rev = r.rev; who = r.who; body = z } in w) c)

joined_rows : (n k : ℕ) (rs : List Revision) (bs : List BlockText) → map own_text bs ≡ map text_in rs → are_numbered n k rs ≡ true → map revision_record (revision_rows n k (joined rs bs)) ≡ rs
joined_rows n k [] bs e h = refl
joined_rows n k (r ∷ rs) [] e h = let s = ap length e in absurd (omega (arith, s))
joined_rows n k (r ∷ rs) (b ∷ bs) e h =
    let own = first_true (is_numbered n k r) (are_numbered n (k + 1) rs) h in
    let sent = (Decides-eqb r.sent n).0 (first_true (nat_eq r.sent n) (nat_eq r.rev k) own) in
    let rev = (Decides-eqb r.rev k).0 (second_true (nat_eq r.sent n) (nat_eq r.rev k) own) in
    let text = head_is (own_text b) r.body (map own_text bs) (map text_in rs) e in
    ap (λ z. z ∷ map revision_record (revision_rows n (k + 1) (joined rs bs))) (revision_is r n k (own_text b) (sym sent) (sym rev) text)
    ∙ ap (λ l. r ∷ l) (joined_rows n (k + 1) rs bs (tail_is (own_text b) r.body (map own_text bs) (map text_in rs) e) (second_true (is_numbered n k r) (are_numbered n (k + 1) rs) h))

joined_bodies : (rs : List Revision) (bs : List BlockText) → map own_text bs ≡ map text_in rs → map body_in (joined rs bs) ≡ bs
joined_bodies [] [] e = refl
joined_bodies [] (b ∷ bs) e = let s = ap length e in absurd (omega (arith, s))
joined_bodies (r ∷ rs) [] e = let s = ap length e in absurd (omega (arith, s))
joined_bodies (r ∷ rs) (b ∷ bs) e = ap (λ l. b ∷ l) (joined_bodies rs bs (tail_is (own_text b) r.body (map own_text bs) (map text_in rs) e))

pub reported_joined : (rs : List Revision) (bs : List BlockText) → rows_reported rs bs ≡ map row_of (joined rs bs)
reported_joined [] bs = refl
reported_joined (r ∷ rs) [] = refl
reported_joined (r ∷ rs) (b ∷ bs) = ap (λ l. row_of (record { who = r.who; body = b }) ∷ l) (reported_joined rs bs)

numbered_of : (n k : ℕ) (rs : List machine.Revision) → are_numbered n k (map revision_record (revision_rows n k rs)) ≡ true
numbered_of n k [] = refl
numbered_of n k (r ∷ rs) =
    both (nat_eq n n && nat_eq k k) (are_numbered n (k + 1) (map revision_record (revision_rows n (k + 1) rs))) (both (nat_eq n n) (nat_eq k k) ((Decides-eqb n n).1 refl) ((Decides-eqb k k).1 refl)) (numbered_of n (k + 1) rs)

texts_under : (n k : ℕ) (rs : List machine.Revision) → map text_in (map revision_record (revision_rows n k rs)) ≡ map text_under rs
texts_under n k [] = refl
texts_under n k (r ∷ rs) = ap (λ l. text_under r ∷ l) (texts_under n (k + 1) rs)

texts_of_bodies : (rs : List machine.Revision) → map own_text (map body_in rs) ≡ map text_under rs
texts_of_bodies [] = refl
texts_of_bodies (r ∷ rs) = ap (λ l. text_under r ∷ l) (texts_of_bodies rs)

-- a sentence that is read back has these texts
pub texts_back : (n : ℕ) (reported : Sentence) (flag : Bool) (rs : List Revision) (x : machine.Sentence) → IsReadBack n reported flag rs x → map own_text (bodies_of x) ≡ map text_in rs
texts_back n reported flag rs x h = texts_of_bodies (revisions x) ∙ sym (texts_under n 1 (revisions x)) ∙ ap (map text_in) h.revised

-- ---- the row

bodies_end : (x : machine.Sentence) → bodies_of x ≡ map body_in x.before ++ x.current.body ∷ []
bodies_end x = map-joined body_in x.before (x.current ∷ [])

last_body : (x : machine.Sentence) → slice_get (bodies_of x) (length (bodies_of x) - 1) ≡ Some x.current.body
last_body x = subst (λ l. slice_get l (length l - 1) ≡ Some x.current.body) (sym (bodies_end x)) (last_got (map body_in x.before) x.current.body)

count_bodies : (x : machine.Sentence) → length (bodies_of x) ≡ length x.before + 1
count_bodies x = length_mapped body_in (revisions x) ∙ length-append x.before (x.current ∷ [])

reported_of : (x : machine.Sentence) → IsFine x → is_reported (sentence_record x) (bodies_of x) ≡ true
reported_of x f =
    let bs = bodies_of x in
    let n = words_of x.current.body in
    let end = both (nat_eq n n) (list_all (is_spelled (text_value_of x.current.body)) bs) ((Decides-eqb n n).1 refl)
    (all_to (is_spelled (text_value_of x.current.body)) (λ (b : BlockText). text_value_of b ≡ text_value_of x.current.body) (λ b e. (bytes_eq-Decides (text_value_of b) (text_value_of x.current.body)).1 e) bs f.spelled) in
    let last = subst (λ o. ends_as n bs o ≡ true) (sym (last_body x)) end in
    both (list_all (is_titled x.sent_id) bs) (nat_eq (length bs) (length x.before + 1) && ends_as n bs (slice_get bs (length bs - 1)))
    (all_to (is_titled x.sent_id) (λ (b : BlockText). sent_id_of b ≡ x.sent_id) (λ b e. (bytes_eq-Decides (sent_id_of b) x.sent_id).1 e) bs f.titled)
    (both (nat_eq (length bs) (length x.before + 1)) (ends_as n bs (slice_get bs (length bs - 1))) ((Decides-eqb (length bs) (length x.before + 1)).1 (count_bodies x)) last)

-- the tests hold of the rows of each sentence
pub course_of : IsOneList → (n : ℕ) (reported : Sentence) (flag : Bool) (rs : List Revision) (x : machine.Sentence) → IsReadBack n reported flag rs x
    → (bs : List BlockText) → AllByRecursion IsLawful bs → map own_text bs ≡ map text_in rs → is_course n reported rs bs ≡ true
course_of u n reported flag rs x h bs lawful texts =
    let same = one_course u (bodies_of x) bs h.fine.lawful lawful (texts_back n reported flag rs x h ∙ sym texts) in
    let numbers = subst (λ l. are_numbered n 1 l ≡ true) h.revised (numbered_of n 1 (revisions x)) in
    let new = subst (λ t. are_new t ≡ true) (sym (texts_under n 1 (revisions x)) ∙ ap (map text_in) h.revised) (new_of u (revisions x) h.fine.lawful h.fine.new) in
    let row = subst (λ s. is_reported s bs ≡ true) h.row (subst (λ l. is_reported (sentence_record x) l ≡ true) same (reported_of x h.fine)) in
    both (are_numbered n 1 rs) (are_new (map text_in rs) && is_reported reported bs) numbers (both (are_new (map text_in rs)) (is_reported reported bs) new row)

-- ---- the sentence

some_end : (n : ℕ) (bs : List BlockText) → ends_as n bs (slice_get bs (length bs - 1)) ≡ true → 0 < length bs
some_end n [] h = absurd (let d : false ≡ true = h in cc)
some_end n (b ∷ bs) h = omega arith

row_is : (s : Sentence) (rev words : ℕ) → rev ≡ s.rev → words ≡ s.words → let w : Sentence = record { sent_id = s.sent_id; batch = s.batch; rev = rev; words = words } in w ≡ s
row_is s rev words p q =
    ap (λ z. let w : Sentence = record { sent_id = s.sent_id; batch = s.batch; rev = z; words = words } in w) p ∙ ap (λ z. let w : Sentence = record { sent_id = s.sent_id; batch = s.batch; rev = s.rev; words = z } in w) q

abbrev pub sentence_with : Sentence → Bool → List machine.Revision → machine.Revision → machine.Sentence
sentence_with reported flag before current = record { sent_id = reported.sent_id; batch = reported.batch; pulled = flag; before = before; current = current }

-- the sentence of rows of which the tests hold, cut before its last revision
back_with : (n : ℕ) (reported : Sentence) (flag : Bool) (rs : List Revision) (bs : List BlockText) (before : List machine.Revision) (current : machine.Revision) → joined rs bs ≡ before ++ current ∷ []
    → AllByRecursion IsLawful bs → map own_text bs ≡ map text_in rs → are_numbered n 1 rs ≡ true → are_new (map text_in rs) ≡ true → is_reported reported bs ≡ true → IsReadBack n reported flag rs (sentence_with reported flag before current)
back_with n reported flag rs bs before current cut lawful texts numbers new row =
    let x = sentence_with reported flag before current in
    let bodies : bodies_of x ≡ bs = ap (map body_in) (sym cut) ∙ joined_bodies rs bs texts in
    let rest = second_true (list_all (is_titled reported.sent_id) bs) (nat_eq (length bs) reported.rev && ends_as reported.words bs (slice_get bs (length bs - 1))) row in
    let titled = first_true (list_all (is_titled reported.sent_id) bs) (nat_eq (length bs) reported.rev && ends_as reported.words bs (slice_get bs (length bs - 1))) row in
    let count = (Decides-eqb (length bs) reported.rev).0 (first_true (nat_eq (length bs) reported.rev) (ends_as reported.words bs (slice_get bs (length bs - 1))) rest) in
    let last = subst (λ l. slice_get l (length l - 1) ≡ Some current.body) bodies (last_body x) in
    let end = subst (λ o. ends_as reported.words bs o ≡ true) last (second_true (nat_eq (length bs) reported.rev) (ends_as reported.words bs (slice_get bs (length bs - 1))) rest) in
    let many = (Decides-eqb (words_of current.body) reported.words).0 (first_true (nat_eq (words_of current.body) reported.words) (list_all (is_spelled (text_value_of current.body)) bs) end) in
    let spelled = second_true (nat_eq (words_of current.body) reported.words) (list_all (is_spelled (text_value_of current.body)) bs) end in
    let under = sym (texts_of_bodies (revisions x)) ∙ ap (map own_text) bodies ∙ texts in
    record {
      row = row_is reported (length before + 1) (words_of current.body) (sym (count_bodies x) ∙ ap length bodies ∙ count) many;
      pulled = refl;
      revised = ap (λ l. map revision_record (revision_rows n 1 l)) (sym cut) ∙ joined_rows n 1 rs bs texts numbers;
      fine = record {
        lawful = subst (AllByRecursion IsLawful) (sym bodies) lawful;
        titled = subst (AllByRecursion (λ (b : BlockText). sent_id_of b ≡ reported.sent_id)) (sym bodies)
            (all_from (is_titled reported.sent_id) (λ (b : BlockText). sent_id_of b ≡ reported.sent_id) (λ b t. (bytes_eq-Decides (sent_id_of b) reported.sent_id).0 t) bs titled);
        spelled = subst (AllByRecursion (λ (b : BlockText). text_value_of b ≡ text_value_of current.body)) (sym bodies)
            (all_from (is_spelled (text_value_of current.body)) (λ (b : BlockText). text_value_of b ≡ text_value_of current.body) (λ b t. (bytes_eq-Decides (text_value_of b) (text_value_of current.body)).0 t) bs spelled);
        new = λ front r q more e same.
            new_pairs (map text_under (revisions x)) (subst (λ t. are_new t ≡ true) (sym under) new) (map text_under front) (text_under r) (text_under q) (map text_under more)
            (ap (map text_under) e ∙ map-joined text_under front (r ∷ q ∷ more)) (ap own_text (sym same));
      };
    }

pub read_back : (n : ℕ) (reported : Sentence) (flag : Bool) (rs : List Revision) (bs : List BlockText) → AllByRecursion IsLawful bs → map own_text bs ≡ map text_in rs → is_course n reported rs bs ≡ true
    → (x : machine.Sentence) × IsReadBack n reported flag rs x × (x.batch ≡ reported.batch) × (revisions x ≡ joined rs bs)
read_back n reported flag rs bs lawful texts h =
    let numbers = first_true (are_numbered n 1 rs) (are_new (map text_in rs) && is_reported reported bs) h in
    let others = second_true (are_numbered n 1 rs) (are_new (map text_in rs) && is_reported reported bs) h in
    let new = first_true (are_new (map text_in rs)) (is_reported reported bs) others in
    let row = second_true (are_new (map text_in rs)) (is_reported reported bs) others in
    let rest = second_true (list_all (is_titled reported.sent_id) bs) (nat_eq (length bs) reported.rev && ends_as reported.words bs (slice_get bs (length bs - 1))) row in
    let some = some_end reported.words bs (second_true (nat_eq (length bs) reported.rev) (ends_as reported.words bs (slice_get bs (length bs - 1))) rest) in
    let count = sym (length_mapped body_in (joined rs bs)) ∙ ap length (joined_bodies rs bs texts) in
    let cut = last_split (joined rs bs) (omega (arith, some, count)) in
    (sentence_with reported flag cut.0 cut.1, back_with n reported flag rs bs cut.0 cut.1 cut.2 lawful texts numbers new row, refl, sym cut.2)

pub entry_is : (x : machine.Sentence) (batch : ℕ) (flag : Bool) (rs : List RevisionRow) → x.batch ≡ batch → x.pulled ≡ flag → rs ≡ map row_of (revisions x)
    → let w : SummaryRow = record { batch = batch; pulled = flag; revisions = rs } in w ≡ entry_of x
entry_is x batch flag rs p q r =
    ap (λ z. let w : SummaryRow = record { batch = z; pulled = flag; revisions = rs } in w) (sym p)
    ∙ (ap (λ z. let w : SummaryRow = record { batch = x.batch; pulled = z; revisions = rs } in w) (sym q) ∙ ap (λ z. let w : SummaryRow = record { batch = x.batch; pulled = x.pulled; revisions = z } in w) r)
