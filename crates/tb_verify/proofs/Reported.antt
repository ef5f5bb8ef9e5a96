-- Rows are those of one list of sentences.
use Rattle.std.proofs.Common.{◌≡◌, ℕ, ◌+◌, List, [], ◌∷◌, ◌++◌, length, map, take, drop, Bool, refl, sym, ◌∙◌, ap, arith, length-append}
use Rattle.std.specs.List.{AllByRecursion}
use Rattle.tb_core.specs.Machine as machine
use Rattle.tb_core.specs.Machine.{IsLawful, revisions}
use Rattle.tb_core.specs.Rows.{revision_rows}
use Rattle.tb_core.proofs.Lists.{head_is, tail_is}
use Rattle.tb_core.proofs.Same.{IsOneList}
use Rattle.tb_refine.specs.DeskTables.{revision_record}
use Rattle.tb_tables.specs.Records.{Sentence, Revision}
use Rattle.tb_verify.specs.Course.{IsReadBack, own_text}
use Rattle.tb_verify.specs.File.{AreReadBack, is_next, after_next}
use Rattle.tb_verify.proofs.Filed.{first_and_rest}
use Rattle.tb_verify.proofs.Rereading.{body_in, one_body}

abbrev pub row_reported : ℕ → ℕ → machine.Revision → Revision
row_reported n k r = revision_record (record { sent = n; rev = k; who = r.who; body = own_text r.body })

one_revision : IsOneList → (n k : ℕ) (r q : machine.Revision) → IsLawful r.body → IsLawful q.body → row_reported n k r ≡ row_reported n k q → r ≡ q
one_revision u n k r q h g e =
    let who : r.who ≡ q.who = ap (λ (z : Revision). z.who) e in
    let body = one_body u r.body q.body h g (ap (λ (z : Revision). z.body) e) in
    let first : machine.Revision = record { who = q.who; body = r.body } in
    let step : r ≡ first = ap (λ w. let z : machine.Revision = record { who = w; body = r.body } in z) who in
    step ∙ ap (λ b. let z : machine.Revision = record { who = q.who; body = b } in z) body

one_history : IsOneList → (n k : ℕ) (rs qs : List machine.Revision) → AllByRecursion IsLawful (map body_in rs) → AllByRecursion IsLawful (map body_in qs)
    → map revision_record (revision_rows n k rs) ≡ map revision_record (revision_rows n k qs) → rs ≡ qs
one_history u n k [] [] h g e = refl
one_history u n k [] (q ∷ qs) h g e = let s = ap length e in absurd (omega (arith, s))
one_history u n k (r ∷ rs) [] h g e = let s = ap length e in absurd (omega (arith, s))
one_history u n k (r ∷ rs) (q ∷ qs) h g e =
    let later = map revision_record (revision_rows n (k + 1) rs) in
    let others = map revision_record (revision_rows n (k + 1) qs) in
    ap (λ z. z ∷ rs) (one_revision u n k r q h.0 g.0 (head_is (row_reported n k r) (row_reported n k q) later others e))
    ∙ ap (λ l. q ∷ l) (one_history u n (k + 1) rs qs h.1 g.1 (tail_is (row_reported n k r) (row_reported n k q) later others e))

-- lists that end by one element
ends : {X : Type 0} (xs ys : List X) (x y : X) → xs ++ x ∷ [] ≡ ys ++ y ∷ [] → (xs ≡ ys) × (x ≡ y)
ends [] [] x y e = (refl, head_is x y [] [] e)
ends [] (b ∷ ys) x y e = let s = ap length e in let t = length-append ys (y ∷ []) in absurd (omega (arith, s, t))
ends (a ∷ xs) [] x y e = let s = ap length e in let t = length-append xs (x ∷ []) in absurd (omega (arith, s, t))
ends (a ∷ xs) (b ∷ ys) x y e =
    let rest = ends xs ys x y (tail_is a b (xs ++ x ∷ []) (ys ++ y ∷ []) e) in
    (ap (λ z. z ∷ xs) (head_is a b (xs ++ x ∷ []) (ys ++ y ∷ []) e) ∙ ap (λ l. b ∷ l) rest.0, rest.1)

abbrev pub made : List ℕ → ℕ → Bool → List machine.Revision → machine.Revision → machine.Sentence
made sent_id batch pulled before current = record { sent_id = sent_id; batch = batch; pulled = pulled; before = before; current = current }

one_sentence : IsOneList → (n : ℕ) (reported : Sentence) (flag : Bool) (rs : List Revision) (x y : machine.Sentence) → IsReadBack n reported flag rs x → IsReadBack n reported flag rs y → x ≡ y
one_sentence u n reported flag rs x y h g =
    let row = h.row ∙ sym g.row in
    let sent_id : x.sent_id ≡ y.sent_id = ap (λ (z : Sentence). z.sent_id) row in
    let batch : x.batch ≡ y.batch = ap (λ (z : Sentence). z.batch) row in
    let pulled = h.pulled ∙ sym g.pulled in
    let parts = ends x.before y.before x.current y.current (one_history u n 1 (revisions x) (revisions y) h.fine.lawful g.fine.lawful (h.revised ∙ sym g.revised)) in
    ap (λ z. made z x.batch x.pulled x.before x.current) sent_id ∙ ap (λ z. made y.sent_id z x.pulled x.before x.current) batch ∙ ap (λ z. made y.sent_id y.batch z x.before x.current) pulled
    ∙ ap (λ z. made y.sent_id y.batch y.pulled z x.current) parts.0 ∙ ap (λ z. made y.sent_id y.batch y.pulled y.before z) parts.1

pub one_file : IsOneList → (n : ℕ) (reported : List Sentence) (flags : List ℕ) (rows : List Revision) (xs ys : List machine.Sentence) → AreReadBack n reported flags rows xs → AreReadBack n reported flags rows ys → xs ≡ ys
one_file u n [] flags rows [] [] h g = refl
one_file u n [] flags rows [] (y ∷ ys) h g = let s = ap length g.sentences in absurd (omega (arith, s))
one_file u n [] flags rows (x ∷ xs) ys h g = let s = ap length h.sentences in absurd (omega (arith, s))
one_file u n (s ∷ ss) flags rows [] ys h g = let e = ap length h.sentences in absurd (omega (arith, e))
one_file u n (s ∷ ss) flags rows (x ∷ xs) [] h g = let e = ap length g.sentences in absurd (omega (arith, e))
one_file u n (s ∷ ss) flags rows (x ∷ xs) (y ∷ ys) h g =
    let a = first_and_rest n s ss flags rows x xs h in
    let b = first_and_rest n s ss flags rows y ys g in
    ap (λ z. z ∷ xs) (one_sentence u n s (is_next n flags) (take s.rev rows) x y a.0 b.0) ∙ ap (λ l. y ∷ l) (one_file u (n + 1) ss (after_next n flags) (drop s.rev rows) xs ys a.1 b.1)
