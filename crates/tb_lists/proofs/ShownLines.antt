-- What the rows and the current revisions show of a batch's sentences is what the state has of them.
use Rattle.std.proofs.Common.{◌≡◌, ℕ, zero, suc, ◌+◌, ◌<◌, List, [], ◌∷◌, ◌++◌, map, drop, length, get_or, Bool, true, false, cond, nat_eq, Some, slice_get, refl, sym, ap, subst, ◌∙◌, arith, append_assoc}
use Rattle.std.specs.List.{AllByRecursion}
use Rattle.sqlite.specs.Held.{Held, state}
use Rattle.sqlite.specs.State.{HasCleanDisk}
use Rattle.sqlite.specs.Store.{Ghosts}
use Rattle.sqlite_trees.specs.Tree.{IsAscending}
use Rattle.tb_conllu.specs.Text.{BlockText, text_of}
use Rattle.tb_conllu.specs.Reported.{IsFile}
use Rattle.tb_core.specs.Machine as machine
use Rattle.tb_core.specs.Machine.{Machine, Sentence, bodies_of, rev, words, text_value_of}
use Rattle.tb_core.specs.Rows.{pulled_from}
use Rattle.tb_core.proofs.Weights.{all_there}
use Rattle.tb_tables.specs.Records as records
use Rattle.tb_tables.specs.Values.{sentence_of}
use Rattle.tb_tables.specs.declared.rows.SentenceRow.{SentenceRow}
use Rattle.tb_reads.specs.ReadOnly.{IsReadOnly}
use Rattle.tb_refine.specs.DeskTables.{IsDeskOf, sentence_record}
use Rattle.tb_refine.specs.Listed.{is_listed}
use Rattle.tb_refine.proofs.Listing.{listed_pulled, pulled_ascends}
use Rattle.tb_refine.proofs.RowsOfState.{ReadsBack}
use Rattle.tb_lists.specs.Sentences.{SentenceText, sentence_line, sentences_from}
use Rattle.tb_lists.specs.Shown.{shown}

-- ---- the current revision

last_body : (P : BlockText → Type 0) (rs : List machine.Revision) (r : machine.Revision) → AllByRecursion P (map (λ (q : machine.Revision). q.body) (rs ++ r ∷ [])) → P r.body
last_body P [] r h = h.0
last_body P (q ∷ rs) r h = last_body P rs r h.1

-- its text is a file of it alone
pub current_file : (s : Machine) (place : ℕ) (x : Sentence) (text : List ℕ) → AllByRecursion (λ (y : Sentence). AllByRecursion ReadsBack (bodies_of y)) s.sentences
    → slice_get s.sentences place ≡ Some x → text ≡ text_of (x.current.body ∷ []) → IsFile text (x.current.body ∷ [])
current_file s place x text all there is =
    let back = last_body ReadsBack x.before x.current (all_there (λ (y : Sentence). AllByRecursion ReadsBack (bodies_of y)) s.sentences place x there all) in
    subst (λ t. IsFile t (x.current.body ∷ [])) (sym is) back.1

-- ---- one sentence

pub line_is : (n : ℕ) (r : records.Sentence) (x : Sentence) (p : Bool) (who : List ℕ) → r ≡ sentence_record x → p ≡ x.pulled → who ≡ x.current.who → shown n r p who (text_value_of x.current.body) ≡ sentence_line n x
line_is n r x p who row flag by = λ i. record {
  no = n;
  sent_id = (row i).sent_id;
  rev = (row i).rev;
  who = by i;
  words = (row i).words;
  pulled = flag i;
  text = text_value_of x.current.body;
}

pub row_there : (rows : List SentenceRow) (xs : List Sentence) (i : ℕ) (row : SentenceRow) → i < length rows → row ≡ get_or rows i row → map sentence_of rows ≡ map sentence_record xs
    → (x : Sentence) × (slice_get xs i ≡ Some x) × (drop i xs ≡ x ∷ drop (i + 1) xs) × (sentence_of row ≡ sentence_record x)
row_there [] xs i row low is same = absurd (omega (arith, low))
row_there (r ∷ rows) [] i row low is same = absurd cc
row_there (r ∷ rows) (x ∷ xs) zero row low is same = (x, refl, refl, ap sentence_of is ∙ (let head : sentence_of r ≡ sentence_record x = cc in head))
row_there (r ∷ rows) (x ∷ xs) (suc i) row low is same =
    let it = row_there rows xs i row (omega (arith, low)) is (let tail : map sentence_of rows ≡ map sentence_record xs = cc in tail) in
    (it.0, it.1, it.2 ∙ ap (λ m. it.0 ∷ drop m (x ∷ xs)) (let e : suc (i + 1) ≡ suc i + 1 = omega arith in e), it.3)

-- what the pulled numbers say of it
pub flag_is : (pulled : List ℕ) (n i : ℕ) (xs : List Sentence) (x : Sentence) (flag : Bool) → pulled ≡ pulled_from 1 xs → slice_get xs i ≡ Some x → n ≡ i + 1 → (IsAscending (λ a b. a < b) pulled → flag ≡ is_listed n pulled) → flag ≡ x.pulled
flag_is pulled n i xs x flag is there at reported =
    let up : IsAscending (λ a b. a < b) pulled = subst (IsAscending (λ a b. a < b)) (sym is) (pulled_ascends 1 xs) in
    let here : n ≡ 1 + i = omega (arith, at) in
    reported up ∙ ap (λ k. is_listed k pulled) here ∙ ap (is_listed (1 + i)) is ∙ listed_pulled (1 + i) 1 xs i x refl there

-- ---- one turn

-- what holds after so many rows
abbrev pub IsSoFar : {S : Type 0} (g : Ghosts S) (old new : Held S) (pulled : List ℕ) (rows : List SentenceRow) (batch i : ℕ) (lines : List SentenceText) → Type 0
IsSoFar g old new pulled rows batch i lines = IsReadOnly g old new true
    × (HasCleanDisk (state g new) → (s : Machine) → IsDeskOf g old s → (pulled ≡ pulled_from 1 s.sentences)
    × (map sentence_of rows ≡ map sentence_record s.sentences → lines ++ sentences_from batch (i + 1) (drop i s.sentences) ≡ sentences_from batch 1 s.sentences))

pub with_line : (batch i : ℕ) (xs : List Sentence) (x : Sentence) (line : SentenceText) (found new : List SentenceText) → drop i xs ≡ x ∷ drop (i + 1) xs → nat_eq x.batch batch ≡ true → line ≡ sentence_line (i + 1) x
    → new ≡ found ++ line ∷ [] → found ++ sentences_from batch (i + 1) (drop i xs) ≡ sentences_from batch 1 xs → new ++ sentences_from batch (i + 1 + 1) (drop (i + 1) xs) ≡ sentences_from batch 1 xs
with_line batch i xs x line found new next its line_is new_is was =
    let rest = sentences_from batch (i + 1 + 1) (drop (i + 1) xs) in
    ap (λ l. l ++ rest) (new_is ∙ ap (λ y. found ++ y ∷ []) line_is)
    ∙ append_assoc found (sentence_line (i + 1) x ∷ []) rest
    ∙ ap (λ t. found ++ cond t (sentence_line (i + 1) x ∷ rest) rest) (sym its)
    ∙ ap (λ l. found ++ sentences_from batch (i + 1) l) (sym next) ∙ was

pub without_line : (batch i : ℕ) (xs : List Sentence) (x : Sentence) (found : List SentenceText) → drop i xs ≡ x ∷ drop (i + 1) xs → nat_eq x.batch batch ≡ false
    → found ++ sentences_from batch (i + 1) (drop i xs) ≡ sentences_from batch 1 xs → found ++ sentences_from batch (i + 1 + 1) (drop (i + 1) xs) ≡ sentences_from batch 1 xs
without_line batch i xs x found next others was =
    let rest = sentences_from batch (i + 1 + 1) (drop (i + 1) xs) in
    ap (λ t. found ++ cond t (sentence_line (i + 1) x ∷ rest) rest) (sym others)
    ∙ ap (λ l. found ++ sentences_from batch (i + 1) l) (sym next) ∙ was
