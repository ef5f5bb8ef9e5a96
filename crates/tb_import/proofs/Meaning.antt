-- What is planned of an import is the act of the machine.
use Rattle.std.proofs.Common.{◌≡◌, ℕ, ◌+◌, ◌<◌, List, [], ◌∷◌, ◌++◌, length, map, get_or, take, sym, ap, ap₂, subst, ◌∙◌, arith}
use Rattle.std.specs.Prelude.{sum_by}
use Rattle.std.proofs.lemmas.List.{take_more}
use Rattle.std.proofs.lemmas.List.{map-append}
use Rattle.sqlite_trees.proofs.ListLemmas.{map-map}
use Rattle.tb_conllu.specs.Text.{BlockText}
use Rattle.tb_core.specs.declared.replies.Imported.{Imported}
use Rattle.tb_core.specs.Machine.{Machine, one, words}
use Rattle.tb_core.specs.Acts.{importing, move_of, enters}
use Rattle.tb_core.specs.declared.refusals.Refusal.{Refusal}
use Rattle.tb_core.specs.declared.refusals.Fault.{Fault}
use Rattle.tb_core.specs.declared.refusals.Fault.TheVariants.{Refused, Memory, Device, NotADesk, Output}
use Rattle.tb_core.specs.Commands.{Reply, imported, moved_on, corrected_to, pulled_out, restored_to, reply_to}
use Rattle.tb_core.specs.Taking.{NewSentenceText, taken_of, IsTakingFault}
use Rattle.tb_tables.specs.Commands.{NewSentenceRecord}
use Rattle.tb_refine.specs.Written.{item_of}
use Rattle.tb_refine.specs.Faults.{IsNoDevice}
use Rattle.tb_import.specs.Planned.{item_reported, import_move}
use Rattle.tb_import.proofs.Counting.{its_words, words_are, new_words_are, new_count}

-- ---- the sentences that are written

pub one_reported : (ts : List NewSentenceText) (i : ℕ) (t : NewSentenceText) (old new : List NewSentenceRecord) (x : NewSentenceRecord) → i < length ts → t ≡ get_or ts i t → x ≡ item_reported t → new ≡ old ++ x ∷ [] → old ≡ map item_reported (take i ts) → new ≡ map item_reported (take (i + 1) ts)
one_reported ts i t old new x low at is more before =
    let longer : take (i + 1) ts ≡ take i ts ++ t ∷ [] = take_more ts i t low ∙ ap (λ (u : NewSentenceText). take i ts ++ u ∷ []) (sym at) in
    more ∙ ap₂ (λ l y. l ++ y ∷ []) before is ∙ sym (map-append item_reported (take i ts) (t ∷ [])) ∙ ap (map item_reported) (sym longer)

pub items_are : (bs : List BlockText) (ts : List NewSentenceText) → ts ≡ map taken_of bs → map item_reported ts ≡ map item_of bs
items_are bs ts is = ap (map item_reported) is ∙ map-map item_reported taken_of bs

-- ---- the move and the reply

words_enter : (s : Machine) (name user : List ℕ) (bs : List BlockText) (w : ℕ) → w ≡ sum_by its_words (map taken_of bs) → w ≡ enters words s (importing name user bs)
words_enter s name user bs w is = is ∙ words_are bs ∙ new_words_are (length s.batches + 1) user bs

pub import_is : (s : Machine) (name user : List ℕ) (bs : List BlockText) (moves number count w : ℕ) → moves ≡ length s.moves + 1 → number ≡ 1 + length s.batches → count ≡ length bs → w ≡ sum_by its_words (map taken_of bs)
    → import_move moves number count w user ≡ move_of s (importing name user bs)
import_is s name user bs moves number count w counted at many summed =
    let place : number ≡ length s.batches + 1 = omega (arith, at) in
    let sentences : count ≡ enters one s (importing name user bs) = many ∙ sym (new_count (length s.batches + 1) user bs) in
    ap (λ n. import_move n number count w user) counted ∙ ap (λ n. import_move (length s.moves + 1) n count w user) place
    ∙ ap (λ n. import_move (length s.moves + 1) (length s.batches + 1) n w user) sentences
    ∙ ap (λ n. import_move (length s.moves + 1) (length s.batches + 1) (enters one s (importing name user bs)) n user) (words_enter s name user bs w summed)

abbrev reported_by : ℕ → ℕ → ℕ → ℕ → Imported
reported_by n first sentences words = record { batch = n; first = first; sentences = sentences; words = words }

pub answer_is : (s : Machine) (name user : List ℕ) (bs : List BlockText) (number first count w : ℕ) → number ≡ 1 + length s.batches → first ≡ 1 + length s.sentences → count ≡ length bs → w ≡ sum_by its_words (map taken_of bs)
    → imported (reported_by number first count w) ≡ reply_to s (importing name user bs)
answer_is s name user bs number first count w at start many summed =
    let place : number ≡ length s.batches + 1 = omega (arith, at) in
    let from : first ≡ length s.sentences + 1 = omega (arith, start) in
    ap (λ n. imported (reported_by n first count w)) place ∙ ap (λ n. imported (reported_by (length s.batches + 1) n count w)) from
    ∙ ap (λ n. imported (reported_by (length s.batches + 1) (length s.sentences + 1) n w)) many
    ∙ ap (λ n. imported (reported_by (length s.batches + 1) (length s.sentences + 1) (length bs) n)) (words_enter s name user bs w summed)

-- ---- refusals and replies

pub taking_refused : (P : Refusal → Type 0) (e : Fault) (r : Refusal) → e ≡ Refused r → IsTakingFault P e → P r
taking_refused P e r is h = subst (IsTakingFault P) is h

pub taking_clear : (P : Refusal → Type 0) (e : Fault) → IsTakingFault P e → IsNoDevice e
taking_clear P (Refused r) h is = absurd cc
taking_clear P Memory h is = absurd cc
taking_clear P Device h is = h
taking_clear P NotADesk h is = h
taking_clear P Output h is = h

abbrev pub reported_sentences : Reply → ℕ
reported_sentences (imported r) = r.sentences
reported_sentences (moved_on r) = 0
reported_sentences (corrected_to r) = 0
reported_sentences (pulled_out r) = 0
reported_sentences (restored_to r) = 0
