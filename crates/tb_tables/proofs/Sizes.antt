-- A row of the tables of a desk whose texts are short can be stored, with its entry in each index.
use Rattle.std.proofs.Common.{◌≡◌, ◌≤◌, ◌<◌, ◌+◌, ◌^◌, inl, inr, ℕ, ℤ, pos, negsuc, List, [], ◌∷◌, length, subst, arith, sum_by}
use Rattle.std.specs.List.{AllByRecursion}
use Rattle.std.specs.Float.{NotNan}
use Rattle.std.proofs.lemmas.List.Elements.{All-from_recursion}
use Rattle.std.proofs.lemmas.List.Sums.{sum_by-cons}
use Rattle.std.proofs.lemmas.Nat.Bits.{bit_at-zero}
use lib.Ieee.{is_nan}
use Rattle.sqlite.specs.declared.types.Value.TheVariants.{Null, Int, Text}
use Rattle.sqlite.specs.Order.{Row}
use Rattle.sqlite.specs.Table.{Table}
use Rattle.sqlite_value.specs.Order.{number, bytes}
use Rattle.sqlite_trees.specs.View.{IsStorable, IsStorableRow}
use Rattle.sqlite_sql.specs.Catalog.{entry_of}
use Rattle.sqlite_schema.specs.Rules.{table_reals, index_reals}
use Rattle.sqlite_rules.specs.Lists.{Has}
use Rattle.sqlite_rules.specs.Edit.{IsOversized, next_rowid}
use Rattle.sqlite_rules.proofs.ListLemmas.{all_has}
use Rattle.tb_tables.specs.Layout.{desk_schema, meta, batches, sentences, revisions, moves, totals, pulled}
use Rattle.tb_tables.specs.Records.{Batch, Sentence, Revision, Move, Total}
use Rattle.tb_tables.specs.Failing.{IsShort}
use Rattle.tb_tables.specs.Making.{no_total}
use Rattle.tb_tables.proofs.Filling.{six}
use Rattle.tb_tables.proofs.Meaning.{batch_stored, sentence_stored, revision_stored, move_stored, pulled_stored}

storable : (entry : Row) → (0 < length entry) × (length entry ≤ 2001) → AllByRecursion (λ v. NotNan (number v)) entry → sum_by (λ v. 18 + length (bytes v)) entry ≤ 10 ^ 9 → IsStorable 0 entry
storable entry columns fine short = record { typed = λ c set. absurd (omega (arith, bit_at-zero c)); columns = columns; numbers = All-from_recursion (λ v. NotNan (number v)) entry fine; short = short }

-- the one new row of an edit, and its entries
module _ (table : Table) (stored : Row) (fits : IsStorableRow (table_reals table) stored)
    (entries : AllByRecursion (λ i. i.table ≡ table.tree → IsStorable (index_reals (table_reals table) i.columns) (entry_of i.columns stored)) desk_schema.indexes) where
  never_big : IsOversized desk_schema table stored → ⊥
  never_big (inl row) = row fits
  never_big (inr (i, there, at, entry)) = entry (all_has (λ i. i.table ≡ table.tree → IsStorable (index_reals (table_reals table) i.columns) (entry_of i.columns stored)) desk_schema.indexes i entries there at)

  pub none_big : (row : Row) → Has (stored ∷ []) row → IsOversized desk_schema table row → ⊥
  none_big row (inl is) big = never_big (subst (IsOversized desk_schema table) is big)
  none_big row (inr none) big = none

abbrev total_stored : ℕ → Total → Row
total_stored n t = Int (pos n) ∷ Null ∷ Int (pos t.sentences) ∷ Int (pos t.words) ∷ []

-- an integer is a number
whole : (n : ℤ) → NotNan (number (Int n))
unfolding is_nan
whole (pos n) = tt
whole (negsuc n) = tt

-- a text of a batch is in its index too
pub batch_fits : (n : ℕ) (b : Batch) → IsShort b.name → IsShort b.worker → (row : Row) → Has (batch_stored n b ∷ []) row → IsOversized desk_schema batches row → ⊥
unfolding is_nan
batch_fits n b name worker =
    let row : IsStorable 0 (batch_stored n b) = storable (batch_stored n b) (omega arith) (tt, (tt, (tt, (tt, (tt, tt))))) (simp sum_by-cons (omega (arith, name, worker))) in
    let entry : IsStorable 0 (Text b.name ∷ Int (pos n) ∷ []) = storable (Text b.name ∷ Int (pos n) ∷ []) (omega arith) (tt, (tt, tt)) (simp sum_by-cons (omega (arith, name))) in
    none_big batches (batch_stored n b) (row, omega arith) ((λ _. entry), ((λ at. absurd (omega (arith, at))), ((λ at. absurd (omega (arith, at))), tt)))

pub sentence_fits : (n : ℕ) (s : Sentence) → IsShort s.sent_id → (row : Row) → Has (sentence_stored n s ∷ []) row → IsOversized desk_schema sentences row → ⊥
unfolding is_nan
sentence_fits n s name =
    let row : IsStorable 0 (sentence_stored n s) =
    storable (sentence_stored n s) (omega arith) (tt, (tt, (tt, (tt, (tt, (tt, tt)))))) (simp sum_by-cons (omega (arith, name))) in
    let entry : IsStorable 0 (Text s.sent_id ∷ Int (pos n) ∷ []) = storable (Text s.sent_id ∷ Int (pos n) ∷ []) (omega arith) (tt, (tt, tt)) (simp sum_by-cons (omega (arith, name))) in
    none_big sentences (sentence_stored n s) (row, omega arith) ((λ at. absurd (omega (arith, at))), ((λ _. entry), ((λ at. absurd (omega (arith, at))), tt)))

pub revision_fits : (rows : List Row) (r : Revision) → IsShort r.who → IsShort r.body → (row : Row) → Has (revision_stored rows r ∷ []) row → IsOversized desk_schema revisions row → ⊥
unfolding is_nan
revision_fits rows r who body =
    let id = next_rowid rows in
    let row : IsStorable 0 (revision_stored rows r) = storable (revision_stored rows r) (omega arith) (whole id, (tt, (tt, (tt, (tt, tt))))) (simp sum_by-cons (omega (arith, who, body))) in
    let entry : IsStorable 0 (Int (pos r.sent) ∷ Int (pos r.rev) ∷ Int id ∷ []) =
    storable (Int (pos r.sent) ∷ Int (pos r.rev) ∷ Int id ∷ []) (omega arith) (tt, (tt, (whole id, tt))) (simp sum_by-cons (omega arith)) in
    none_big revisions (revision_stored rows r) (row, omega arith) ((λ at. absurd (omega (arith, at))), ((λ at. absurd (omega (arith, at))), ((λ _. entry), tt)))

pub move_fits : (n : ℕ) (m : Move) → IsShort m.who → (row : Row) → Has (move_stored n m ∷ []) row → IsOversized desk_schema moves row → ⊥
unfolding is_nan
move_fits n m who =
    let row : IsStorable 0 (move_stored n m) =
    storable (move_stored n m) (omega arith) (tt, (tt, (tt, (tt, (tt, (tt, (tt, (tt, (tt, (tt, (tt, tt))))))))))) (simp sum_by-cons (omega (arith, who))) in
    none_big moves (move_stored n m) (row, omega arith) ((λ at. absurd (omega (arith, at))), ((λ at. absurd (omega (arith, at))), ((λ at. absurd (omega (arith, at))), tt)))

pub total_fits : (n : ℕ) (t : Total) (row : Row) → Has (total_stored n t ∷ []) row → IsOversized desk_schema totals row → ⊥
unfolding is_nan
total_fits n t =
    let row : IsStorable 0 (total_stored n t) = storable (total_stored n t) (omega arith) (tt, (tt, (tt, (tt, tt)))) (simp sum_by-cons (omega arith)) in
    none_big totals (total_stored n t) (row, omega arith) ((λ at. absurd (omega (arith, at))), ((λ at. absurd (omega (arith, at))), ((λ at. absurd (omega (arith, at))), tt)))

pub pulled_fits : (n : ℕ) (row : Row) → Has (pulled_stored n ∷ []) row → IsOversized desk_schema pulled row → ⊥
unfolding is_nan
pulled_fits n =
    let row : IsStorable 0 (pulled_stored n) = storable (pulled_stored n) (omega arith) (tt, (tt, tt)) (simp sum_by-cons (omega arith)) in
    none_big pulled (pulled_stored n) (row, omega arith) ((λ at. absurd (omega (arith, at))), ((λ at. absurd (omega (arith, at))), ((λ at. absurd (omega (arith, at))), tt)))

-- the row of the version
pub version_fits : (n : ℤ) (row : Row) → Has ((Int n ∷ Int (pos 2) ∷ []) ∷ []) row → IsOversized desk_schema meta row → ⊥
unfolding is_nan
version_fits n =
    let stored : Row = Int n ∷ Int (pos 2) ∷ [] in
    let row : IsStorable 0 stored = storable stored (omega arith) (whole n, (tt, tt)) (simp sum_by-cons (omega arith)) in
    none_big meta stored (row, omega arith) ((λ at. absurd (omega (arith, at))), ((λ at. absurd (omega (arith, at))), ((λ at. absurd (omega (arith, at))), tt)))

-- the six rows of a new desk's totals
pub first_totals_fit : (row : Row) → Has six row → IsOversized desk_schema totals row → ⊥
first_totals_fit row (inl is) = total_fits 1 no_total row (inl is)
first_totals_fit row (inr (inl is)) = total_fits 2 no_total row (inl is)
first_totals_fit row (inr (inr (inl is))) = total_fits 3 no_total row (inl is)
first_totals_fit row (inr (inr (inr (inl is)))) = total_fits 4 no_total row (inl is)
first_totals_fit row (inr (inr (inr (inr (inl is))))) = total_fits 5 no_total row (inl is)
first_totals_fit row (inr (inr (inr (inr (inr (inl is)))))) = total_fits 6 no_total row (inl is)
first_totals_fit row (inr (inr (inr (inr (inr (inr none)))))) = absurd none
