-- Rowids that SQLite chooses: each is one above the last.
use Rattle.std.proofs.Common.{◌≡◌, ◌≢◌, ◌<ℤ◌, ◌-◌, ◌+◌, ◌+ℤ◌, ℕ, ℤ, pos, fold, List, [], ◌∷◌, ◌++◌, length, length-append, true, IsTrue, refl, sym, ap, subst, ◌∙◌, arith, Less}
use Rattle.std.proofs.lemmas.Bool.Decides.{nat_tests}
use Rattle.std.proofs.lemmas.Int.{ints}
use Rattle.std.specs.Ordering.{int_cmp}
use Rattle.std.specs.List.{AllByRecursion}
use Rattle.sqlite.specs.declared.types.Value.{Value}
use Rattle.sqlite.specs.declared.types.Value.TheVariants.{Int}
use Rattle.sqlite.specs.Order.{Row, column, value_cmp}
use Rattle.sqlite.specs.State.{State}
use Rattle.sqlite.specs.Tree.{Trees, rowid, put_row}
use Rattle.sqlite_value.proofs.OrderLemmas.{value_cmp-Int}
use Rattle.sqlite_trees.specs.Tree.{IsTable}
use Rattle.sqlite_trees.specs.View.{is_int}
use Rattle.sqlite_trees.proofs.TreeLemmas.{IsTable-put_row, all-put_row}
use Rattle.sqlite_sql.specs.Ops.{fits_i64}
use Rattle.sqlite_rules.specs.Edit.{id_in, next_rowid}
use Rattle.sqlite_rules.proofs.ListLemmas.{all_has, all_from}
use Rattle.sqlite_rules.proofs.TableLemmas.{int_is, next_after}
use Rattle.tb_tables.specs.Records.{Tables, Revision}
use Rattle.tb_tables.specs.Changes.{with_revision}
use Rattle.tb_tables.specs.Failing.{HasMetaRowids, HasRowids}
use Rattle.tb_tables.proofs.Meaning.{Sets, Puts, no_index, revision_stored}

abbrev AreKeyed : List Row → Type 0
AreKeyed rows = AllByRecursion (λ r. IsTrue (is_int (rowid r))) rows

abbrev step_rowid : ℤ → Row → ℤ
step_rowid n r = id_in (rowid r) +ℤ pos 1

lower_than : (a b c : ℤ) → int_cmp a b ≡ Less → b <ℤ c → a <ℤ c
lower_than a b c p q = grind (arith, ints, nat_tests)

below_next : (x : Row) (rows : List Row) → IsTable (x ∷ rows) → AreKeyed (x ∷ rows) → AllByRecursion (λ r. id_in (rowid r) <ℤ fold step_rowid (step_rowid (pos 1) x) rows) (x ∷ rows)
below_next x [] up keyed = (omega (arith, ints), tt)
below_next x (y ∷ rows) up keyed =
    let later = below_next y rows up.1 keyed.1 in
    let lower = rw (int_is (rowid x) keyed.0, int_is (rowid y) keyed.1.0, value_cmp-Int (id_in (rowid x)) (id_in (rowid y))) at up.0.0 in
    let first = later.0 in
    (lower_than (id_in (rowid x)) (id_in (rowid y)) _ lower first, later)

below : (v : Value) (n : ℤ) → is_int v ≡ true → id_in v <ℤ n → value_cmp v (Int n) ≡ Less
below v n keyed h = ap (λ w. value_cmp w (Int n)) (int_is v keyed) ∙ value_cmp-Int (id_in v) n ∙ grind (arith, ints, nat_tests)

all_below : (rows : List Row) → IsTable rows → AreKeyed rows → AllByRecursion (λ r. value_cmp (rowid r) (Int (next_rowid rows)) ≡ Less) rows
all_below [] up keyed = tt
all_below (x ∷ rows) up keyed =
    all_from _ (x ∷ rows) (λ r h. below (rowid r) (next_rowid (x ∷ rows)) (all_has (λ r. IsTrue (is_int (rowid r))) (x ∷ rows) r keyed h) (all_has _ (x ∷ rows) r (below_next x rows up keyed) h))

put_at_end : (new : Row) (rows : List Row) → AllByRecursion (λ r. value_cmp (rowid r) (rowid new) ≡ Less) rows → put_row new rows ≡ rows ++ new ∷ []
put_at_end new [] h = refl
put_at_end new (r ∷ rows) h = rw h.0 (ap (λ l. r ∷ l) (put_at_end new rows h.1))

module _ (rows : List Row) (rest : Row) where
  abbrev more : List Row
  more = put_row (Int (next_rowid rows) ∷ rest) rows

  next_is : IsTable rows → AreKeyed rows → next_rowid more ≡ next_rowid rows +ℤ pos 1
  next_is up keyed =
      let new = Int (next_rowid rows) ∷ rest in
      ap next_rowid (put_at_end new rows (all_below rows up keyed)) ∙ next_after rows new

  one_fewer : (count : ℕ) → HasRowids count rows → HasRowids (count - 1) more
  one_fewer count h = record {
    ascend = IsTable-put_row (Int (next_rowid rows) ∷ rest) rows h.ascend;
    keyed = all-put_row (λ r. IsTrue (is_int (rowid r))) (Int (next_rowid rows) ∷ rest) rows refl h.keyed;
    room = λ i low.
        let here : next_rowid rows +ℤ pos (i + 1) ≡ next_rowid more +ℤ pos i = ints_move (next_rowid rows) (next_rowid more) i (next_is h.ascend h.keyed) in
        subst (λ n. fits_i64 n ≡ true) here (h.room (i + 1) (omega (arith, low)));
  }
    where
      ints_move : (a b : ℤ) (i : ℕ) → b ≡ a +ℤ pos 1 → a +ℤ pos (i + 1) ≡ b +ℤ pos i
      ints_move a b i is = omega (arith, ints, is)

-- the rows of another table change
pub rowids_stay : (old new : State) (tree : ℕ) (all : List Row) → Sets old new tree all → 5 ≢ tree → (d : Tables) (n : ℕ) → HasRowids (n - length d.revisions) (old.now.trees 5)
    → HasRowids (n - length d.revisions) (new.now.trees 5)
rowids_stay old new tree all sets other d n h = subst (HasRowids (n - length d.revisions)) (sym (sets.others 5 other (no_index 5 (λ e. cc) (λ e. cc) (λ e. cc)))) h

-- one more revision
pub rowids_left : (old new : State) (d : Tables) (r : Revision) → Puts old new 5 (revision_stored (old.now.trees 5) r) → (n : ℕ) → HasRowids (n - length d.revisions) (old.now.trees 5)
    → HasRowids (n - length (with_revision d r).revisions) (new.now.trees 5)
rowids_left old new d r puts n h =
    let fewer : n - length (with_revision d r).revisions ≡ (n - length d.revisions) - 1 = omega (arith, length-append d.revisions (r ∷ [])) in
    subst (λ k. HasRowids k (new.now.trees 5)) (sym fewer) (subst (HasRowids ((n - length d.revisions) - 1)) (sym puts.sets.rows) (one_fewer (old.now.trees 5) _ (n - length d.revisions) h))

-- the number of the only row of `meta`
pub meta_in_range : (db : Trees) (r : Row) (n : ℤ) → db 0 ≡ r ∷ [] → column r 0 ≡ Int n → HasMetaRowids db → fits_i64 n ≡ true
meta_in_range db r n one id has =
    let first = subst (AllByRecursion (λ (x : Row). fits_i64 (id_in (rowid x)) ≡ true)) one has in
    subst (λ (v : Value). fits_i64 (id_in v) ≡ true) id first.0

pub same_meta_rowids : (before after : Trees) → after 0 ≡ before 0 → HasMetaRowids before → HasMetaRowids after
same_meta_rowids before after same has = subst (AllByRecursion (λ (x : Row). fits_i64 (id_in (rowid x)) ≡ true)) (sym same) has
