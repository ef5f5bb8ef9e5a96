-- From rows to a state without pulls, and back.
use Rattle.std.proofs.Common.{◌≡◌, ◌≢◌, pos, List, [], ◌∷◌, map, All, cond, nat_eq, refl, sym, ap, ◌∙◌}
use Rattle.std.specs.List.{AllByRecursion}
use Rattle.std.proofs.lemmas.List.Elements.{All-from_recursion, recursion_from_All}
use Rattle.std.proofs.lemmas.List.Sorted.{IsPermutation-refl}
use Rattle.sqlite.specs.declared.types.Value.TheVariants.{Int}
use Rattle.sqlite_trees.specs.Tree.{Trees}
use Rattle.sqlite_trees.specs.Objects.{catalog_tree}
use Rattle.tb_core.specs.declared.kinds.Kind.{Kind}
use Rattle.tb_core.specs.declared.kinds.Kind.TheVariants.{Pull, Restore}
use Rattle.tb_core.specs.Machine.{Machine}
use Rattle.tb_core.specs.Moves.{MoveText}
use Rattle.tb_tables.specs.Records.{Tables, Move, AreStored, number_shown}
use Rattle.tb_tables.specs.Values.{revision_of, move_of}
use Rattle.tb_tables.proofs.Meaning.{no_list}
use Rattle.tb_tables.specs.declared.rows.MoveRow.{MoveRow}
use Rattle.tb_refine.specs.Numbers.{kind_number}
use Rattle.tb_refine.specs.DeskTables.{tables_of, move_record}
use Rattle.tb_refine.specs.Found.{IsSame}
use Rattle.tb_refine.proofs.CallLemmas.{one_kind}
use Rattle.tb_verify.specs.Summary.{tables_in}
use Rattle.tb_verify.specs.declared.summary.TableRows.{TableRows}
use Rattle.tb_verify.specs.Version1.{AreStoredInVersion1}
use Rattle.tb_verify.specs.Version1Desk.{HasNoPull}
use Rattle.tb_verify.proofs.NoPulls.{IsNoPull}

-- ---- one list for the rows of version 1, as for those of version 2

-- the same trees, with the version and the last table of version 2, and a list of objects that lists nothing
abbrev promoted : Trees → Trees
promoted trees t =
    cond (nat_eq t 0) ((Int (pos 1) ∷ Int (pos 2) ∷ []) ∷ []) (cond (nat_eq t 9) [] (cond (nat_eq t catalog_tree) ([] ∷ []) (trees t)))

stands_promoted : (d : Tables) (trees : Trees) → d.pulled ≡ [] → AreStoredInVersion1 d trees → AreStored d (promoted trees)
stands_promoted d trees unpulled s = record {
  listed = no_list (promoted trees) refl;
  meta = IsPermutation-refl (number_shown 2 ∷ []);
  batches = s.batches;
  sentences = s.sentences;
  revisions = s.revisions;
  moves = s.moves;
  totals = s.totals;
  pulled = rw unpulled (IsPermutation-refl []);
}

pub rows_are : ((d e : Tables) (trees : Trees) → AreStored d trees → AreStored e trees → IsSame d e) → (r : TableRows) (s : Machine) (trees : Trees) → (tables_in r).pulled ≡ [] → AreStoredInVersion1 (tables_in r) trees → (tables_of s).pulled ≡ []
    → AreStoredInVersion1 (tables_of s) trees → map revision_of r.revisions.items ≡ (tables_of s).revisions → tables_in r ≡ tables_of s
rows_are one r s trees here mine there others revised =
    let same = one (tables_in r) (tables_of s) (promoted trees) (stands_promoted (tables_in r) trees here mine) (stands_promoted (tables_of s) trees there others) in
    let none : (tables_in r).pulled ≡ (tables_of s).pulled = here ∙ sym there in
    λ j. record { batches = same.batches j; sentences = same.sentences j; revisions = revised j; moves = same.moves j; totals = same.totals j; pulled = none j }

-- ---- no pulls

pull_is : (k : Kind) → kind_number k ≡ 11 → k ≡ Pull
pull_is k e = one_kind k Pull e

restore_is : (k : Kind) → kind_number k ≡ 12 → k ≡ Restore
restore_is k e = one_kind k Restore e

abbrev pub IsNoPullRow : MoveRow → Type 0
IsNoPullRow m = (m.kind ≢ 11) × (m.kind ≢ 12)

same_kind : (r : MoveRow) (rs : List MoveRow) (m : MoveText) (ms : List MoveText) → map move_of (r ∷ rs) ≡ map move_record (m ∷ ms) → r.kind ≡ kind_number m.kind
same_kind r rs m ms is = let first : move_of r ≡ move_record m = cc in ap (λ (x : Move). x.kind) first

the_rest : (r : MoveRow) (rs : List MoveRow) (m : MoveText) (ms : List MoveText) → map move_of (r ∷ rs) ≡ map move_record (m ∷ ms) → map move_of rs ≡ map move_record ms
the_rest r rs m ms is = cc

to_state : (rs : List MoveRow) (ms : List MoveText) → map move_of rs ≡ map move_record ms → AllByRecursion IsNoPullRow rs → AllByRecursion IsNoPull ms
to_state [] [] is h = tt
to_state [] (m ∷ ms) is h = absurd cc
to_state (r ∷ rs) [] is h = absurd cc
to_state (r ∷ rs) (m ∷ ms) is h =
    let kind = same_kind r rs m ms is in
    ((λ e. h.0.0 (kind ∙ ap kind_number e), λ e. h.0.1 (kind ∙ ap kind_number e)), to_state rs ms (the_rest r rs m ms is) h.1)

to_rows : (rs : List MoveRow) (ms : List MoveText) → map move_of rs ≡ map move_record ms → AllByRecursion IsNoPull ms → AllByRecursion IsNoPullRow rs
to_rows [] [] is h = tt
to_rows [] (m ∷ ms) is h = absurd cc
to_rows (r ∷ rs) [] is h = absurd cc
to_rows (r ∷ rs) (m ∷ ms) is h =
    let kind = same_kind r rs m ms is in
    ((λ e. h.0.0 (pull_is m.kind (sym kind ∙ e)), λ e. h.0.1 (restore_is m.kind (sym kind ∙ e))), to_rows rs ms (the_rest r rs m ms is) h.1)

module _ (r : TableRows) (s : Machine) (is : tables_in r ≡ tables_of s) where
  moves_are : map move_of r.moves.items ≡ map move_record s.moves
  moves_are = ap (λ (d : Tables). d.moves) is

  pub no_pull_of_rows : All IsNoPullRow r.moves.items → HasNoPull s
  no_pull_of_rows h = All-from_recursion IsNoPull s.moves (to_state r.moves.items s.moves moves_are (recursion_from_All IsNoPullRow r.moves.items h))

  pub no_pull_in_rows : HasNoPull s → All IsNoPullRow r.moves.items
  no_pull_in_rows h = All-from_recursion IsNoPullRow r.moves.items (to_rows r.moves.items s.moves moves_are (recursion_from_All IsNoPull s.moves h))
