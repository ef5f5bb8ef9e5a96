-- What is visited of the sentences that are wanted, where the tables stand for a desk.
use Rattle.std.proofs.Common.{◌≡◌, List, map, filter, Bool, Result, Ok, Err, OnOk, IfErr, ap, subst, ◌∙◌}
use Rattle.sqlite.specs.Store.{Ghosts}
use Rattle.sqlite.specs.Held.{Held, state}
use Rattle.sqlite_trees.specs.Tree.{IsAscending}
use Rattle.std.specs.List.{All}
use Rattle.tb_core.specs.Machine.{Machine, Sentence}
use Rattle.tb_core.specs.Rows.{revisions_from}
use Rattle.tb_tables.specs.Layout.{desk_schema}
use Rattle.tb_tables.specs.Records.{Revision, Shows, revision_shown, revision_view}
use Rattle.tb_refine.specs.DeskTables.{IsDeskOf, tables_of, revision_record}
use Rattle.tb_refine.specs.Fitting.{IsReadable}
use Rattle.tb_reads.specs.Readable.{IsRevision, ComesBefore}
use Rattle.tb_search.specs.declared.picks.Pick.{Pick}
use Rattle.tb_search.specs.declared.stopped.Stopped.{Stopped}
use Rattle.tb_search.specs.Picked.{picked, bodies, picks_from}
use Rattle.tb_search.specs.Visited.{Taking, Stopping, AllTaken, Halted, texts}
use Rattle.tb_search.proofs.Asked.{currents}
use Rattle.tb_search.proofs.Rises.{revisions_rise, revisions_fit}

pub if_put : {X Y : Type 0} (r : Result Unit Stopped) → (X → Y) → OnOk r X → OnOk r Y
if_put (Ok t) f h = f h
if_put (Err e) f h = tt

pub if_err : {T : Type 0} {P Q : Stopped → Type 0} (r : Result T Stopped) → ((e : Stopped) → P e → Q e) → IfErr r P → IfErr r Q
if_err (Ok t) f h = tt
if_err (Err e) f h = f e h

pub if_cut : {P Q : Stopped → Type 0} (r : Result Unit Stopped) → ((e : Stopped) → P e → Q e) → IfErr r P → IfErr r Q
if_cut (Ok t) f h = tt
if_cut (Err e) f h = f e h

abbrev pub rows_of : Machine → List Revision
rows_of s = map revision_record (revisions_from 1 s.sentences)

module _ {S : Type 0} (g : Ghosts S) where
  -- what holds of any revisions that the tables show holds of those of the desk
  pub of_desk : {P : Type 0} (c : Held S) (s : Machine) → IsDeskOf g c s → IsReadable (tables_of s) → ((state g c).now.schema ≡ desk_schema → (xs : List Revision) → All IsRevision xs → IsAscending ComesBefore xs → Shows revision_view (map revision_shown xs) ((state g c).now.trees 5) → P) → P
  of_desk c s desk readable reported = reported desk.holds.schema (rows_of s) (revisions_fit (rows_of s) readable.revisions) (revisions_rise 1 s.sentences) desk.holds.stands.revisions

  module _ {V O : Type 0} (takes : Taking V O) (stops : Stopping V O) (c : Held S) (s : Machine) (wanted : Sentence → Bool) (picks : List Pick) (is : picks ≡ picks_from wanted 1 s.sentences) (desk : IsDeskOf g c s) (readable : IsReadable (tables_of s)) (v : V) (o : O) where
    asked_are : bodies (picked picks (rows_of s)) ≡ texts (filter wanted s.sentences)
    asked_are = ap (λ ps. bodies (picked ps (rows_of s))) is ∙ currents wanted 1 s.sentences

    -- what is visited are the texts of the sentences that are wanted
    pub all_visited : (w : V) (q : O) → ((state g c).now.schema ≡ desk_schema → (xs : List Revision) → All IsRevision xs → IsAscending ComesBefore xs → Shows revision_view (map revision_shown xs) ((state g c).now.trees 5) → AllTaken takes v o (bodies (picked picks xs)) w q)
        → AllTaken takes v o (texts (filter wanted s.sentences)) w q
    all_visited w q reported =
        subst (λ ts. AllTaken takes v o ts w q) asked_are (reported desk.holds.schema (rows_of s) (revisions_fit (rows_of s) readable.revisions) (revisions_rise 1 s.sentences) desk.holds.stands.revisions)

    pub some_visited : (e : Stopped) (q : O) → ((state g c).now.schema ≡ desk_schema → (xs : List Revision) → All IsRevision xs → IsAscending ComesBefore xs → Shows revision_view (map revision_shown xs) ((state g c).now.trees 5) → Halted takes stops v o (bodies (picked picks xs)) e q)
        → Halted takes stops v o (texts (filter wanted s.sentences)) e q
    some_visited e q reported =
        subst (λ ts. Halted takes stops v o ts e q) asked_are (reported desk.holds.schema (rows_of s) (revisions_fit (rows_of s) readable.revisions) (revisions_rise 1 s.sentences) desk.holds.stands.revisions)
