-- The state that rows tell, put together from its parts.
use Rattle.std.proofs.Common.{◌≡◌, ◌≢◌, ◌≤◌, ℕ, suc, List, [], ◌∷◌, length, map, refl, sym, ap, subst, ◌∙◌, arith, Result, Ok, Err, IfOk}
use Rattle.std.specs.List.{All, AllByRecursion}
use Rattle.std.proofs.lemmas.List.Elements.{All-nil}
use Rattle.tb_core.specs.declared.kinds.Kind.TheVariants.{Import}
use Rattle.tb_core.specs.Moves.{MoveText}
use Rattle.tb_core.specs.Keeping.{IsFine}
use Rattle.tb_core.specs.Machine as machine
use Rattle.tb_core.specs.Machine.{Machine}
use Rattle.tb_core.specs.Reaching.{Reached, IsReachable}
use Rattle.tb_replay.specs.Summaries.{SummaryRow, entries_of}
use Rattle.tb_replay.specs.Fine.{AreFine}
use Rattle.tb_tables.specs.Records.{Tables, Sentence, Revision}
use Rattle.tb_tables.specs.Values.{batch_of, sentence_of, revision_of, move_of, total_of}
use Rattle.tb_tables.specs.declared.rows.BatchRow.{BatchRow}
use Rattle.tb_tables.specs.declared.rows.SentenceRow.{SentenceRow}
use Rattle.tb_tables.specs.declared.rows.RevisionRow.{RevisionRow}
use Rattle.tb_tables.specs.declared.rows.MoveRow.{MoveRow}
use Rattle.tb_tables.specs.declared.rows.TotalRow.{TotalRow}
use Rattle.tb_refine.specs.DeskTables.{tables_of, batch_record, move_record, total_record, six_states}
use Rattle.tb_refine.proofs.Lasting.{sound}
use Rattle.tb_verify.specs.File.{AreReadBack}
use Rattle.tb_refine.specs.Numbered.{AreNumbered}
use Rattle.tb_verify.specs.Summary.{tables_in, IsShownBy}
use Rattle.tb_verify.specs.declared.summary.TableRows.{TableRows}
use Rattle.tb_verify.proofs.Agreeing.{alike}
use Rattle.tb_refine.proofs.Numbering.{same_moves, moves_are_numbered}
use Rattle.tb_refine.proofs.Single.{batch_one}

-- at most one list of sentences has these rows
abbrev pub IsOneReading : Type 0
IsOneReading = (n : ℕ) (reported : List Sentence) (flags : List ℕ) (rows : List Revision) (xs ys : List machine.Sentence) → AreReadBack n reported flags rows xs → AreReadBack n reported flags rows ys → xs ≡ ys

-- the rows of each table, lent
pub record AreLent (rows : TableRows) (bs : List BatchRow) (ss : List SentenceRow) (rs : List RevisionRow) (ps : List ℕ) (ms : List MoveRow) (ts : List TotalRow) : Type 0 where
  pub batches : bs ≡ rows.batches.items
  pub sentences : ss ≡ rows.sentences.items
  pub revisions : rs ≡ rows.revisions.items
  pub pulled : ps ≡ rows.pulled.items
  pub moves : ms ≡ rows.moves.items
  pub totals : ts ≡ rows.totals.items

module _ (rows : TableRows) (bs : List BatchRow) (ss : List SentenceRow) (rs : List RevisionRow) (ps : List ℕ) (ms : List MoveRow) (ts : List TotalRow) (lent : AreLent rows bs ss rs ps ms ts) (s : Machine) where
  -- from rows to the state

  pub rows_stand : map batch_record s.batches ≡ map batch_of bs → AreReadBack 1 (map sentence_of ss) ps (map revision_of rs) s.sentences → map move_record s.moves ≡ map move_of ms → map total_of ts ≡ map (total_record s) six_states
      → tables_in rows ≡ tables_of s
  rows_stand b r m t =
      let bt = ap (map batch_of) (sym lent.batches) ∙ sym b in
      let st = ap (map sentence_of) (sym lent.sentences) ∙ sym r.sentences in
      let rt = ap (map revision_of) (sym lent.revisions) ∙ sym r.revised in
      let mt = ap (map move_of) (sym lent.moves) ∙ sym m in
      let tt_is = ap (map total_of) (sym lent.totals) ∙ t in
      let pt = sym lent.pulled ∙ sym r.pulled in
      λ j. record { batches = bt j; sentences = st j; revisions = rt j; moves = mt j; totals = tt_is j; pulled = pt j }

  -- from the state to its rows

  module _ (is : tables_in rows ≡ tables_of s) where
    pub batches_reported : map batch_of bs ≡ map batch_record s.batches
    batches_reported = ap (map batch_of) lent.batches ∙ ap (λ (d : Tables). d.batches) is

    pub moves_reported : map move_of ms ≡ map move_record s.moves
    moves_reported = ap (map move_of) lent.moves ∙ ap (λ (d : Tables). d.moves) is

    pub totals_reported : map total_of ts ≡ map (total_record s) six_states
    totals_reported = ap (map total_of) lent.totals ∙ ap (λ (d : Tables). d.totals) is

    pub read_back : AllByRecursion IsFine s.sentences → AreReadBack 1 (map sentence_of ss) ps (map revision_of rs) s.sentences
    read_back fine = record {
      sentences = sym (ap (map sentence_of) lent.sentences ∙ ap (λ (d : Tables). d.sentences) is);
      revised = sym (ap (map revision_of) lent.revisions ∙ ap (λ (d : Tables). d.revisions) is);
      pulled = sym (lent.pulled ∙ ap (λ (d : Tables). d.pulled) is);
      fine = fine;
    }

    pub shown_by : (batches : List machine.Batch) (entries : List SummaryRow) (moves : List MoveText) (xs : List machine.Sentence) → IsOneReading → AreFine s → Reached s → AllByRecursion IsFine s.sentences → map batch_record batches ≡ map batch_of bs
        → AreReadBack 1 (map sentence_of ss) ps (map revision_of rs) xs → entries ≡ entries_of xs → AreNumbered 1 moves → map move_record moves ≡ map move_of ms → IsShownBy batches entries moves s
    shown_by batches entries moves xs one fine reached each b r e n m = record {
      batches_are = alike batch_record batch_one batches s.batches (b ∙ batches_reported);
      entries_are = e ∙ ap entries_of (one 1 (map sentence_of ss) ps (map revision_of rs) xs s.sentences r (read_back each));
      moves_are = same_moves 1 moves s.moves n (moves_are_numbered s reached) (m ∙ moves_reported);
      fine = fine;
    }

pub four_ok : {T E : Type 0} {P Q R U V : T → Type 0} (r : Result T E) → IfOk r P → IfOk r Q → IfOk r R → IfOk r U → ((x : T) → P x → Q x → R x → U x → V x) → IfOk r V
four_ok (Ok x) p q u v f = f x p q u v
four_ok (Err e) p q u v f = tt

pub as_many_entries : (xs : List machine.Sentence) → length (entries_of xs) ≡ length xs
as_many_entries [] = refl
as_many_entries (x ∷ xs) = ap (λ n. suc n) (as_many_entries xs)

-- a state that has these counts is within the largest limits
pub within : (s : Machine) (b n m : ℕ) → IsReachable s → b ≡ length s.batches → n ≡ length s.sentences → m ≡ length s.moves → (b ≤ m) × (n ≤ 1000000) × (m ≤ 1000000000)
within s b n m reach p q r = let few = (sound s reach.reached).few in (omega (arith, few, p, r), omega (arith, reach.sentences, q), omega (arith, reach.moves, r))

-- ---- no rows

no_moves : (xs : List MoveText) (ys : List MoveRow) → map move_record xs ≡ map move_of ys → ys ≡ [] → xs ≡ []
no_moves [] ys e none = refl
no_moves (x ∷ xs) [] e none = absurd cc
no_moves (x ∷ xs) (y ∷ ys) e none = absurd cc

-- moves of no rows have no import among them
pub no_import : (ms xs : List MoveText) (ys : List MoveRow) → ms ≡ xs → map move_record xs ≡ map move_of ys → ys ≡ [] → All (λ (m : MoveText). m.kind ≢ Import) ms
no_import ms xs ys same e none = subst (All (λ (m : MoveText). m.kind ≢ Import)) (sym (same ∙ no_moves xs ys e none)) (All-nil (λ (m : MoveText). m.kind ≢ Import))
