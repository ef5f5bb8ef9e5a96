-- The numbers of a move that is made, and of the totals after it, need no more than 32 bits.
use Rattle.std.proofs.Common.{ℕ, ◌+◌, ◌^◌, ◌≤◌, ◌<◌, List, [], ◌∷◌, ◌++◌, map, length, sym, subst, arith, lit<, length-append}
use Rattle.std.specs.List.{AllByRecursion}
use Rattle.std.proofs.lemmas.List.Elements.{recursion_from_All}
use Rattle.tb_core.specs.declared.kinds.State.{State}
use Rattle.tb_core.specs.declared.kinds.State.TheVariants.{Opened, Assigned, Submitted, Adjudicated, Released, Withdrawn}
use Rattle.tb_core.specs.declared.sums.Totals.{Totals}
use Rattle.tb_core.specs.Moves.{MoveText}
use Rattle.tb_core.specs.Machine.{Machine}
use Rattle.tb_core.specs.Acts.{Act, after, move_of}
use Rattle.tb_core.specs.Reaching.{IsReachable}
use Rattle.tb_core.specs.Totals.{AreTotalsOf}
use Rattle.tb_tables.specs.Records.{Move}
use Rattle.tb_refine.specs.DeskTables.{tables_of, move_record, total_record, six_states}
use Rattle.tb_refine.specs.Fitting.{IsReadable, IsReadableMove, IsReadableTotal}
use Rattle.tb_refine.specs.Recorded.{AreNarrow, IsNarrowMove}

wide : 1000000000 < 2 ^ 32
wide = lit< tt

pub narrow : (n : ℕ) → n ≤ 1000000000 → n < 2 ^ 32
narrow n h = omega (arith, h, wide)

of_state : (s : Machine) (st : State) → AllByRecursion IsReadableTotal (map (total_record s) six_states) → IsReadableTotal (total_record s st)
of_state s Opened h = h.0
of_state s Assigned h = h.1.0
of_state s Submitted h = h.1.1.0
of_state s Adjudicated h = h.1.1.1.0
of_state s Released h = h.1.1.1.1.0
of_state s Withdrawn h = h.1.1.1.1.1.0

pub narrow_totals : (t : Totals) (s : Machine) → IsReadable (tables_of s) → AreTotalsOf t s → AreNarrow t
narrow_totals t s fits stand st =
    let row = of_state s st (recursion_from_All IsReadableTotal (tables_of s).totals fits.totals) in
    (subst (λ n. n < 2 ^ 32) (sym (stand.sentences st)) row.sentences_fits, subst (λ n. n < 2 ^ 32) (sym (stand.words st)) row.words_fits)

last_move : (P : Move → Type 0) (ms : List MoveText) (m : MoveText) → AllByRecursion P (map move_record (ms ++ m ∷ [])) → P (move_record m)
last_move P [] m h = h.0
last_move P (x ∷ ms) m h = last_move P ms m h.1

pub narrow_move : (s : Machine) (a : Act) → IsReachable (after s a) → IsReadable (tables_of (after s a)) → IsNarrowMove (move_of s a)
narrow_move s a next fits =
    let row = last_move IsReadableMove s.moves (move_of s a) (recursion_from_All IsReadableMove (tables_of (after s a)).moves fits.moves) in
    let moves = next.moves in
    let size = length-append s.moves (move_of s a ∷ []) in
    record {
      no = narrow (length s.moves + 1) (omega (arith, moves, size));
      batch = row.batch_fits;
      sent = row.sent_fits;
      sentences = row.sentences_fits;
      words_out = row.words_out_fits;
      words_in = row.words_in_fits;
    }
