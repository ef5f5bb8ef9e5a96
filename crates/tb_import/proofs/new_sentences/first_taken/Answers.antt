use Rattle.std.proofs.Common.{◌≡◌, ◌+◌, ◌<◌, ◌≤◌, length, ap, subst, arith, ℕ, List}
use Rattle.tb_core.specs.Names.{Lacks}
use Rattle.tb_core.specs.Acts.{ids_of}
use Rattle.tb_core.specs.Taking.{NewSentenceText}
use Rattle.tb_core.specs.Tests.{IsFirstTaken}
use Rattle.tb_import.proofs.Left.{left_from, stays_from, left_then, stays_then, desk_stays}
use Rattle.tb_import.proofs.Takes.{one_free, first_of, all_free}
use Rattle.tb_reads.proofs.ReadOnly.{was_clean}
use Rattle.tb_import.proofs.Looks.{look_ended, look_of, look_well}
use Rattle.tb_import.proofs.new_sentences.first_taken.Goals as goal

pub returns-then-branch-clause-answered : goal.returns-then-branch-clause-answered
returns-then-branch-clause-answered g c clean s bs desk is =
    let inv = c.loop-one.invariant in
    let i = c.loop-one.one-index in
    let mid = was_clean c.is_taken.ensures.read.read_only clean in
    let here = desk_stays g.S.Store c.args.conn.now c.loop-one.conn inv.2 mid s desk in
    let reported = rw c.if-branch.true at (c.in_ok-is_taken.ensures.answered clean s here) in
    let named = ap (λ (t : NewSentenceText). t.sent_id) c.one.view_is in
    let low : i < length c.args.taken.now = omega (arith, c.loop-one-test.true) in
    let at : i + 1 ≡ c.loop-one.number + 1 = (let same = inv.0 in omega (arith, same)) in
    subst (λ k. IsFirstTaken (ids_of s.sentences) bs k) at
    (first_of (ids_of s.sentences) bs c.args.taken.now i c.one-item.result low c.one-item.is is (inv.3 mid s desk) (subst (λ (n : List ℕ). Lacks (ids_of s.sentences) n → ⊥) named reported))

pub loop-one-preserved : goal.loop-one-preserved
loop-one-preserved g c =
    let inv = c.loop-one.invariant in
    let i = c.loop-one.one-index in
    let read = c.is_taken.ensures.read.read_only in
    let left = left_from read in
    let stays = stays_from c.in_ok-is_taken.ensures.read.read_only in
    let low : i < length c.args.taken.now = omega (arith, c.loop-one-test.true) in (
      (let same = inv.0 in omega (arith, same)),
      left_then g.S.Store c.args.conn.now c.loop-one.conn c.is_taken.new.conn inv.1 inv.2 left,
      stays_then g.S.Store c.args.conn.now c.loop-one.conn c.is_taken.new.conn inv.2 left stays,
      λ clean s desk.
          let mid = was_clean read clean in
          let here = desk_stays g.S.Store c.args.conn.now c.loop-one.conn inv.2 mid s desk in
          let reported = rw c.if-branch.false at (c.in_ok-is_taken.ensures.answered clean s here) in
          let named = ap (λ (t : NewSentenceText). t.sent_id) c.one.view_is in
          one_free (ids_of s.sentences) c.args.taken.now i c.one-item.result low c.one-item.is (inv.3 mid s desk) (subst (Lacks (ids_of s.sentences)) named reported),
    )

pub returns-clause-answered : goal.returns-clause-answered
returns-clause-answered g c clean s bs desk is =
    let past : length c.args.taken.now ≤ c.loop-one.one-index = omega (arith, c.loop-one-test.false) in
    all_free (ids_of s.sentences) bs c.args.taken.now c.loop-one.one-index past is (c.loop-one.invariant.3 clean s desk)

pub returns-in_err-is_taken-clause-look : goal.returns-in_err-is_taken-clause-look
returns-in_err-is_taken-clause-look g c =
    let inv = c.loop-one.invariant in
    look_ended c.from_residual.result c.in_err-is_taken.field-0.0 c.from_residual.ensures.1 inv.1 inv.2 (look_of _ c.in_err-is_taken.ensures.read) (λ mid s desk fails on. on fails)

pub returns-then-branch-clause-look : goal.returns-then-branch-clause-look
returns-then-branch-clause-look g c =
    let inv = c.loop-one.invariant in
    let read = c.in_ok-is_taken.ensures.read.read_only in
    look_well (left_then g.S.Store c.args.conn.now c.loop-one.conn c.is_taken.new.conn inv.1 inv.2 (left_from read)) (stays_then g.S.Store c.args.conn.now c.loop-one.conn c.is_taken.new.conn inv.2 (left_from read) (stays_from read)) (λ s fine. fine)

pub returns-clause-look : goal.returns-clause-look
returns-clause-look g c = look_well c.loop-one.invariant.1 c.loop-one.invariant.2 (λ s fine. fine)
