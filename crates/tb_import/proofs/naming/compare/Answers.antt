use Rattle.tb_core.proofs.Lists.{get_within}
use Rattle.std.proofs.Common.{◌≡◌, ◌≢◌, List, map, subst, sym, ◌∙◌, arith}
use Rattle.sqlite.specs.Held.{state}
use Rattle.sqlite.specs.State.{HasCleanDisk}
use Rattle.tb_conllu.specs.Text.{text_of}
use Rattle.tb_core.specs.Tests.{first_bodies, import_reply}
use Rattle.tb_core.specs.Commands.{imported}
use Rattle.tb_refine.specs.DeskTables.{sentence_record}
use Rattle.tb_reads.specs.declared.work.BatchSentence.{BatchSentence}
use Rattle.tb_reads.specs.Found.{work_of}
use Rattle.tb_import.specs.Firsts.{AreFirsts}
use Rattle.tb_import.proofs.Left.{left_from, stays_from, left_then, stays_then, desk_stays}
use Rattle.tb_import.proofs.Firstly.{firsts_stand}
use Rattle.tb_import.proofs.Looks.{look_ended, look_of, look_well}
use Rattle.tb_refine.proofs.DeskReads.{read_stopped}
use Rattle.tb_import.proofs.naming.compare.Goals as goal

pub returns-then-not-branch-clause-answered : goal.returns-then-not-branch-clause-answered
returns-then-not-branch-clause-answered g c clean s name place b desk has at =
    let mid : HasCleanDisk (state g.S.Store c.read_work.new.conn) = omega (arith, clean, c.are_firsts.ensures.look.left.commits_nothing.clean) in
    let here = desk_stays g.S.Store c.args.conn.now c.read_work.new.conn (stays_from c.in_ok-work.ensures.read.read_only) mid s desk in
    let work : c.as_slice.result.now ≡ work_of c.args.number 1 (map sentence_record s.sentences) = c.as_slice.ensures.value ∙ c.in_ok-work.ensures.answered mid s desk in
    let firsts = subst (λ (l : List BatchSentence). AreFirsts s l (first_bodies c.args.number s.sentences)) (sym work) (firsts_stand s c.args.number) in
    let reported = rw c.if-not-branch.true at (c.in_ok-are_firsts.ensures.answered clean s (first_bodies c.args.number s.sentences) here firsts) in
    (place, b, has, subst (λ n. c.args.body.now ≢ text_of (first_bodies n s.sentences)) at reported)

pub returns-clause-answered : goal.returns-clause-answered
returns-clause-answered g c clean s name place b desk has at =
    let late : HasCleanDisk (state g.S.Store c.are_firsts.new.conn) = omega (arith, clean, c.repeat.ensures.look.left.commits_nothing.clean) in
    let mid : HasCleanDisk (state g.S.Store c.read_work.new.conn) = omega (arith, late, c.are_firsts.ensures.look.left.commits_nothing.clean) in
    let here = desk_stays g.S.Store c.args.conn.now c.read_work.new.conn (stays_from c.in_ok-work.ensures.read.read_only) mid s desk in
    let still = desk_stays g.S.Store c.read_work.new.conn c.are_firsts.new.conn c.in_ok-are_firsts.ensures.look.stays late s here in
    let read = c.in_ok-work.ensures.answered mid s desk in
    let work : c.as_slice.result.now ≡ work_of c.args.number 1 (map sentence_record s.sentences) = c.as_slice.ensures.value ∙ read in
    let firsts = subst (λ (l : List BatchSentence). AreFirsts s l (first_bodies c.args.number s.sentences)) (sym work) (firsts_stand s c.args.number) in
    let same = rw c.if-not-branch.false at (c.in_ok-are_firsts.ensures.answered late s (first_bodies c.args.number s.sentences) here firsts) in
    let reply = c.in_ok-reply.ensures.answered clean s still (c.as_slice-2.ensures.value ∙ read) in
    (place, b, has, subst (λ n. c.args.body.now ≡ text_of (first_bodies n s.sentences)) at same, subst (λ n. imported c.in_ok-reply.reply ≡ import_reply s n) at reply)

pub returns-in_err-work-clause-look : goal.returns-in_err-work-clause-look
returns-in_err-work-clause-look g c =
    look_of c.from_residual.result (read_stopped c.from_residual.result c.in_err-work.field-0.0 c.from_residual.ensures.1 c.in_err-work.ensures.read (λ clean s desk fails on name place b has at. on fails))

pub returns-in_err-are_firsts-clause-look : goal.returns-in_err-are_firsts-clause-look
returns-in_err-are_firsts-clause-look g c =
    let residual = c.from_residual-in_err-are_firsts in
    look_ended residual.result c.in_err-are_firsts.field-0.0 residual.ensures.1 (left_from c.read_work.ensures.read.read_only) (stays_from c.in_ok-work.ensures.read.read_only) c.in_err-are_firsts.ensures.look (λ mid s desk fails on name place b has at.
    let work : c.as_slice.result.now ≡ work_of c.args.number 1 (map sentence_record s.sentences) = c.as_slice.ensures.value ∙ c.in_ok-work.ensures.answered mid s desk in
    let firsts = subst (λ (l : List BatchSentence). AreFirsts s l (first_bodies c.args.number s.sentences)) (sym work) (firsts_stand s c.args.number) in
    on (fails (first_bodies c.args.number s.sentences) firsts))

pub returns-then-not-branch-clause-look : goal.returns-then-not-branch-clause-look
returns-then-not-branch-clause-look g c =
    let first = left_then g.S.Store c.args.conn.now c.read_work.new.conn c.are_firsts.new.conn (left_from c.read_work.ensures.read.read_only) (stays_from c.in_ok-work.ensures.read.read_only) c.are_firsts.ensures.look.left in
    let stays = stays_then g.S.Store c.args.conn.now c.read_work.new.conn c.are_firsts.new.conn (stays_from c.in_ok-work.ensures.read.read_only) c.are_firsts.ensures.look.left c.in_ok-are_firsts.ensures.look.stays in
    look_well first stays (λ s fine name place b has at. fine)

pub returns-in_err-reply-clause-look : goal.returns-in_err-reply-clause-look
returns-in_err-reply-clause-look g c =
    let first = left_then g.S.Store c.args.conn.now c.read_work.new.conn c.are_firsts.new.conn (left_from c.read_work.ensures.read.read_only) (stays_from c.in_ok-work.ensures.read.read_only) c.are_firsts.ensures.look.left in
    let stays = stays_then g.S.Store c.args.conn.now c.read_work.new.conn c.are_firsts.new.conn (stays_from c.in_ok-work.ensures.read.read_only) c.are_firsts.ensures.look.left c.in_ok-are_firsts.ensures.look.stays in
    let residual = c.from_residual-in_err-reply in
    look_ended residual.result c.in_err-reply.field-0.0 residual.ensures.1 first stays c.in_err-reply.ensures.look (λ late s desk fails on name place b has at.
    let mid : HasCleanDisk (state g.S.Store c.read_work.new.conn) = omega (arith, late, c.are_firsts.ensures.look.left.commits_nothing.clean) in
    let read = c.in_ok-work.ensures.answered mid s desk in
    let low = get_within s.batches place b has.there in
    on (fails (omega (arith, at)) (omega (arith, at, low)) (c.as_slice-2.ensures.value ∙ read)))

pub returns-clause-look : goal.returns-clause-look
returns-clause-look g c =
    let first = left_then g.S.Store c.args.conn.now c.read_work.new.conn c.are_firsts.new.conn (left_from c.read_work.ensures.read.read_only) (stays_from c.in_ok-work.ensures.read.read_only) c.are_firsts.ensures.look.left in
    let stays = stays_then g.S.Store c.args.conn.now c.read_work.new.conn c.are_firsts.new.conn (stays_from c.in_ok-work.ensures.read.read_only) c.are_firsts.ensures.look.left c.in_ok-are_firsts.ensures.look.stays in
    look_well (left_then g.S.Store c.args.conn.now c.are_firsts.new.conn c.repeat.new.conn first stays c.repeat.ensures.look.left) (stays_then g.S.Store c.args.conn.now c.are_firsts.new.conn c.repeat.new.conn stays c.repeat.ensures.look.left c.in_ok-reply.ensures.look.stays) (λ s fine name place b has at. fine)
