use Rattle.std.proofs.Common.{ℕ, ◌≡◌, arith, rules, subst, sym, inl, ◌∙◌}
use Rattle.sqlite.specs.State.{HasCleanDisk}
use Rattle.sqlite.specs.Held.{state}
use Rattle.tb_tables.specs.Records.{Revision}
use Rattle.tb_tables.specs.Changes.{Changes, with_sentence, with_revision}
use Rattle.tb_tables.specs.Commands.{NewSentenceRecord, with_item}
use Rattle.tb_tables.proofs.WriteCommands.{changes_then}
use Rattle.tb_tables.proofs.importing.insert_item.Goals as goal
use Rattle.tb_tables.specs.Failing.{IsRoomFault, IsWant, IsShort, AreUnique, NeedsNoFaultOnRevisions}
use Rattle.tb_tables.proofs.Apart.{unique_sentence}
use Rattle.tb_tables.proofs.WriteFaults.{handed_on, second_blames, rowids_after}

pub returns-clause-ok : goal.returns-clause-ok
returns-clause-ok g c clean inside d at =
    let old = state g.S.Store c.args.tx.now.conn.now in
    let mid = state g.S.Store c.insert_sentence.new.tx.conn.now in
    let new = state g.S.Store c.insert_revision.new.tx.conn.now in
    let item : NewSentenceRecord = record { sent_id = c.item.inside.sent_id.now; words = c.item.inside.words; body = c.item.inside.body.now } in
    let same : item ≡ c.args.item.now = search rules in
    let was : HasCleanDisk mid = omega (arith, c.insert_revision.ensures.survives.clean) in
    let between = with_sentence d (record { sent_id = item.sent_id; batch = c.args.batch; rev = 1; words = item.words }) in
    let r : ℕ → Revision = λ n. record { sent = n; rev = 1; who = c.args.who.now; body = item.body } in
    let one = c.in_ok-insert_sentence.ensures.ok was inside d at in
    let two = c.in_ok-insert_revision.ensures.ok clean one.inside between in
    let made = changes_then old mid new d between (with_revision between (r c.args.number)) one two in
    let numbered = subst (λ n. Changes old new d (with_revision between (r n))) at made in
    subst (λ i. Changes old new d (with_item c.args.batch c.args.who.now d i)) same numbered

pub returns-in_err-insert_sentence-clause-fails : goal.returns-in_err-insert_sentence-clause-fails
returns-in_err-insert_sentence-clause-fails g c clean unlimited inside d stands at unique =
    let item : NewSentenceRecord = record { sent_id = c.item.inside.sent_id.now; words = c.item.inside.words; body = c.item.inside.body.now } in
    let same : item ≡ c.args.item.now = search rules in
    let all = subst (λ i. AreUnique (with_item c.args.batch c.args.who.now d i)) (sym same) unique in
    let apart = unique_sentence c.args.batch c.args.who.now d item all in
    let fault = c.in_err-insert_sentence.ensures.fails clean unlimited inside d stands at apart in
    handed_on IsRoomFault c.from_residual.result c.in_err-insert_sentence.field-0.0 c.from_residual.ensures.1 (inl fault)

pub returns-in_err-insert_sentence-clause-wants : goal.returns-in_err-insert_sentence-clause-wants
returns-in_err-insert_sentence-clause-wants g c good clean unlimited inside d stands at unique who short ids =
    let item : NewSentenceRecord = record { sent_id = c.item.inside.sent_id.now; words = c.item.inside.words; body = c.item.inside.body.now } in
    let same : item ≡ c.args.item.now = search rules in
    let all = subst (λ i. AreUnique (with_item c.args.batch c.args.who.now d i)) (sym same) unique in
    let apart = unique_sentence c.args.batch c.args.who.now d item all in
    let fault = c.in_err-insert_sentence.ensures.wants good clean unlimited inside d stands at apart (subst (λ (i : NewSentenceRecord). IsShort i.sent_id) (sym same) short.sent_id) in
    handed_on IsWant c.from_residual.result c.in_err-insert_sentence.field-0.0 c.from_residual.ensures.1 fault

pub returns-in_err-insert_revision-clause-fails : goal.returns-in_err-insert_revision-clause-fails
returns-in_err-insert_revision-clause-fails g c clean unlimited inside d stands at unique =
    let mid = state g.S.Store c.insert_sentence.new.tx.conn.now in
    let item : NewSentenceRecord = record { sent_id = c.item.inside.sent_id.now; words = c.item.inside.words; body = c.item.inside.body.now } in
    let same : item ≡ c.args.item.now = search rules in
    let was : HasCleanDisk mid = omega (arith, c.insert_revision.ensures.survives.clean) in
    let between = with_sentence d (record { sent_id = item.sent_id; batch = c.args.batch; rev = 1; words = item.words }) in
    let r : ℕ → Revision = λ n. record { sent = n; rev = 1; who = c.args.who.now; body = item.body } in
    let all = subst (λ i. AreUnique (with_item c.args.batch c.args.who.now d i)) (sym same) unique in
    let apart = subst (λ n. AreUnique (with_revision between (r n))) (sym at) all in
    let one = c.in_ok-insert_sentence.ensures.ok was inside d at in
    let free = c.insert_sentence.ensures.survives.limit ∙ unlimited in
    let fault = c.in_err-insert_revision.ensures.fails clean free one.inside between (one.stands stands) apart in
    handed_on IsRoomFault c.from_residual-in_err-insert_revision.result c.in_err-insert_revision.field-0.0 c.from_residual-in_err-insert_revision.ensures.1 fault

pub returns-in_err-insert_revision-clause-wants : goal.returns-in_err-insert_revision-clause-wants
returns-in_err-insert_revision-clause-wants g c good clean unlimited inside d stands at unique who short ids =
    let mid = state g.S.Store c.insert_sentence.new.tx.conn.now in
    let item : NewSentenceRecord = record { sent_id = c.item.inside.sent_id.now; words = c.item.inside.words; body = c.item.inside.body.now } in
    let same : item ≡ c.args.item.now = search rules in
    let was : HasCleanDisk mid = omega (arith, c.insert_revision.ensures.survives.clean) in
    let between = with_sentence d (record { sent_id = item.sent_id; batch = c.args.batch; rev = 1; words = item.words }) in
    let r : ℕ → Revision = λ n. record { sent = n; rev = 1; who = c.args.who.now; body = item.body } in
    let all = subst (λ i. AreUnique (with_item c.args.batch c.args.who.now d i)) (sym same) unique in
    let apart = subst (λ n. AreUnique (with_revision between (r n))) (sym at) all in
    let one = c.in_ok-insert_sentence.ensures.ok was inside d at in
    let free = c.insert_sentence.ensures.survives.limit ∙ unlimited in
    let left = rowids_after (state g.S.Store c.args.tx.now.conn.now) mid d between 0 1 1 one (omega arith) (omega arith) ids in
    second_blames g.S.Store c.args.tx.now.conn.now c.insert_sentence.new.tx.conn.now c.insert_revision.new.tx.conn.now IsWant c.from_residual-in_err-insert_revision.result c.in_err-insert_revision.field-0.0 c.from_residual-in_err-insert_revision.ensures.1 c.insert_sentence.ensures.survives c.insert_revision.ensures.survives (λ still whole. c.in_err-insert_revision.ensures.wants whole still free one.inside between (one.stands stands) apart who (subst (λ (i : NewSentenceRecord). IsShort i.body) (sym same) short.body) left) clean good

pub returns-in_err-insert_sentence-clause-cause : goal.returns-in_err-insert_sentence-clause-cause
returns-in_err-insert_sentence-clause-cause g c clean good = handed_on NeedsNoFaultOnRevisions c.from_residual.result c.in_err-insert_sentence.field-0.0 c.from_residual.ensures.1 (inl (c.in_err-insert_sentence.ensures.cause clean good))

pub returns-in_err-insert_revision-clause-cause : goal.returns-in_err-insert_revision-clause-cause
returns-in_err-insert_revision-clause-cause g c clean good =
    second_blames g.S.Store c.args.tx.now.conn.now c.insert_sentence.new.tx.conn.now c.insert_revision.new.tx.conn.now NeedsNoFaultOnRevisions c.from_residual-in_err-insert_revision.result c.in_err-insert_revision.field-0.0 c.from_residual-in_err-insert_revision.ensures.1
    c.insert_sentence.ensures.survives c.insert_revision.ensures.survives c.in_err-insert_revision.ensures.cause clean good
