use Rattle.std.proofs.Common.{◌∷◌, ◌++◌, sym, ◌∙◌, ap}
use Rattle.std.proofs.lemmas.Bool.{false≢true}
use Rattle.std.specs.List.{join_with_byte}
use Rattle.tb_conllu.specs.Shape.{IsLineText}
use Rattle.tb_conllu.specs.TenFields.{list_of}
use Rattle.tb_conllu.proofs.Held.{line_holds}
use Rattle.tb_conllu.proofs.PartedLines.{parted, passed_line, quiet_text}
use Rattle.tb_conllu.proofs.RowCodes.{row_ok, row_fits}
use Rattle.tb_conllu.proofs.quick.row_next.Goals as goal

pub any_spaced_next-requires : goal.any_spaced_next-requires
any_spaced_next-requires c =
    let p = c.in-Some.fields in
    let line = passed_line c.args.cutter.now c.left-unread.result.now c.left.result.now c.fields_next.new.cutter (join_with_byte 9 (list_of p)) c.before_feed-line.result.now c.left-unread.ensures c.left.ensures c.in-Some.ensures.1 c.before_feed-line.ensures in
    let cut = parted c.before_feed-line.result.now p.id.now p.form.now p.lemma.now p.upos.now p.xpos.now p.feats.now p.head.now p.deprel.now p.deps.now p.misc.now c.in-Some.ensures.0 line in
    record { first = (c.fields_next.new.cutter, c.left-unread.ensures ∙ (rw (sym line) at c.in-Some.ensures.1)); cut = cut.0; fields = cut.2 }

pub is_composed-requires : goal.is_composed-requires
is_composed-requires c =
    let p = c.in-Some.fields in
    let line = passed_line c.args.cutter.now c.left-unread.result.now c.left.result.now c.fields_next.new.cutter (join_with_byte 9 (list_of p)) c.before_feed-line.result.now c.left-unread.ensures c.left.ensures c.in-Some.ensures.1 c.before_feed-line.ensures in
    let cut = parted c.before_feed-line.result.now p.id.now p.form.now p.lemma.now p.upos.now p.xpos.now p.feats.now p.head.now p.deprel.now p.deps.now p.misc.now c.in-Some.ensures.0 line in
    (line_holds c.args.tested c.args.cutter.now c.before_feed-line.result.now c.fields_next.new.cutter c.requires.tested (rw (sym line) at c.in-Some.ensures.1) cut.0).latin

pub returns-clause-row : goal.returns-clause-row
returns-clause-row c =
    let p = c.in-Some.fields in
    let line = passed_line c.args.cutter.now c.left-unread.result.now c.left.result.now c.fields_next.new.cutter (join_with_byte 9 (list_of p)) c.before_feed-line.result.now c.left-unread.ensures c.left.ensures c.in-Some.ensures.1 c.before_feed-line.ensures in
    let cut = parted c.before_feed-line.result.now p.id.now p.form.now p.lemma.now p.upos.now p.xpos.now p.feats.now p.head.now p.deprel.now p.deps.now p.misc.now c.in-Some.ensures.0 line in
    let holds = line_holds c.args.tested c.args.cutter.now c.before_feed-line.result.now c.fields_next.new.cutter c.requires.tested (rw (sym line) at c.in-Some.ensures.1) cut.0 in
    let text : IsLineText c.before_feed-line.result.now = quiet_text c.before_feed-line.result.now c.before_feed-line.utf8 (sym c.in_ok-is_composed.ensures.value ∙ c.if-not-branch.false) (holds.quiet c.requires.quiet) in
    let id = c.in-Some-id_of.ensures in
    let head = c.in-Some-head_of.ensures in
    let tight = sym c.any_spaced_next.ensures ∙ c.if-any_spaced_next.false in
    let same = row_ok c.before_feed-line.result.now p.id.now p.form.now p.lemma.now p.upos.now p.xpos.now p.feats.now p.head.now p.deprel.now p.deps.now p.misc.now c.in-Some-id_of.id c.in-Some-head_of.head cut.1 cut.2 id.0 id.1 tight head.0 head.1 in
    rw c.row_from.ensures (
      row_fits c.before_feed-line.result.now p.id.now p.form.now p.lemma.now p.upos.now p.xpos.now p.feats.now p.head.now p.deprel.now p.deps.now p.misc.now c.in-Some-id_of.id c.in-Some-head_of.head cut.1 cut.2 id.1 id.2 tight head.1 head.2 text,
      c.in-Some.ensures.1 ∙ ap (λ x. x ++ 10 ∷ c.fields_next.new.cutter) (sym line ∙ sym same.1),
    )

pub returns-in_err-is_composed-clause-latin : goal.returns-in_err-is_composed-clause-latin
returns-in_err-is_composed-clause-latin c = λ latin.
    let p = c.in-Some.fields in
    let line = passed_line c.args.cutter.now c.left-unread.result.now c.left.result.now c.fields_next.new.cutter (join_with_byte 9 (list_of p)) c.before_feed-line.result.now c.left-unread.ensures c.left.ensures c.in-Some.ensures.1 c.before_feed-line.ensures in
    let cut = parted c.before_feed-line.result.now p.id.now p.form.now p.lemma.now p.upos.now p.xpos.now p.feats.now p.head.now p.deprel.now p.deps.now p.misc.now c.in-Some.ensures.0 line in
    absurd (false≢true (c.in_err-is_composed.ensures.sure ((line_holds c.args.tested c.args.cutter.now c.before_feed-line.result.now c.fields_next.new.cutter c.requires.tested (rw (sym line) at c.in-Some.ensures.1) cut.0).latin latin)))
