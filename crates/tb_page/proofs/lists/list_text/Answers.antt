use Rattle.std.proofs.Common.{inr, refl, subst, sym}
use Rattle.tb_answer.specs.OnlyRead.{IsReadResult}
use Rattle.tb_answer.specs.Viewed.{IsReportedAs}
use Rattle.tb_answer.proofs.Failing.{if_err}
use Rattle.tb_page.specs.Lists.{IsList, LeavesForList, RefusesList}
use Rattle.tb_page.specs.Paths.{list_by}
use Rattle.tb_page.proofs.lists.list_text.Goals as goal

pub returns-in-Batches-clause-read : goal.returns-in-Batches-clause-read
returns-in-Batches-clause-read g c =
    let told = c.view_batches.ensures in
    subst (λ l. IsReadResult g.S.Store c.args.desk.now c.view_batches.new.desk c.view_batches.result (λ s v. IsList s (list_by l) v.items) (λ cause s. IsReportedAs cause (RefusesList s (list_by l)))) (sym c.in-Batches.is) (record {
      answered = told.answered;
      reported = λ clean. if_err c.view_batches.result (told.reported clean) (λ r failed s stands. inr (failed s stands));
      read_only = told.read_only;
    })

pub returns-in-Sentences-clause-read : goal.returns-in-Sentences-clause-read
returns-in-Sentences-clause-read g c =
    let told = c.numbered_sentences.ensures in
    subst (λ l. IsReadResult g.S.Store c.args.desk.now c.numbered_sentences.new.desk c.numbered_sentences.result (λ s v. IsList s (list_by l) v.items) (λ cause s. IsReportedAs cause (RefusesList s (list_by l)))) (sym c.in-Sentences.is) (record {
      answered = told.answered;
      reported = told.reported;
      read_only = told.read_only;
    })

pub returns-in-SentId-clause-read : goal.returns-in-SentId-clause-read
returns-in-SentId-clause-read g c =
    let told = c.with_escaped_id.ensures.read in
    subst (λ l. IsReadResult g.S.Store c.args.desk.now c.with_escaped_id.new.desk c.with_escaped_id.result (λ s v. IsList s (list_by l) v.items) (λ cause s. IsReportedAs cause (RefusesList s (list_by l)))) (sym c.in-SentId.is) (record {
      answered = told.answered;
      reported = told.reported;
      read_only = told.read_only;
    })

pub returns-in-Counts-clause-kept : goal.returns-in-Counts-clause-kept
returns-in-Counts-clause-kept g c =
    subst (λ l. LeavesForList c.args.desk.now c.args.desk.now (list_by l)) (sym c.in-Counts.is) refl

pub returns-in-Batches-clause-kept : goal.returns-in-Batches-clause-kept
returns-in-Batches-clause-kept g c =
    subst (λ l. LeavesForList c.args.desk.now c.view_batches.new.desk (list_by l)) (sym c.in-Batches.is) tt

pub returns-in-Sentences-clause-kept : goal.returns-in-Sentences-clause-kept
returns-in-Sentences-clause-kept g c =
    subst (λ l. LeavesForList c.args.desk.now c.numbered_sentences.new.desk (list_by l)) (sym c.in-Sentences.is) tt

pub returns-in-SentId-clause-kept : goal.returns-in-SentId-clause-kept
returns-in-SentId-clause-kept g c =
    subst (λ l. LeavesForList c.args.desk.now c.with_escaped_id.new.desk (list_by l)) (sym c.in-SentId.is) tt
