use Rattle.std.proofs.Common.{◌≡◌, Some, inr, subst, sym, rules, string_bytes}
use Rattle.tb_core.specs.declared.refusals.Fault.TheVariants.{Refused}
use Rattle.tb_store.specs.Answers.{RefusesId}
use Rattle.tb_cli.specs.View.{listed_by}
use Rattle.tb_answer.specs.Exported.{IsReportedOfExport}
use Rattle.tb_answer.specs.OnlyRead.{IsReadResult}
use Rattle.tb_answer.specs.Viewed.{IsFoundText, IsReportedAs, IsSentencesText, IsView, IsViewReported, ViewsNone}
use Rattle.tb_answer.proofs.Failing.{if_err}
use Rattle.tb_answer.proofs.OrReply.{found_viewed}
use Rattle.tb_answer.proofs.views.view.Goals as goal

pub returns-in-Batches-clause-read : goal.returns-in-Batches-clause-read
returns-in-Batches-clause-read g c =
    let all = c.view_batches.ensures in
    subst (λ l. IsReadResult g.S.Store c.args.desk.now c.view_batches.new.desk c.view_batches.result (λ s v. IsView s (listed_by l) v.items) (λ cause s. IsViewReported cause s (listed_by l))) (sym c.in-Batches.is) (record {
      answered = all.answered;
      reported = λ clean. if_err c.view_batches.result (all.reported clean) (λ r failed s stands. inr (failed s stands, λ none. none));
      read_only = all.read_only;
    })

pub returns-in-Sentences-clause-read : goal.returns-in-Sentences-clause-read
returns-in-Sentences-clause-read g c =
    let name : c.as_str.result.now ≡ string_bytes c.in-Sentences.name = search rules in
    let all = subst (λ n. IsReadResult g.S.Store c.args.desk.now c.view_sentences.new.desk c.view_sentences.result (λ s v. IsSentencesText s n v.items) (λ cause s. IsReportedOfExport cause s (Some n))) name c.view_sentences.ensures.read in
    subst (λ l. IsReadResult g.S.Store c.args.desk.now c.view_sentences.new.desk c.view_sentences.result (λ s v. IsView s (listed_by l) v.items) (λ cause s. IsViewReported cause s (listed_by l))) (sym c.in-Sentences.is) (record {
      answered = all.answered;
      reported = all.reported;
      read_only = all.read_only;
    })

pub returns-in-Revisions-clause-read : goal.returns-in-Revisions-clause-read
returns-in-Revisions-clause-read g c =
    let all = c.revisions.ensures.read in
    subst (λ l. IsReadResult g.S.Store c.args.desk.now c.revisions.new.desk c.revisions.result (λ s v. IsView s (listed_by l) v.items) (λ cause s. IsViewReported cause s (listed_by l))) (sym c.in-Revisions.is) (record {
      answered = all.answered;
      reported = all.reported;
      read_only = all.read_only;
    })

pub returns-in-Revisions-clause-missing : goal.returns-in-Revisions-clause-missing
returns-in-Revisions-clause-missing g c s stands lacks = c.revisions.ensures.missing s stands (subst (λ l. ViewsNone s (listed_by l)) c.in-Revisions.is lacks)

pub returns-in-Find-clause-read : goal.returns-in-Find-clause-read
returns-in-Find-clause-read g c =
    let id : c.as_str-in-Find.result.now ≡ string_bytes c.in-Find.sent_id = search rules in
    let all = subst (λ n. IsReadResult g.S.Store c.args.desk.now c.view_found.new.desk c.view_found.result (λ s v. IsFoundText s n v.items) (λ cause s. IsReportedAs cause (λ why. RefusesId s n (Refused why)))) id c.view_found.ensures in
    subst (λ l. IsReadResult g.S.Store c.args.desk.now c.view_found.new.desk c.view_found.result (λ s v. IsView s (listed_by l) v.items) (λ cause s. IsViewReported cause s (listed_by l))) (sym c.in-Find.is) (record {
      answered = all.answered;
      reported = λ clean. if_err c.view_found.result (all.reported clean) (λ r told s stands. found_viewed s (string_bytes c.in-Find.sent_id) r (told s stands));
      read_only = all.read_only;
    })

pub returns-in-Tree-clause-read : goal.returns-in-Tree-clause-read
returns-in-Tree-clause-read g c =
    let all = c.tree.ensures.read in
    subst (λ l. IsReadResult g.S.Store c.args.desk.now c.tree.new.desk c.tree.result (λ s v. IsView s (listed_by l) v.items) (λ cause s. IsViewReported cause s (listed_by l))) (sym c.in-Tree.is) (record {
      answered = all.answered;
      reported = all.reported;
      read_only = all.read_only;
    })

pub returns-in-Tree-clause-missing : goal.returns-in-Tree-clause-missing
returns-in-Tree-clause-missing g c s stands lacks = c.tree.ensures.missing s stands (subst (λ l. ViewsNone s (listed_by l)) c.in-Tree.is lacks)
