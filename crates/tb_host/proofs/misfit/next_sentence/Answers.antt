use Rattle.std.proofs.Common.{List, Bor, ℕ, ap, refl, sym}
use Rattle.std.proofs.lemmas.Bool.{true≢false}
use Rattle.std.specs.Prelude.{Err}
use Rattle.tb_core.specs.Machine.{Sentence}
use Rattle.tb_host.proofs.Firsts.{takes_so, unfit_so}
use Rattle.tb_host.specs.Looked.{HasItsRows, IsSentenceRow}
use Rattle.tb_tables.specs.declared.rows.RevisionRow.{RevisionRow}
use Rattle.tb_host.proofs.misfit.next_sentence.Goals as goal

pub returns-then-not-has_its_rows : goal.returns-then-not-has_its_rows
returns-then-not-has_its_rows c = (
  c.revisions_of-own.result.now,
  c.takes_pulled-pulled.result,
  takes_so c.args.number c.revisions_of-own.result.now c.takes_pulled-pulled.result _ _ _ _ _ _ c.revisions_of-own.ensures.cut c.revisions_of-own.ensures.own c.revisions_of-own.ensures.end (ap (λ (b : Bor (List ℕ)). b.now) c.revisions_of-own.ensures.pulled)
      c.takes_pulled-pulled.ensures.taken (λ f. ((c.takes_pulled-pulled.ensures.other f).0, ap (λ (b : Bor (List ℕ)). b.now) (c.takes_pulled-pulled.ensures.other f).1)) (ap (λ (b : Bor (List RevisionRow)). b.now) c.takes_pulled-pulled.ensures.revisions),
  (refl, λ x right. true≢false (sym (c.if-not-has_its_rows.ensures.1 right.0))),
)

pub returns-in-Ok : goal.returns-in-Ok
returns-in-Ok c = (
  c.revisions_of-own.result.now,
  c.takes_pulled-pulled.result,
  takes_so c.args.number c.revisions_of-own.result.now c.takes_pulled-pulled.result _ _ _ _ _ _ c.revisions_of-own.ensures.cut c.revisions_of-own.ensures.own c.revisions_of-own.ensures.end (ap (λ (b : Bor (List ℕ)). b.now) c.revisions_of-own.ensures.pulled)
      c.takes_pulled-pulled.ensures.taken (λ f. ((c.takes_pulled-pulled.ensures.other f).0, ap (λ (b : Bor (List ℕ)). b.now) (c.takes_pulled-pulled.ensures.other f).1)) (ap (λ (b : Bor (List RevisionRow)). b.now) c.takes_pulled-pulled.ensures.revisions),
  (c.in-Ok.ensures.fine.0, (c.has_its_rows.ensures.0 c.if-not-has_its_rows.false, c.in-Ok.ensures.fine.1), c.in-Ok.ensures.fine.2),
)

pub returns-in-Err : goal.returns-in-Err
returns-in-Err c = (
  c.revisions_of-own.result.now,
  c.takes_pulled-pulled.result,
  takes_so c.args.number c.revisions_of-own.result.now c.takes_pulled-pulled.result _ _ _ _ _ _ c.revisions_of-own.ensures.cut c.revisions_of-own.ensures.own c.revisions_of-own.ensures.end (ap (λ (b : Bor (List ℕ)). b.now) c.revisions_of-own.ensures.pulled)
      c.takes_pulled-pulled.ensures.taken (λ f. ((c.takes_pulled-pulled.ensures.other f).0, ap (λ (b : Bor (List ℕ)). b.now) (c.takes_pulled-pulled.ensures.other f).1)) (ap (λ (b : Bor (List RevisionRow)). b.now) c.takes_pulled-pulled.ensures.revisions),
  unfit_so c.in-Err.unfit c.args.number (HasItsRows c.args.batches c.args.row.now c.revisions_of-own.result.now) ((x : Sentence) → ¬ IsSentenceRow c.args.batches c.args.number c.args.row.now c.revisions_of-own.result.now c.takes_pulled-pulled.result x) c.stop_of_unfit.result c.stop_of_unfit.ensures (c.has_its_rows.ensures.0 c.if-not-has_its_rows.false)
      (λ same x right. c.in-Err.ensures.unfit (ap (λ f. Err f) same) x right.1),
)
