use Rattle.std.proofs.Common.{ℕ, List, subst}
use Rattle.std.proofs.lemmas.Result.{on_ok_weaker}
use Rattle.std.specs.Io.KnownBytes.{Appends}
use Rattle.std.specs.Prelude.{OnErr}
use Rattle.tb_conllu.specs.Sunk.{AppendsPart}
use Rattle.tb_report.proofs.table.write_csv.Goals as goal

pub returns-clause-written : goal.returns-clause-written
returns-clause-written g c =
    let old = g.S.Sink.held c.args.out.now in
    let new = g.S.Sink.held c.put_text.new.out in
    let table : Appends old new c.deref.result.now → (text : List ℕ) × g.T.Table.HasCsv c.args.table.now text × Appends old new text =
    λ put. (c.in-Ok.text.items, c.in-Ok.ensures, subst (Appends old new) c.deref.ensures.value put) in
    on_ok_weaker c.put_text.result table c.put_text.ensures.written

pub returns-clause-part : goal.returns-clause-part
returns-clause-part g c =
    let part = AppendsPart (g.S.Sink.held c.args.out.now) (g.S.Sink.held c.put_text.new.out) in
    λ failed. (c.in-Ok.text.items, c.in-Ok.ensures, subst part c.deref.ensures.value (subst (λ r. OnErr r (part c.deref.result.now)) failed c.put_text.ensures.part))
