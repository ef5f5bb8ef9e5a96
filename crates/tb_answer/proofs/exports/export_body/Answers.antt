use Rattle.std.proofs.Common.{◌++◌, ◌∙◌, Ok, ap, option_map}
use Rattle.tb_core.specs.Machine.{Machine}
use Rattle.tb_store.specs.Represents.{Represents}
use Rattle.tb_answer.specs.Exported.{HasExport}
use Rattle.tb_answer.proofs.Failing.{on_then}
use Rattle.tb_answer.proofs.OrReply.{err_each, export_made, export_plain, export_told}
use Rattle.tb_answer.proofs.exports.export_body.Goals as goal

pub returns-clause-read : goal.returns-clause-read
returns-clause-read g c = record {
  answered = λ clean.
      export_made (λ items. (s : Machine) → Represents g.S.Store c.args.desk.now s → HasExport s (option_map (λ n. n.now) c.args.name) (Ok items)) c.export.result c.body_of_export.result _ c.body_of_export.ensures
      (on_then _ _ c.export.result (c.export.ensures.put clean) (λ put s stands.
      let it = put s stands in
      (it.1.0, it.1.1, it.2 ∙ (ap (λ before. before ++ it.0) c.new-text.ensures.items ∙ it.1.2))));
  reported = λ clean. err_each _ _ c.body_of_export.result (λ s stands.
      export_told s (option_map (λ n. n.now) c.args.name) c.export.result c.body_of_export.result _ c.body_of_export.ensures
      (λ r is. c.export.ensures.refused clean r is s stands) c.export.ensures.bad_name (c.export.ensures.fails clean s stands) (c.export.ensures.cause clean s stands));
  read_only = c.export.ensures.read_only;
}

pub returns-clause-plain : goal.returns-clause-plain
returns-clause-plain g c = export_plain c.export.result c.body_of_export.result _ c.body_of_export.ensures
