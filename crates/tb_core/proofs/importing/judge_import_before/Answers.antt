use Rattle.std.proofs.Common.{sym, ◌∙◌}
use Rattle.tb_core.proofs.Imports.{named_new}
use Rattle.tb_core.proofs.importing.judge_import_before.Goals as goal

pub returns-in-Free : goal.returns-in-Free
returns-in-Free c = record {
  refused = tt;
  repeated = tt;
  goes = λ s body reached h. named_new s c.args.name.now c.args.user.now body c.args.found c.in-Free.is (sym c.good_names.ensures ∙ c.if-not-good_names.false) reached h;
}
