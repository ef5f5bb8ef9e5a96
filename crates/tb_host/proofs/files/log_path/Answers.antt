use Rattle.std.proofs.Common.{◌≡◌, ◌++◌, ◌∙◌, Err, Ok, Result, ap, codes}
use Rattle.std.specs.String.{string_bytes}
use Rattle.tb_host.specs.Contents.{Path, log_name}
use Rattle.tb_host.specs.declared.causes.FileCause.{FileCause}
use Rattle.tb_host.proofs.Handed.{log_named, weaker}
use Rattle.tb_host.proofs.files.log_path.Goals as goal

pub returns-in-Ok-clause-name : goal.returns-in-Ok-clause-name
returns-in-Ok-clause-name g c = log_named string_bytes _ c.beside.result c.beside.ensures.name

pub returns-in-Err-clause-name : goal.returns-in-Err-clause-name
returns-in-Err-clause-name g c = log_named string_bytes _ c.beside-in-Err.result c.beside-in-Err.ensures.name

pub returns-in-Ok-clause-beside : goal.returns-in-Ok-clause-beside
returns-in-Ok-clause-beside g c =
    weaker (λ name. string_bytes name ≡ c.as_str.result.now ++ codes "-wal")
    (λ name. (real : Result Path FileCause) × g.S.System.IsReal c.args.system.now c.args.path.now real × (string_bytes name ≡ log_name c.args.path.now real))
    c.beside.result c.beside.ensures.name (λ name is. (Ok c.in-Ok.real, c.in-Ok.ensures.said, is ∙ ap (λ p. p ++ codes "-wal") c.as_str.ensures))

pub returns-in-Err-clause-beside : goal.returns-in-Err-clause-beside
returns-in-Err-clause-beside g c =
    weaker (λ name. string_bytes name ≡ c.args.path.now ++ codes "-wal")
    (λ name. (real : Result Path FileCause) × g.S.System.IsReal c.args.system.now c.args.path.now real × (string_bytes name ≡ log_name c.args.path.now real))
    c.beside-in-Err.result c.beside-in-Err.ensures.name (λ name is. (Err c.in-Err.field-0, c.in-Err.ensures.said, is))
