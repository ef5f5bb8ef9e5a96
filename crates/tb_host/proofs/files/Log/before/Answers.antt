use Rattle.std.proofs.Common.{◌≡◌, Result, subst, sym}
use Rattle.std.specs.Global.{Global}
use Rattle.std.specs.String.{string_bytes}
use Rattle.std.specs.declared.io.Error.{Error}
use Rattle.std.specs.declared.string.String.{String}
use Rattle.tb_host.specs.Contents.{Path, log_name, was_there}
use Rattle.tb_host.specs.declared.causes.FileCause.{FileCause}
use Rattle.tb_host.specs.declared.found.Found.{Found}
use Rattle.tb_host.proofs.files.Log.before.Goals as goal

pub returns-clause-beside : goal.returns-clause-beside
returns-clause-beside g c =
    subst (λ (name : String Global). (real : Result Path FileCause) × g.S.System.IsReal c.args.system.now c.args.path.now real × (string_bytes name ≡ log_name c.args.path.now real))
    (sym c.unlocked.ensures.path) c.in_ok-name.ensures.beside

pub returns-clause-there : goal.returns-clause-there
returns-clause-there g c =
    subst (λ (name : String Global). (found : Result Found Error) × g.S.System.IsFound c.args.system.now (string_bytes name) found × (c.unlocked.result.was_there ≡ was_there found))
    (sym c.unlocked.ensures.path) c.unlocked.ensures.there
