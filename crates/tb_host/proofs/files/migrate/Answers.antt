use Rattle.std.proofs.Common.{◌≡◌, ◌∙◌, ap, is_ok}
use Rattle.std.proofs.lemmas.Bool.{true≢false}
use Rattle.sqlite.specs.Files.{over_files}
use Rattle.tb_host.specs.Causes.{reply_of}
use Rattle.tb_host.specs.Opened.{IsSomeDesk}
use Rattle.tb_host.proofs.Handed.{both, handed, unmigrated}
use Rattle.tb_host.proofs.files.migrate.Goals as goal

pub returns-clause-desk : goal.returns-clause-desk
returns-clause-desk c =
    let made = c.migrate.result in
    handed (λ file. file.desk) _ _ (IsSomeDesk over_files) made c.made_in_file.result
    (c.made_in_file.ensures.made (ap reply_of c.cause_to_migrate-not_a_desk.ensures ∙ unmigrated c.in_ok-version_of.field-0))
    (both _ _ made c.migrate.ensures.limits (both _ _ made c.migrate.ensures.certain c.migrate.ensures.migrated))
    (λ d h. (h.0, h.1.0, λ clean. let it = h.1.1 clean in (it.0, it.2)))

pub returns-clause-reserved : goal.returns-clause-reserved
returns-clause-reserved c = λ reserved. absurd (true≢false (ap is_ok (c.in_ok-version_of.ensures.reserved reserved)))
