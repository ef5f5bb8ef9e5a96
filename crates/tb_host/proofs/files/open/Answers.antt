use Rattle.std.proofs.Common.{◌≡◌, ap, is_ok}
use Rattle.std.proofs.lemmas.Bool.{true≢false}
use Rattle.sqlite.specs.Files.{over_files}
use Rattle.tb_host.specs.Opened.{IsSomeDesk}
use Rattle.tb_host.proofs.Handed.{both, handed}
use Rattle.tb_host.proofs.files.open.Goals as goal

pub returns-clause-desk : goal.returns-clause-desk
returns-clause-desk c =
    let made = c.adopt.result in
    handed (λ file. file.desk) _ _ (IsSomeDesk over_files) made c.opened_in_file.result c.opened_in_file.ensures.opened
    (both _ _ made c.adopt.ensures.limits (both _ _ made c.adopt.ensures.certain c.adopt.ensures.adopted))
    (λ d h. (h.0, h.1.0, λ clean. let it = h.1.1 clean in (it.0, it.2)))

pub returns-clause-reserved : goal.returns-clause-reserved
returns-clause-reserved c = λ reserved. absurd (true≢false (ap is_ok (c.in_ok-look.ensures reserved)))
