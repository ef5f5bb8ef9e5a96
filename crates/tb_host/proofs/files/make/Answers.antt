use Rattle.std.proofs.Common.{◌≡◌, refl, sym, ap, is_ok, arith}
use Rattle.std.proofs.lemmas.Bool.{true≢false}
use Rattle.sqlite.specs.Files.{file_state, over_files}
use Rattle.sqlite.specs.State.{HasCleanDisk}
use Rattle.tb_host.specs.Opened.{IsMadeDesk}
use Rattle.tb_host.proofs.Handed.{both, handed}
use Rattle.tb_host.proofs.files.make.Goals as goal

pub returns-clause-desk : goal.returns-clause-desk
returns-clause-desk c =
    let made = c.make.result in
    let given = c.make.ensures in
    handed (λ file. file.desk) _ _ (IsMadeDesk over_files) made c.made_in_file.result (c.made_in_file.ensures.made refl)
    (both _ _ made given.limits (both _ _ made given.certain (both _ _ made given.blank (both _ _ made given.crash given.made))))
    (λ d h. (
      h.0,
      h.1.0,
      λ clean.
          let before : HasCleanDisk (file_state c.in-Ok.conn) = omega (arith, clean, h.1.1.1.0.clean) in
          let opened = c.in-Ok.ensures.opened before in
          h.1.1.1.1 clean record {
            autocommit = c.in-Ok.ensures.new;
            is_open = opened.0.is_open;
            schema = h.1.1.0;
            settled = sym opened.0.clean;
          },
    ))

pub returns-in-Err-clause-reserved : goal.returns-in-Err-clause-reserved
returns-in-Err-clause-reserved c = λ reserved. absurd (true≢false (ap is_ok (c.in_ok-may_become_desk.ensures.reserved reserved)))
