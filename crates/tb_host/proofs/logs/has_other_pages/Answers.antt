use Rattle.std.proofs.Common.{◌≡◌, ◌⊎◌, ◌↔◌, ℕ, List, [], false, refl, rules, subst}
use Rattle.sqlite_disk.specs.Memory.{memory_bytes}
use Rattle.sqlite_wal.specs.PageSize.{bytes_of}
use Rattle.sqlite_wal.specs.Recovery.{AreFramesOf}
use Rattle.sqlite_wal.specs.declared.error.Error.TheVariants.{Corrupt}
use Rattle.tb_host.specs.Contents.{AreBegun}
use Rattle.tb_host.proofs.OwnLog.{begun_by, not_begun, unread_by}
use Rattle.tb_host.proofs.logs.has_other_pages.Goals as goal

pub returns-in-Ok-clause-begun : goal.returns-in-Ok-clause-begun
returns-in-Ok-clause-begun c =
    begun_by (bytes_of c.args.size) c.args.bytes.now c.in-Ok.pages.items c.are_others.result
    (subst (λ bytes. AreFramesOf (bytes_of c.args.size) bytes c.in-Ok.pages.items) c.requires.holds (c.in-Ok.ensures.ok refl))
    (subst (λ (pages : List ℕ). (c.are_others.result ≡ false) ↔ (pages ≡ []) ⊎ AreBegun c.args.bytes.now pages) c.deref.ensures.value c.are_others.ensures)

pub returns-in-Err-Corrupt-clause-begun : goal.returns-in-Err-Corrupt-clause-begun
returns-in-Err-Corrupt-clause-begun c =
    let corrupt : c.in-Err-Corrupt.field-0 ≡ Corrupt = search rules in
    not_begun (bytes_of c.args.size) c.args.bytes.now
    (unread_by _ _ (bytes_of c.args.size) (memory_bytes c.args.log.now) c.args.bytes.now c.in-Err-Corrupt.field-0 corrupt (c.in-Err-Corrupt.ensures.cause.0 refl) c.requires.holds)
