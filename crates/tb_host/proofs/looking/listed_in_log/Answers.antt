use Rattle.std.proofs.Common.{◌++◌, ℕ, List, None, Some, codes, subst}
use Rattle.tb_host.specs.Contents.{IsFailedAt, IsListed}
use Rattle.tb_host.proofs.Listed.{by_log}
use Rattle.tb_host.proofs.Unlisted.{by_none}
use Rattle.tb_host.proofs.looking.listed_in_log.Goals as goal

pub returns-clause-listed : goal.returns-clause-listed
returns-clause-listed g c =
    by_log (λ v. (x : List ℕ) × g.S.System.IsBeginning c.args.system.now (c.args.path.now ++ codes "-wal") 4194304 x × IsListed x (Some v))
    c.listed_in.result c.args.in_file c.version_by.result c.version_by.ensures
    (λ v is. (
      c.in_ok-log.log.items,
      c.in_ok-log.ensures.bytes,
      subst (λ bytes. IsListed bytes (Some v)) c.deref.ensures.value (subst (λ l. IsListed c.deref.result.now l) is c.listed_in.ensures),
    ))

pub returns-clause-unlisted : goal.returns-clause-unlisted
returns-clause-unlisted g c =
    by_none (IsFailedAt (g.S.System.IsFailure c.args.system.now) (c.args.path.now ++ codes "-wal"))
    ((x : List ℕ) × g.S.System.IsBeginning c.args.system.now (c.args.path.now ++ codes "-wal") 4194304 x × IsListed x None)
    c.listed_in.result c.args.in_file c.version_by.result c.version_by.ensures
    (λ is. (
      c.in_ok-log.log.items,
      c.in_ok-log.ensures.bytes,
      subst (λ bytes. IsListed bytes None) c.deref.ensures.value (subst (λ l. IsListed c.deref.result.now l) is c.listed_in.ensures),
    ))
