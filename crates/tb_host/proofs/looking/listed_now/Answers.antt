use Rattle.std.proofs.Common.{◌++◌, ℕ, List, None, Some, codes, inl, inr, refl, subst}
use Rattle.std.specs.Fs.{IsFile, file_type}
use Rattle.tb_host.specs.Contents.{IsFailedAt, IsListed, IsUnlisted, ListsDesk}
use Rattle.tb_host.specs.declared.causes.FileCause.TheVariants as file
use Rattle.tb_host.proofs.Listed.{by_either, by_file}
use Rattle.tb_host.proofs.Unlisted.{by_odd, by_rest, some_there}
use Rattle.tb_host.proofs.looking.listed_now.Goals as goal

pub returns-then-is_no_file-clause-lists : goal.returns-then-is_no_file-clause-lists
returns-then-is_no_file-clause-lists g c =
    by_file (ListsDesk (g.S.System.IsBeginning c.args.system.now) c.args.path.now) c.listed_in-in_file.result _ c.ok_or.result c.ok_or.ensures.value
    (λ v is. inl (
      c.in_ok-head.head.items,
      c.in_ok-head.ensures.bytes,
      subst (λ bytes. IsListed bytes (Some v)) c.deref-2.ensures.value (subst (λ l. IsListed c.deref-2.result.now l) is c.listed_in-in_file.ensures),
    ))

pub returns-clause-lists : goal.returns-clause-lists
returns-clause-lists g c =
    by_either (λ v. (x : List ℕ) × g.S.System.IsBeginning c.args.system.now c.args.path.now 65536 x × IsListed x (Some v))
    (λ v. (x : List ℕ) × g.S.System.IsBeginning c.args.system.now (c.args.path.now ++ codes "-wal") 4194304 x × IsListed x (Some v))
    c.listed_in-in_file.result c.listed_in_log.result c.listed_in_log.ensures.listed
    (λ v is. (
      c.in_ok-head.head.items,
      c.in_ok-head.ensures.bytes,
      subst (λ bytes. IsListed bytes (Some v)) c.deref-2.ensures.value (subst (λ l. IsListed c.deref-2.result.now l) is c.listed_in-in_file.ensures),
    ))

pub returns-then-is_no_file-clause-unlisted : goal.returns-then-is_no_file-clause-unlisted
returns-then-is_no_file-clause-unlisted g c =
    let there = g.S.System.IsThere c.args.system.now in
    by_odd (IsUnlisted (g.S.System.IsFailure c.args.system.now) there (g.S.System.IsBeginning c.args.system.now) c.args.path.now) c.listed_in-in_file.result file.OddLog c.ok_or.result c.ok_or.ensures.value
    (inr (inr (inl (
      refl,
      some_there (there (c.args.path.now ++ codes "-wal")) (λ m. ¬ IsFile (file_type m)) c.in_ok-there_beside.field-0
          (c.is_no_file.ensures.0 c.if-is_no_file.true) c.in_ok-there_beside.ensures.there,
    ))))

pub returns-clause-unlisted : goal.returns-clause-unlisted
returns-clause-unlisted g c =
    let begins = g.S.System.IsBeginning c.args.system.now in
    by_rest (IsFailedAt (g.S.System.IsFailure c.args.system.now) (c.args.path.now ++ codes "-wal"))
    ((x : List ℕ) × begins (c.args.path.now ++ codes "-wal") 4194304 x × IsListed x None)
    (IsUnlisted (g.S.System.IsFailure c.args.system.now) (g.S.System.IsThere c.args.system.now) begins c.args.path.now) c.listed_in-in_file.result c.listed_in_log.result c.listed_in_log.ensures.unlisted
    (λ cause failed. inl (inr failed))
    (λ none log. inr (inr (inr (inr (
      refl,
      (
        c.in_ok-head.head.items,
        log.0,
        c.in_ok-head.ensures.bytes,
        subst (λ bytes. IsListed bytes None) c.deref-2.ensures.value (subst (λ l. IsListed c.deref-2.result.now l) none c.listed_in-in_file.ensures),
        log.1,
        log.2,
      ),
    )))))
