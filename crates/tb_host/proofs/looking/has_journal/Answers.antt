use Rattle.std.proofs.Common.{◌≡◌, ◌++◌, ◌∙◌, codes, inl, inr, subst, sym, true}
use Rattle.std.specs.Fs.{IsFile, file_type}
use Rattle.tb_host.specs.Contents.{is_hot}
use Rattle.tb_host.proofs.Unlisted.{some_there}
use Rattle.tb_host.proofs.looking.has_journal.Goals as goal

pub returns-then-is_no_file-clause-some : goal.returns-then-is_no_file-clause-some
returns-then-is_no_file-clause-some g c _ =
    inl (some_there (g.S.System.IsThere c.args.system.now (c.args.path.now ++ codes "-journal")) (λ m. ¬ IsFile (file_type m)) c.in_ok-there_beside.field-0
    (c.is_no_file.ensures.0 c.if-is_no_file.true) c.in_ok-there_beside.ensures.there)

pub returns-clause-some : goal.returns-clause-some
returns-clause-some g c hot =
    inr (c.in_ok-first.first.items, c.in_ok-first.ensures.bytes, subst (λ b. is_hot b ≡ true) c.deref.ensures.value (sym c.is_hot.ensures ∙ hot))
