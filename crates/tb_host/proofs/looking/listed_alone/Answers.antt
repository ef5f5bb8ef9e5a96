use Rattle.std.proofs.Common.{◌∙◌, Err, IfErr, ap, inl, inr, refl, subst, sym}
use Rattle.std.proofs.lemmas.Result.{IfErr-weaker, err_from_is_err_and}
use Rattle.tb_host.specs.Contents.{HasNoJournal, IsUnlistedAlone, ListsDesk}
use Rattle.tb_host.proofs.Handed.{weaker}
use Rattle.tb_host.proofs.looking.listed_alone.Goals as goal

pub returns-clause-lists : goal.returns-clause-lists
returns-clause-lists g c =
    weaker (ListsDesk (g.S.System.IsBeginning c.args.system.now) c.args.path.now)
    (λ v. ListsDesk (g.S.System.IsBeginning c.args.system.now) c.args.path.now v × HasNoJournal (g.S.System.IsBeginning c.args.system.now) c.args.path.now)
    c.listed.result c.listed.ensures.lists (λ v lists. (lists, c.in_ok-has_journal.ensures.none c.if-branch.false))

pub returns-in_err-has_journal-clause-unlisted : goal.returns-in_err-has_journal-clause-unlisted
returns-in_err-has_journal-clause-unlisted g c =
    let p = err_from_is_err_and c.from_residual.result c.from_residual.ensures.1 in
    subst (λ r. IfErr r (IsUnlistedAlone (g.S.System.IsFailure c.args.system.now) (g.S.System.IsThere c.args.system.now) (g.S.System.IsBeginning c.args.system.now) c.args.path.now)) (sym (p.1 ∙ ap Err p.2))
    (inr (inl c.in_err-has_journal.ensures.cause))

pub returns-then-branch-clause-unlisted : goal.returns-then-branch-clause-unlisted
returns-then-branch-clause-unlisted g c = inl (refl, c.in_ok-has_journal.ensures.some c.if-branch.true)

pub returns-clause-unlisted : goal.returns-clause-unlisted
returns-clause-unlisted g c = IfErr-weaker c.listed.result _ _ (λ cause h. inr (inr h)) c.listed.ensures.unlisted
