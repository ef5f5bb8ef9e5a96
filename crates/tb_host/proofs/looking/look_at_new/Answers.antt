use Rattle.std.proofs.Common.{◌∙◌, Err, ap, inl, inr, refl, subst}
use Rattle.std.proofs.lemmas.Result.{err_from_is_err_and}
use Rattle.tb_host.specs.Contents.{IsBlank, IsNoPlace}
use Rattle.tb_host.proofs.Unlisted.{by_log, refused_as, same_head}
use Rattle.tb_host.proofs.looking.look_at_new.Goals as goal

pub returns-clause-new : goal.returns-clause-new
returns-clause-new g c = record {
  head = c.in_ok-head.head.items;
  begins = c.in_ok-head.ensures.bytes;
  blank = subst IsBlank c.deref.ensures.value c.in_ok-blank.ensures;
  journal = c.in_ok-has_journal.ensures.none c.if-branch.false;
  log = c.in_ok-has_log_of_another.ensures.none c.if-branch-2.false;
}

pub returns-in_err-blank-clause-refused : goal.returns-in_err-blank-clause-refused
returns-in_err-blank-clause-refused g c =
    let p = err_from_is_err_and c.from_residual-in_err-blank.result c.from_residual-in_err-blank.ensures.1 in
    refused_as (IsNoPlace (g.S.System.IsFailure c.args.system.now) (g.S.System.IsThere c.args.system.now) (g.S.System.IsBeginning c.args.system.now) c.args.path.now) _ _ (p.1 ∙ ap Err p.2)
    (inr (inr (inl (c.in_ok-head.head.items, c.in_ok-head.ensures.bytes, same_head _ _ _ c.deref.ensures.value c.in_err-blank.ensures))))

pub returns-then-branch-clause-refused : goal.returns-then-branch-clause-refused
returns-then-branch-clause-refused g c = inr (inr (inr (inl (refl, c.in_ok-has_journal.ensures.some c.if-branch.true))))

pub returns-in_err-has_log_of_another-clause-refused : goal.returns-in_err-has_log_of_another-clause-refused
returns-in_err-has_log_of_another-clause-refused g c =
    let p = err_from_is_err_and c.from_residual-in_err-has_log_of_another.result c.from_residual-in_err-has_log_of_another.ensures.1 in
    refused_as (IsNoPlace (g.S.System.IsFailure c.args.system.now) (g.S.System.IsThere c.args.system.now) (g.S.System.IsBeginning c.args.system.now) c.args.path.now) _ _ (p.1 ∙ ap Err p.2)
    (by_log (g.S.System.IsFailure c.args.system.now) (g.S.System.IsThere c.args.system.now) (g.S.System.IsBeginning c.args.system.now) c.args.path.now _ c.in_err-has_log_of_another.ensures.cause)

pub returns-then-branch-2-clause-refused : goal.returns-then-branch-2-clause-refused
returns-then-branch-2-clause-refused g c =
    inr (inr (inr (inr (inr (refl, c.in_ok-has_log_of_another.ensures.some c.if-branch-2.true)))))
