use Rattle.std.proofs.Common.{◌∙◌, Err, IfErr, None, Some, ap, inl, inr, refl, subst}
use Rattle.std.proofs.lemmas.Result.{IfErr-weaker, err_from_is_err_and}
use Rattle.std.specs.Path.{path_buf_bytes}
use Rattle.tb_host.specs.Contents.{HasNoJournal, IsUnlistedAlone, LeadsTo, ListsDesk, Path}
use Rattle.tb_host.proofs.Handed.{weaker}
use Rattle.tb_host.proofs.Unlisted.{not_led}
use Rattle.tb_host.proofs.looking.version_of.Goals as goal

pub returns-in-Some-clause-lists : goal.returns-in-Some-clause-lists
returns-in-Some-clause-lists g c =
    let begins = g.S.System.IsBeginning c.args.system.now in
    let target = g.S.System.IsTarget c.args.system.now c.args.path.now in
    let real = g.S.System.IsReal c.args.system.now c.args.path.now in
    let here = g.S.System.IsThere c.args.system.now c.args.path.now in
    let leads : LeadsTo target real here (Some c.in-Some.real) = rw c.in-Some.is at c.in_ok-real.ensures.leads in
    weaker (λ v. ListsDesk begins c.as_str.result.now v × HasNoJournal begins c.as_str.result.now)
    (λ v. (x : Path) × LeadsTo target real here (Some x) × ListsDesk begins (path_buf_bytes x) v × HasNoJournal begins (path_buf_bytes x))
    c.listed_alone.result c.listed_alone.ensures.lists
    (λ v h. (c.in-Some.real, leads, subst (λ p. ListsDesk begins p v) c.as_str.ensures h.0, subst (HasNoJournal begins) c.as_str.ensures h.1))

pub returns-in_err-real-clause-unlisted : goal.returns-in_err-real-clause-unlisted
returns-in_err-real-clause-unlisted g c =
    let p = err_from_is_err_and c.from_residual.result c.from_residual.ensures.1 in
    not_led (g.S.System.IsTarget c.args.system.now c.args.path.now) (g.S.System.IsReal c.args.system.now c.args.path.now) (g.S.System.IsFailure c.args.system.now) (g.S.System.IsThere c.args.system.now) (g.S.System.IsBeginning c.args.system.now) c.args.path.now _ _ (p.1 ∙ ap Err p.2) c.in_err-real.ensures.refused

pub returns-in-None-clause-unlisted : goal.returns-in-None-clause-unlisted
returns-in-None-clause-unlisted g c =
    let target = g.S.System.IsTarget c.args.system.now c.args.path.now in
    let real = g.S.System.IsReal c.args.system.now c.args.path.now in
    let leads : LeadsTo target real (g.S.System.IsThere c.args.system.now c.args.path.now) None = rw c.in-None.is at c.in_ok-real.ensures.leads in
    inr (inl (refl, leads))

pub returns-in-Some-clause-unlisted : goal.returns-in-Some-clause-unlisted
returns-in-Some-clause-unlisted g c =
    let there = g.S.System.IsThere c.args.system.now in
    let begins = g.S.System.IsBeginning c.args.system.now in
    let target = g.S.System.IsTarget c.args.system.now c.args.path.now in
    let real = g.S.System.IsReal c.args.system.now c.args.path.now in
    let leads : LeadsTo target real (there c.args.path.now) (Some c.in-Some.real) = rw c.in-Some.is at c.in_ok-real.ensures.leads in
    IfErr-weaker c.listed_alone.result _ _ (λ cause h. inr (inr (inr (c.in-Some.real, leads, subst (λ p. IsUnlistedAlone (g.S.System.IsFailure c.args.system.now) there begins p cause) c.as_str.ensures h)))) c.listed_alone.ensures.unlisted
