use Rattle.std.proofs.Common.{◌∙◌, Err, None, Some, ap, inr, subst}
use Rattle.std.proofs.lemmas.Result.{IfErr-weaker, err_from_is_err_and}
use Rattle.tb_host.specs.Contents.{IsNoPlace, IsUnmakeable, LeadsTo, MayBecomeDesk}
use Rattle.tb_host.proofs.Led.{on_weaker}
use Rattle.tb_host.proofs.Unlisted.{not_made, refused_as}
use Rattle.tb_host.proofs.looking.may_become_desk.Goals as goal

pub returns-in-Some-clause-new : goal.returns-in-Some-clause-new
returns-in-Some-clause-new g c =
    let may = MayBecomeDesk (g.S.System.IsThere c.args.system.now) (g.S.System.IsBeginning c.args.system.now) in
    on_weaker c.look_at_new.result c.look_at_new.ensures.new
    (λ new. (Some c.in-Some.real, rw c.in-Some.is at c.in_ok-real.ensures.leads, subst may c.as_str.ensures new))

pub returns-in_err-real-clause-refused : goal.returns-in_err-real-clause-refused
returns-in_err-real-clause-refused g c =
    let p = err_from_is_err_and c.from_residual.result c.from_residual.ensures.1 in
    let target = g.S.System.IsTarget c.args.system.now c.args.path.now in
    let real = g.S.System.IsReal c.args.system.now c.args.path.now in
    let there = g.S.System.IsThere c.args.system.now in
    let begins = g.S.System.IsBeginning c.args.system.now in
    let fails = g.S.System.IsFailure c.args.system.now in
    refused_as (IsUnmakeable target real fails there begins c.args.path.now) _ _ (p.1 ∙ ap Err p.2)
    (not_made fails there begins c.args.path.now target real _ c.in_err-real.ensures.refused)

pub returns-in-Some-clause-refused : goal.returns-in-Some-clause-refused
returns-in-Some-clause-refused g c =
    let there = g.S.System.IsThere c.args.system.now in
    let begins = g.S.System.IsBeginning c.args.system.now in
    let target = g.S.System.IsTarget c.args.system.now c.args.path.now in
    let real = g.S.System.IsReal c.args.system.now c.args.path.now in
    let leads : LeadsTo target real (there c.args.path.now) (Some c.in-Some.real) = rw c.in-Some.is at c.in_ok-real.ensures.leads in
    IfErr-weaker c.look_at_new.result _ _ (λ cause h. inr (inr (Some c.in-Some.real, leads, subst (λ p. IsNoPlace (g.S.System.IsFailure c.args.system.now) there begins p cause) c.as_str.ensures h))) c.look_at_new.ensures.refused

pub returns-in-None-clause-refused : goal.returns-in-None-clause-refused
returns-in-None-clause-refused g c =
    let target = g.S.System.IsTarget c.args.system.now c.args.path.now in
    let real = g.S.System.IsReal c.args.system.now c.args.path.now in
    let leads : LeadsTo target real (g.S.System.IsThere c.args.system.now c.args.path.now) None = rw c.in-None.is at c.in_ok-real.ensures.leads in
    IfErr-weaker c.look_at_new-in-None.result _ _ (λ cause h. inr (inr (None, leads, h))) c.look_at_new-in-None.ensures.refused
