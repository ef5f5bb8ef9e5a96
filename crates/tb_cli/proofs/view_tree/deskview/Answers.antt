use Rattle.std.proofs.Common.{◌≡◌, ◌∙◌, ◌+◌, ap, subst, sym, fold, drop, get_or, arith}
use Rattle.std.proofs.lemmas.List.{at_drop_more}
use Rattle.clap.specs.Words.{App, app_of, with_subcommand}
use Rattle.tb_cli.specs.declared.view_verbs.ViewVerb.TheVariants.{Batches}
use Rattle.tb_cli.specs.View.{view_app_by, view_verbs, with_view_verb, view_app}
use Rattle.tb_cli.proofs.view_tree.deskview.Goals as goal

pub loop-verb-init : goal.loop-verb-init
unfolding view_app
loop-verb-init c = (ap (λ (a : App). fold with_view_verb a view_verbs) c.top-command.ensures.known.0, c.top-command.ensures.known.1)

pub loop-verb-preserved : goal.loop-verb-preserved
unfolding view_verbs
loop-verb-preserved c =
    let i = c.loop-verb.verb-index in
    let a = app_of c.loop-verb.command in
    let sub : app_of c.in_ok-subcommand.field-0 ≡ view_app_by (get_or view_verbs i Batches) = c.in_ok-subcommand.ensures.0 in
    let next : app_of c.in_ok-command.command ≡ with_subcommand a (app_of c.in_ok-subcommand.field-0).top = c.in_ok-command.ensures.0 in
    let grown = next ∙ ap (λ (s : App). with_subcommand a s.top) sub in
    let rest = at_drop_more (fold with_view_verb a) view_verbs i Batches c.loop-verb-test.true in
    (ap (λ (b : App). fold with_view_verb b (drop (i + 1) view_verbs)) grown ∙ sym rest ∙ c.loop-verb.invariant.0, c.in_ok-command.ensures.1)

pub returns : goal.returns
unfolding view_verbs
returns c =
    let last : c.loop-verb.verb-index ≡ 7 = omega (arith, c.loop-verb-test.false, c.loop-verb.auto.verb-index-end) in
    subst (λ i. fold with_view_verb (app_of c.loop-verb.command) (drop i view_verbs) ≡ view_app) last c.loop-verb.invariant.0
