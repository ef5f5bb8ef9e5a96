use Rattle.std.proofs.Common.{◌≡◌, ◌∙◌, ◌+◌, ap, subst, sym, fold, drop, get_or, arith}
use Rattle.std.proofs.lemmas.List.{at_drop_more}
use Rattle.clap.specs.Words.{App, app_of, with_subcommand}
use Rattle.tb_cli.specs.declared.verbs.Verb.TheVariants.{Check}
use Rattle.tb_cli.specs.Tree.{app_by, verbs, with_verb, desk_app}
use Rattle.tb_cli.proofs.tree.desk.Goals as goal

pub loop-verb-init : goal.loop-verb-init
unfolding desk_app
loop-verb-init c = (ap (λ (a : App). fold with_verb a verbs) c.top-command.ensures.known.0, c.top-command.ensures.known.1)

pub loop-verb-preserved : goal.loop-verb-preserved
unfolding verbs
loop-verb-preserved c =
    let i = c.loop-verb.verb-index in
    let a = app_of c.loop-verb.command in
    let sub : app_of c.in_ok-subcommand.field-0 ≡ app_by (get_or verbs i Check) = c.in_ok-subcommand.ensures.0 in
    let next : app_of c.in_ok-command.command ≡ with_subcommand a (app_of c.in_ok-subcommand.field-0).top = c.in_ok-command.ensures.0 in
    let grown = next ∙ ap (λ (s : App). with_subcommand a s.top) sub in
    let rest = at_drop_more (fold with_verb a) verbs i Check c.loop-verb-test.true in
    (ap (λ (b : App). fold with_verb b (drop (i + 1) verbs)) grown ∙ sym rest ∙ c.loop-verb.invariant.0, c.in_ok-command.ensures.1)

pub returns : goal.returns
unfolding verbs
returns c =
    let last : c.loop-verb.verb-index ≡ 15 = omega (arith, c.loop-verb-test.false, c.loop-verb.auto.verb-index-end) in
    subst (λ i. fold with_verb (app_of c.loop-verb.command) (drop i verbs) ≡ desk_app) last c.loop-verb.invariant.0
