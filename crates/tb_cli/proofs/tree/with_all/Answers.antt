use Rattle.std.proofs.Common.{◌≡◌, ◌∙◌, ◌+◌, List, ap, subst, sym, fold, drop, get_or, arith}
use Rattle.std.proofs.lemmas.List.{at_drop_more, drop_all}
use Rattle.clap.specs.Words.{App, Rule, app_of, rule_of, with_rule}
use Rattle.tb_cli.specs.declared.arguments.Argument.{Argument}
use Rattle.tb_cli.specs.declared.arguments.Argument.TheVariants.{Desk}
use Rattle.tb_cli.specs.Arguments.{argument_rule, with_argument}
use Rattle.tb_cli.proofs.tree.with_all.Goals as goal

pub loop-argument-preserved : goal.loop-argument-preserved
loop-argument-preserved c =
    let arguments = c.args.arguments.now in
    let i = c.loop-argument.argument-index in
    let a = app_of c.loop-argument.command in
    let rule : rule_of c.arg_of.result ≡ argument_rule (get_or arguments i Desk) = c.arg_of.ensures.rule.0 in
    let next : app_of c.in_ok-command.command ≡ with_rule a (rule_of c.arg_of.result) = c.in_ok-command.ensures.0 in
    let grown = next ∙ ap (λ (r : Rule). with_rule a r) rule in
    let rest = at_drop_more (fold with_argument a) arguments i Desk c.loop-argument-test.true in
    (ap (λ (b : App). fold with_argument b (drop (i + 1) arguments)) grown ∙ sym rest ∙ c.loop-argument.invariant.0, c.in_ok-command.ensures.1)

pub returns : goal.returns
returns c =
    let arguments = c.args.arguments.now in
    let last = drop_all c.loop-argument.argument-index arguments (omega (arith, c.loop-argument-test.false)) in
    (subst (λ (rest : List Argument). fold with_argument (app_of c.loop-argument.command) rest ≡ fold with_argument (app_of c.args.command) arguments) last c.loop-argument.invariant.0, c.loop-argument.invariant.1)
