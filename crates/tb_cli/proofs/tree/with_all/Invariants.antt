use Rattle.std.proofs.Common.{◌≡◌, fold, drop, false}
use Rattle.clap.specs.Words.{app_of}
use Rattle.clap.specs.declared.Command.TheViews.{out-Command}
use Rattle.tb_cli.specs.Arguments.{with_argument}
use Rattle.tb_cli.proofs.tree.with_all.Given as goal

abbrev pub invariant-loop-argument : goal.invariant-loop-argument
invariant-loop-argument l =
    (fold with_argument (app_of l.command) (drop l.argument-index l.arguments) ≡ fold with_argument (app_of l.initial.command) l.arguments)
    × ((out-Command l.command).has_globals ≡ false)
