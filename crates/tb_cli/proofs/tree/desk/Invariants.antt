use Rattle.std.proofs.Common.{◌≡◌, fold, drop, false}
use Rattle.clap.specs.Words.{app_of}
use Rattle.clap.specs.declared.Command.TheViews.{out-Command}
use Rattle.tb_cli.specs.Tree.{verbs, with_verb, desk_app}
use Rattle.tb_cli.proofs.tree.desk.Given as goal

abbrev pub invariant-loop-verb : goal.invariant-loop-verb
invariant-loop-verb l = (fold with_verb (app_of l.command) (drop l.verb-index verbs) ≡ desk_app) × ((out-Command l.command).has_globals ≡ false)
