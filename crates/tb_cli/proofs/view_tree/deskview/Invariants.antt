use Rattle.std.proofs.Common.{◌≡◌, fold, drop, false}
use Rattle.clap.specs.Words.{app_of}
use Rattle.clap.specs.declared.Command.TheViews.{out-Command}
use Rattle.tb_cli.specs.View.{view_verbs, with_view_verb, view_app}
use Rattle.tb_cli.proofs.view_tree.deskview.Given as goal

abbrev pub invariant-loop-verb : goal.invariant-loop-verb
invariant-loop-verb l = (fold with_view_verb (app_of l.command) (drop l.verb-index view_verbs) ≡ view_app) × ((out-Command l.command).has_globals ≡ false)
