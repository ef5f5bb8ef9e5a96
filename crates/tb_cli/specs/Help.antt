-- Inner: no contract beyond this crate cites a definition of this module.
-- The texts of help: what each command does, and how its help ends. Each text is a constant of its command.
use Rattle.std.specs.Prelude.{◌≡◌, Some, option_map}
use Rattle.clap.specs.Words.{Text}
use Rattle.clap.specs.declared.builder.command.Command.{Command}
use Rattle.clap.specs.declared.builder.command.Command.TheViews.{out-Command}
use Rattle.tb_cli.specs.declared.abouts.TheConstants as about
use Rattle.tb_cli.specs.declared.endings.TheConstants as ending
use Rattle.tb_cli.specs.declared.view_abouts.TheConstants as view_about
use Rattle.tb_cli.specs.declared.view_endings.TheConstants as view_ending
use Rattle.tb_cli.specs.declared.verbs.Verb.{Verb}
use Rattle.tb_cli.specs.declared.verbs.Verb.TheVariants as verb
use Rattle.tb_cli.specs.declared.view_verbs.ViewVerb.{ViewVerb}
use Rattle.tb_cli.specs.declared.view_verbs.ViewVerb.TheVariants as view

-- what a command does, as the list of commands shows it
abbrev pub about_text : Verb → Text
about_text verb.Check = about.CHECK.now
about_text verb.New = about.NEW.now
about_text verb.Migrate = about.MIGRATE.now
about_text verb.Import = about.IMPORT.now
about_text verb.Event = about.EVENT.now
about_text verb.Correct = about.CORRECT.now
about_text verb.Pull = about.PULL.now
about_text verb.Restore = about.RESTORE.now
about_text verb.Show = about.SHOW.now
about_text verb.Export = about.EXPORT.now
about_text verb.Totals = about.TOTALS.now
about_text verb.Moves = about.MOVES.now
about_text verb.Search = about.SEARCH.now
about_text verb.Count = about.COUNT.now
about_text verb.Serve = about.SERVE.now

-- the end of a command's help
abbrev pub ending_text : Verb → Text
ending_text verb.Check = ending.CHECK.now
ending_text verb.New = ending.NEW.now
ending_text verb.Migrate = ending.MIGRATE.now
ending_text verb.Import = ending.IMPORT.now
ending_text verb.Event = ending.EVENT.now
ending_text verb.Correct = ending.CORRECT.now
ending_text verb.Pull = ending.PULL.now
ending_text verb.Restore = ending.RESTORE.now
ending_text verb.Show = ending.SHOW.now
ending_text verb.Export = ending.EXPORT.now
ending_text verb.Totals = ending.TOTALS.now
ending_text verb.Moves = ending.MOVES.now
ending_text verb.Search = ending.SEARCH.now
ending_text verb.Count = ending.COUNT.now
ending_text verb.Serve = ending.SERVE.now

-- what a command of deskview does
abbrev pub view_about_text : ViewVerb → Text
view_about_text view.Batches = view_about.BATCHES.now
view_about_text view.Sentences = view_about.SENTENCES.now
view_about_text view.Revisions = view_about.REVISIONS.now
view_about_text view.Find = view_about.FIND.now
view_about_text view.Tree = view_about.TREE.now
view_about_text view.Check = view_about.CHECK.now
view_about_text view.Page = view_about.PAGE.now

-- the end of the help of a command of deskview
abbrev pub view_ending_text : ViewVerb → Text
view_ending_text view.Batches = view_ending.BATCHES.now
view_ending_text view.Sentences = view_ending.SENTENCES.now
view_ending_text view.Revisions = view_ending.REVISIONS.now
view_ending_text view.Find = view_ending.FIND.now
view_ending_text view.Tree = view_ending.TREE.now
view_ending_text view.Check = view_ending.CHECK.now
view_ending_text view.Page = view_ending.PAGE.now

-- the help of a command says this of what it does, and ends so
abbrev pub IsExplainedBy : (about ending : Text) → Command → Type 0
IsExplainedBy about ending command = (option_map (λ t. t.now) (out-Command command).about ≡ Some about)
    × (option_map (λ t. t.now) (out-Command command).after_help ≡ Some ending)
