-- The commands, as they are declared to clap.
use Rattle.std.specs.Prelude.{◌≡◌, List, true, false, [], ◌∷◌, codes, Some, fold}
use Rattle.clap.specs.Words.{App, Rule, Text, app_of, rule_of, new_app, new_rule, with_rule, with_subcommand}
use Rattle.clap.specs.declared.builder.command.Command.{Command}
use Rattle.clap.specs.declared.builder.command.Command.TheViews.{out-Command}
use Rattle.clap.specs.declared.builder.arg.Arg.{Arg}
use Rattle.tb_cli.specs.declared.verbs.Verb.{Verb}
use Rattle.tb_cli.specs.declared.verbs.Verb.TheVariants as verb

-- an option that takes a value
abbrev pub option_rule : Text → Rule
option_rule name = record (new_rule name) { long = Some name }

-- an option that is required
abbrev pub needed_rule : Text → Rule
needed_rule name = record (option_rule name) { required = true }

-- an option with a default value
abbrev pub default_rule : Text → Text → Rule
default_rule name value = record (option_rule name) { defaults = value ∷ [] }

-- a word that is required
abbrev pub word_rule : Text → Rule
word_rule name = record (new_rule name) { required = true }

-- a word that may be missing
abbrev pub optional_rule : Text → Rule
optional_rule name = new_rule name

-- clap knows this of a command, and no argument of it holds for its subcommands too
abbrev pub IsKnownAs : App → Command → Type 0
IsKnownAs app command = (app_of command ≡ app) × ((out-Command command).has_globals ≡ false)

-- clap knows this of an argument
abbrev pub HasRule : Rule → Arg → Type 0
HasRule rule arg = (rule_of arg ≡ rule) × (arg.global ≡ false)

abbrev pub with_db : App → App
with_db a = with_rule a (option_rule (codes "db"))

abbrev pub with_db_and_user : App → App
with_db_and_user a = with_rule (with_db a) (needed_rule (codes "user"))

abbrev pub with_db_and_strategy : App → App
with_db_and_strategy a = with_rule (with_db a) (default_rule (codes "strategy") (codes "longest"))

-- a command by a user on what a word names
abbrev pub with_user_and_word : Text → Text → App
with_user_and_word name word = with_rule (with_db_and_user (new_app name)) (word_rule word)

-- a command that works on a file and requires `--db`
abbrev pub in_file_app : Text → App
in_file_app name = with_rule (new_app name) (needed_rule (codes "db"))

abbrev pub with_query : App → App
with_query a = with_rule a (word_rule (codes "query"))

abbrev pub event_app : App
event_app = with_rule (with_user_and_word (codes "event") (codes "name")) (word_rule (codes "event"))

abbrev pub correct_app : App
correct_app = with_rule (with_user_and_word (codes "correct") (codes "no")) (word_rule (codes "base"))

abbrev pub show_app : App
show_app = with_rule (with_rule (with_db (new_app (codes "show"))) (option_rule (codes "rev"))) (word_rule (codes "no"))

abbrev pub export_app : App
export_app = with_rule (with_db (new_app (codes "export"))) (optional_rule (codes "name"))

abbrev pub search_app : App
search_app =
    with_query (with_rule (with_db_and_strategy (new_app (codes "search"))) (default_rule (codes "context") (codes "5")))

abbrev pub count_app : App
count_app = with_query (with_rule (with_db_and_strategy (new_app (codes "count"))) (word_rule (codes "attribute")))

abbrev pub serve_app : App
serve_app = with_rule (with_rule (with_db (new_app (codes "serve"))) (needed_rule (codes "port"))) (default_rule
    (codes "requests") (codes "1000000000"))

-- a program of this name, with its version
abbrev pub program_app : Text → App
program_app name = record { top = record (new_app name).top { has_version = true }; subs = [] }

-- the program's name and version
abbrev pub top_app : App
top_app = program_app (codes "treedesk")

-- the word of each command
abbrev pub word_of : Verb → Text
word_of verb.Check = codes "check"
word_of verb.New = codes "new"
word_of verb.Migrate = codes "migrate"
word_of verb.Import = codes "import"
word_of verb.Event = codes "event"
word_of verb.Correct = codes "correct"
word_of verb.Pull = codes "pull"
word_of verb.Restore = codes "restore"
word_of verb.Show = codes "show"
word_of verb.Export = codes "export"
word_of verb.Totals = codes "totals"
word_of verb.Moves = codes "moves"
word_of verb.Search = codes "search"
word_of verb.Count = codes "count"
word_of verb.Serve = codes "serve"

-- each command
abbrev pub app_by : Verb → App
app_by verb.Check = new_app (codes "check")
app_by verb.New = in_file_app (codes "new")
app_by verb.Migrate = in_file_app (codes "migrate")
app_by verb.Import = with_user_and_word (codes "import") (codes "name")
app_by verb.Event = event_app
app_by verb.Correct = correct_app
app_by verb.Pull = with_user_and_word (codes "pull") (codes "no")
app_by verb.Restore = with_user_and_word (codes "restore") (codes "no")
app_by verb.Show = show_app
app_by verb.Export = export_app
app_by verb.Totals = with_db (new_app (codes "totals"))
app_by verb.Moves = with_db (new_app (codes "moves"))
app_by verb.Search = search_app
app_by verb.Count = count_app
app_by verb.Serve = serve_app

-- the commands in the order of help
unfoldable pub verbs : List Verb
verbs =
    verb.Check ∷ verb.New ∷ verb.Migrate ∷ verb.Import ∷ verb.Event ∷ verb.Correct ∷ verb.Pull
    ∷ verb.Restore ∷ verb.Show ∷ verb.Export ∷ verb.Totals
    ∷ verb.Moves ∷ verb.Search ∷ verb.Count ∷ verb.Serve ∷ []

abbrev pub with_verb : App → Verb → App
with_verb a v = with_subcommand a (app_by v).top

-- the whole command
unfoldable pub desk_app : App
desk_app = fold with_verb top_app verbs
