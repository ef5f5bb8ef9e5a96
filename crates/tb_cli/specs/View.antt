-- The command line of deskview: its commands, as they are declared to clap, and what words say.
use Rattle.std.specs.Prelude.{ℕ, List, Bool, true, false, fold, is_some, [], ◌∷◌, codes, Option, Some, None, option_and_then}
use Rattle.std.specs.Prelude.{bytes_eq, if◌then◌else◌}
use Rattle.std.specs.String.{string_bytes}
use Rattle.clap.specs.Words.{App, Row, Text, first_of, new_app, with_rule, with_subcommand}
use Rattle.tb_http.specs.Forms.{most_of, number_of, port_of}
use Rattle.tb_cli.specs.Lines.{batch_of, formed, with_one, with_two}
use Rattle.tb_cli.specs.Tree.{default_rule, needed_rule, optional_rule, program_app, with_db, word_rule}
use Rattle.tb_cli.specs.declared.lines.ViewLine.{ViewLine}
use Rattle.tb_cli.specs.declared.lines.ViewLine.TheVariants as line
use Rattle.tb_cli.specs.declared.lines.ViewList.{ViewList}
use Rattle.tb_cli.specs.declared.lines.ViewList.TheVariants as list
use Rattle.tb_cli.specs.declared.view_verbs.ViewVerb.{ViewVerb}
use Rattle.tb_cli.specs.declared.view_verbs.ViewVerb.TheVariants as verb

-- the program's name and version
abbrev pub view_top : App
view_top = program_app (codes "deskview")

-- the word of each command
abbrev pub view_word : ViewVerb → Text
view_word verb.Batches = codes "batches"
view_word verb.Sentences = codes "sentences"
view_word verb.Revisions = codes "revisions"
view_word verb.Find = codes "find"
view_word verb.Tree = codes "tree"
view_word verb.Check = codes "check"
view_word verb.Page = codes "page"

abbrev pub batches_app : App
batches_app = with_db (new_app (codes "batches"))

abbrev pub sentences_app : App
sentences_app = with_rule (with_db (new_app (codes "sentences"))) (word_rule (codes "name"))

abbrev pub revisions_app : App
revisions_app = with_rule (with_db (new_app (codes "revisions"))) (word_rule (codes "no"))

abbrev pub find_app : App
find_app = with_rule (with_db (new_app (codes "find"))) (word_rule (codes "sent_id"))

-- a sentence of a desk, or a file without a desk
abbrev pub tree_app : App
tree_app = with_rule (with_db (new_app (codes "tree"))) (optional_rule (codes "no"))

-- a file without a desk is checked
abbrev pub check_app : App
check_app = with_rule (new_app (codes "check")) (default_rule (codes "most") (codes "100"))

-- the page needs a port
abbrev pub page_app : App
page_app = with_rule (with_db (new_app (codes "page"))) (needed_rule (codes "port"))

-- each command
abbrev pub view_app_by : ViewVerb → App
view_app_by verb.Batches = batches_app
view_app_by verb.Sentences = sentences_app
view_app_by verb.Revisions = revisions_app
view_app_by verb.Find = find_app
view_app_by verb.Tree = tree_app
view_app_by verb.Check = check_app
view_app_by verb.Page = page_app

-- the commands in the order of help
unfoldable pub view_verbs : List ViewVerb
view_verbs =
    verb.Batches ∷ verb.Sentences ∷ verb.Revisions ∷ verb.Find ∷ verb.Tree ∷ verb.Check ∷ verb.Page ∷ []

abbrev pub with_view_verb : App → ViewVerb → App
with_view_verb a v = with_subcommand a (view_app_by v).top

-- the whole command
unfoldable pub view_app : App
view_app = fold with_view_verb view_top view_verbs

-- a list, as plain data: the batches, the sentences of the batch with a name, the revisions of the sentence with a
-- number, the sentence with a `sent_id`, or the tree of the sentence with a number
pub data Listed : Type 0 where
  batches : Listed
  sentences : Text → Listed
  revisions : ℕ → Listed
  find : Text → Listed
  tree : ℕ → Listed

-- a command line as plain data; a first text is the value of --db
pub data Viewed : Type 0 where
  lists : Text → Listed → Viewed
  trees : Viewed
  check : (most : ℕ) → Viewed
  page : Text → (port : ℕ) → Viewed

abbrev pub batches_of : Text → Viewed
batches_of db = lists db batches

abbrev pub sentences_of : Text → Text → Viewed
sentences_of db name = lists db (sentences name)

abbrev pub revisions_of : Text → ℕ → Viewed
revisions_of db n = lists db (revisions n)

abbrev pub find_of : Text → Text → Viewed
find_of db id = lists db (find id)

abbrev pub tree_of : Text → ℕ → Viewed
tree_of db n = lists db (tree n)

-- what the command `sentences` says with its values
abbrev pub sentences_with : List Row → Option Viewed
sentences_with rows =
    with_two sentences_of (first_of (codes "db") rows) (formed batch_of (first_of (codes "name") rows))

-- what the command `revisions` says with its values
abbrev pub revisions_with : List Row → Option Viewed
revisions_with rows = with_two revisions_of (first_of (codes "db") rows) (formed number_of (first_of (codes "no") rows))

-- what the command `find` says with its values
abbrev pub find_with : List Row → Option Viewed
find_with rows = with_two find_of (first_of (codes "db") rows) (first_of (codes "sent_id") rows)

-- What the command `tree` says of a file and a number: the tree of that sentence of the desk there. With neither it says
-- the trees of standard input.
abbrev pub tree_said : (db number : Option Text) → Option Viewed
tree_said None None = Some trees
tree_said None (Some number) = None
tree_said (Some db) number = with_one (tree_of db) (formed number_of number)

-- what the command `tree` says with its values
abbrev pub tree_with : List Row → Option Viewed
tree_with rows = tree_said (first_of (codes "db") rows) (first_of (codes "no") rows)

-- what the command `check` says with its values
abbrev pub check_with : List Row → Option Viewed
check_with rows = with_one check (formed most_of (first_of (codes "most") rows))

-- what the command `page` says with its values
abbrev pub page_with : List Row → Option Viewed
page_with rows = with_two page (first_of (codes "db") rows) (formed port_of (first_of (codes "port") rows))

-- what the command with this word says with its values
abbrev pub viewed_with : Text → List Row → Option Viewed
viewed_with word rows =
    if bytes_eq word (codes "batches") then with_one batches_of (first_of (codes "db") rows)
    else if bytes_eq word (codes "sentences") then sentences_with rows
    else if bytes_eq word (codes "revisions") then revisions_with rows
    else if bytes_eq word (codes "find") then find_with rows
    else if bytes_eq word (codes "tree") then tree_with rows
    else if bytes_eq word (codes "check") then check_with rows
    else if bytes_eq word (codes "page") then page_with rows
    else None

-- The command with this word names the file of a desk, with these values. One that does not has no text in its line, which
-- is therefore read without memory: it lists the faults of standard input, or draws its trees.
abbrev pub names_desk : Text → List Row → Bool
names_desk word rows =
    if bytes_eq word (codes "batches") then true
    else if bytes_eq word (codes "sentences") then true
    else if bytes_eq word (codes "revisions") then true
    else if bytes_eq word (codes "find") then true
    else if bytes_eq word (codes "tree") then is_some (first_of (codes "db") rows)
    else if bytes_eq word (codes "check") then false
    else bytes_eq word (codes "page")

-- what the subcommand that clap finds says, with its values
abbrev pub viewed_of : Option (Text × List Row) → Option Viewed
viewed_of found = option_and_then (λ p. viewed_with p.0 p.1) found

-- the list of the code, as plain data
abbrev pub listed_by : ViewList → Listed
listed_by list.Batches = batches
listed_by (list.Sentences name) = sentences (string_bytes name)
listed_by (list.Revisions n) = revisions n
listed_by (list.Find sent_id) = find (string_bytes sent_id)
listed_by (list.Tree n) = tree n

-- the line of the code, as plain data
abbrev pub viewed_by : ViewLine → Viewed
viewed_by (line.List db l) = lists (string_bytes db) (listed_by l)
viewed_by line.Trees = trees
viewed_by (line.Check most) = check most
viewed_by (line.Page db port) = page (string_bytes db) port
