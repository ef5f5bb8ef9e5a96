-- What the words of a command line say: the subcommand and its values, where all of these have their forms.
use Rattle.std.specs.Prelude.{ℕ, List, codes, Option, Some, None, option_map, option_and_then, if◌then◌else◌}
use Rattle.std.specs.Prelude.{◌≡◌, IfSome, bytes_eq, ⊤}
use Rattle.std.specs.List.{list_any}
use Rattle.std.specs.String.{string_bytes}
use Rattle.clap.specs.Words.{Row, Text, first_of}
use Rattle.tb_core.specs.declared.kinds.Event.{Event}
use Rattle.tb_match.specs.declared.strategy.Strategy.{Strategy}
use Rattle.tb_syntax.specs.declared.lexeme.Attr.{Attr}
use Rattle.tb_http.specs.Forms.{is_slash, name_of, number_of, base_of, context_of, event_of, strategy_of}
use Rattle.tb_http.specs.Forms.{attribute_of, port_of, requests_of}
use Rattle.tb_cli.specs.declared.lines.Line.{Line}
use Rattle.tb_cli.specs.declared.lines.Line.TheVariants as line
use Rattle.tb_cli.specs.declared.verbs.Verb.{Verb}
use Rattle.tb_cli.specs.declared.verbs.Verb.TheVariants as verb

-- a command line as plain data; the first text is the value of --db, if it is given
pub data Said : Type 0 where
  check : Said
  new_desk : Text → Said
  migrate : Text → Said
  import_batch : Option Text → Text → Text → Said
  step_batch : Option Text → Text → Text → Event → Said
  correct : Option Text → Text → ℕ → ℕ → Said
  pull : Option Text → Text → ℕ → Said
  restore : Option Text → Text → ℕ → Said
  show : Option Text → ℕ → Option ℕ → Said
  export : Option Text → Option Text → Said
  totals : Option Text → Said
  moves : Option Text → Said
  search : Option Text → Strategy → ℕ → Text → Said
  count : Option Text → Strategy → Attr → Text → Said
  serve : Option Text → ℕ → ℕ → Said

-- every part is there and has its form
abbrev pub with_one : {A D : Type 0} → (A → D) → Option A → Option D
with_one f (Some a) = Some (f a)
with_one f None = None

abbrev pub with_two : {A B D : Type 0} → (A → B → D) → Option A → Option B → Option D
with_two f (Some a) b = with_one (f a) b
with_two f None b = None

abbrev pub with_three : {A B C D : Type 0} → (A → B → C → D) → Option A → Option B → Option C → Option D
with_three f (Some a) b c = with_two (f a) b c
with_three f None b c = None

-- a value that may be missing, and otherwise has its form
abbrev pub maybe : {A : Type 0} → (Text → Option A) → Option Text → Option (Option A)
maybe form None = Some None
maybe form (Some text) = option_map Some (form text)

-- a value that is there and has its form
abbrev pub formed : {A : Type 0} → (Text → Option A) → Option Text → Option A
formed form value = option_and_then form value

-- a batch's name has the form of a segment: any text with at least one byte and without a slash
abbrev pub batch_of : Text → Option Text
batch_of text = if list_any is_slash text then None else name_of text

-- the word for a command
abbrev pub verb_of : Text → Option Verb
verb_of name =
    if bytes_eq name (codes "check") then Some verb.Check
    else if bytes_eq name (codes "new") then Some verb.New
    else if bytes_eq name (codes "migrate") then Some verb.Migrate
    else if bytes_eq name (codes "import") then Some verb.Import
    else if bytes_eq name (codes "event") then Some verb.Event
    else if bytes_eq name (codes "correct") then Some verb.Correct
    else if bytes_eq name (codes "pull") then Some verb.Pull
    else if bytes_eq name (codes "restore") then Some verb.Restore
    else if bytes_eq name (codes "show") then Some verb.Show
    else if bytes_eq name (codes "export") then Some verb.Export
    else if bytes_eq name (codes "totals") then Some verb.Totals
    else if bytes_eq name (codes "moves") then Some verb.Moves
    else if bytes_eq name (codes "search") then Some verb.Search
    else if bytes_eq name (codes "count") then Some verb.Count
    else if bytes_eq name (codes "serve") then Some verb.Serve
    else None

-- what a command on one sentence says
abbrev pub on_sentence : (Option Text → Text → ℕ → Said) → List Row → Option Said
on_sentence line rows =
    with_two (line (first_of (codes "db") rows)) (first_of (codes "user") rows)
    (formed number_of (first_of (codes "no") rows))

-- what a command says with its values
abbrev pub said_with : Verb → List Row → Option Said
said_with verb.Check rows = Some check
said_with verb.New rows = with_one new_desk (first_of (codes "db") rows)
said_with verb.Migrate rows = with_one migrate (first_of (codes "db") rows)
said_with verb.Import rows =
    with_two (import_batch (first_of (codes "db") rows)) (first_of (codes "user") rows)
    (formed batch_of (first_of (codes "name") rows))
said_with verb.Event rows =
    with_three (step_batch (first_of (codes "db") rows)) (first_of (codes "user") rows)
    (formed batch_of (first_of (codes "name") rows)) (formed event_of (first_of (codes "event") rows))
said_with verb.Correct rows =
    with_three (correct (first_of (codes "db") rows)) (first_of (codes "user") rows)
    (formed number_of (first_of (codes "no") rows)) (formed base_of (first_of (codes "base") rows))
said_with verb.Pull rows = on_sentence pull rows
said_with verb.Restore rows = on_sentence restore rows
said_with verb.Show rows =
    with_two (show (first_of (codes "db") rows)) (formed number_of (first_of (codes "no") rows))
    (maybe number_of (first_of (codes "rev") rows))
said_with verb.Export rows =
    with_one (export (first_of (codes "db") rows)) (maybe batch_of (first_of (codes "name") rows))
said_with verb.Totals rows = Some (totals (first_of (codes "db") rows))
said_with verb.Moves rows = Some (moves (first_of (codes "db") rows))
said_with verb.Search rows =
    with_three (search (first_of (codes "db") rows)) (formed strategy_of (first_of (codes "strategy") rows))
    (formed context_of (first_of (codes "context") rows)) (first_of (codes "query") rows)
said_with verb.Count rows =
    with_three (count (first_of (codes "db") rows)) (formed strategy_of (first_of (codes "strategy") rows))
    (formed attribute_of (first_of (codes "attribute") rows)) (first_of (codes "query") rows)
said_with verb.Serve rows =
    with_two (serve (first_of (codes "db") rows)) (formed port_of (first_of (codes "port") rows))
    (formed requests_of (first_of (codes "requests") rows))

-- the line of a command with these values has no text, so it is read without memory
abbrev pub HasNoText : Verb → List Row → Type 0
HasNoText verb.Check rows = ⊤
HasNoText verb.Show rows = first_of (codes "db") rows ≡ None
HasNoText verb.Export rows = (first_of (codes "db") rows ≡ None) × (first_of (codes "name") rows ≡ None)
HasNoText verb.Totals rows = first_of (codes "db") rows ≡ None
HasNoText verb.Moves rows = first_of (codes "db") rows ≡ None
HasNoText verb.Serve rows = first_of (codes "db") rows ≡ None
HasNoText _ rows = ⊥

-- nor has the line of the subcommand that clap finds
abbrev pub SaysNoText : Option (Text × List Row) → Type 0
SaysNoText found = IfSome found (λ p. IfSome (verb_of p.0) (λ v. HasNoText v p.1))

-- what the subcommand that clap finds says, with its values
abbrev pub said_of : Option (Text × List Row) → Option Said
said_of found = option_and_then (λ p. option_and_then (λ v. said_with v p.1) (verb_of p.0)) found

-- the line of the code, as plain data
abbrev pub said_by : Line → Said
said_by line.Check = check
said_by (line.New db) = new_desk (string_bytes db)
said_by (line.Migrate db) = migrate (string_bytes db)
said_by (line.Import db user name) = import_batch (option_map string_bytes db) (string_bytes user) (string_bytes name)
said_by (line.Event db user name event) = step_batch (option_map string_bytes db) (string_bytes user) (string_bytes name) event
said_by (line.Correct db user n base) = correct (option_map string_bytes db) (string_bytes user) n base
said_by (line.Pull db user n) = pull (option_map string_bytes db) (string_bytes user) n
said_by (line.Restore db user n) = restore (option_map string_bytes db) (string_bytes user) n
said_by (line.Show db n rev) = show (option_map string_bytes db) n rev
said_by (line.Export db name) = export (option_map string_bytes db) (option_map string_bytes name)
said_by (line.Totals db) = totals (option_map string_bytes db)
said_by (line.Moves db) = moves (option_map string_bytes db)
said_by (line.Search db strategy context query) = search (option_map string_bytes db) strategy context (string_bytes query)
said_by (line.Count db strategy attribute query) = count (option_map string_bytes db) strategy attribute (string_bytes query)
said_by (line.Serve db port requests) = serve (option_map string_bytes db) port requests
