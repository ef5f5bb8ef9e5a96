-- Inner: no contract beyond this crate cites a definition of this module.
-- The arguments of the commands, and what help says of each. Each text is a constant of its argument.
use Rattle.std.specs.Prelude.{◌≡◌, Some, codes, option_map}
use Rattle.clap.specs.Words.{App, Rule, Text, with_rule}
use Rattle.clap.specs.declared.builder.arg.Arg.{Arg}
use Rattle.tb_cli.specs.Tree.{default_rule, needed_rule, option_rule, optional_rule, word_rule}
use Rattle.tb_cli.specs.declared.arguments.Argument.{Argument}
use Rattle.tb_cli.specs.declared.arguments.Argument.TheVariants as argument
use Rattle.tb_cli.specs.declared.arguments.Form.{Form}
use Rattle.tb_cli.specs.declared.arguments.Form.TheVariants as form
use Rattle.tb_cli.specs.declared.hints.TheConstants as hint

-- the help of an argument is this text
abbrev pub HasHelp : Text → Arg → Type 0
HasHelp text arg = option_map (λ t. t.now) arg.help ≡ Some text

-- the rule of an argument of this form and name
abbrev pub rule_in : Form → Text → Rule
rule_in form.Option name = option_rule name
rule_in form.Needed name = needed_rule name
rule_in (form.Default value) name = default_rule name value.now
rule_in form.Word name = word_rule name
rule_in form.Optional name = optional_rule name

-- the word of an argument, and whether it is required
abbrev pub argument_rule : Argument → Rule
argument_rule argument.Desk = option_rule (codes "db")
argument_rule argument.DeskNeeded = needed_rule (codes "db")
argument_rule argument.DeskShown = option_rule (codes "db")
argument_rule argument.DeskDrawn = option_rule (codes "db")
argument_rule argument.User = needed_rule (codes "user")
argument_rule argument.Strategy = default_rule (codes "strategy") (codes "longest")
argument_rule argument.Batch = word_rule (codes "name")
argument_rule argument.BatchNew = word_rule (codes "name")
argument_rule argument.BatchIfAny = optional_rule (codes "name")
argument_rule argument.Step = word_rule (codes "event")
argument_rule argument.Sentence = word_rule (codes "no")
argument_rule argument.SentenceDrawn = optional_rule (codes "no")
argument_rule argument.SentId = word_rule (codes "sent_id")
argument_rule argument.Base = word_rule (codes "base")
argument_rule argument.Revision = option_rule (codes "rev")
argument_rule argument.Query = word_rule (codes "query")
argument_rule argument.Context = default_rule (codes "context") (codes "5")
argument_rule argument.Attribute = word_rule (codes "attribute")
argument_rule argument.Port = needed_rule (codes "port")
argument_rule argument.PortShown = needed_rule (codes "port")
argument_rule argument.Requests = default_rule (codes "requests") (codes "1000000000")
argument_rule argument.Most = default_rule (codes "most") (codes "100")

-- a command that takes this argument too
abbrev pub with_argument : App → Argument → App
with_argument app which = with_rule app (argument_rule which)

-- what help says of an argument
abbrev pub argument_help : Argument → Text
argument_help argument.Desk = hint.DESK.now
argument_help argument.DeskNeeded = hint.DESK_NEEDED.now
argument_help argument.DeskShown = hint.DESK_SHOWN.now
argument_help argument.DeskDrawn = hint.DESK_DRAWN.now
argument_help argument.User = hint.USER.now
argument_help argument.Strategy = hint.STRATEGY.now
argument_help argument.Batch = hint.BATCH.now
argument_help argument.BatchNew = hint.BATCH_NEW.now
argument_help argument.BatchIfAny = hint.BATCH_IF_ANY.now
argument_help argument.Step = hint.STEP.now
argument_help argument.Sentence = hint.SENTENCE.now
argument_help argument.SentenceDrawn = hint.SENTENCE_DRAWN.now
argument_help argument.SentId = hint.SENT_ID.now
argument_help argument.Base = hint.BASE.now
argument_help argument.Revision = hint.REVISION.now
argument_help argument.Query = hint.QUERY.now
argument_help argument.Context = hint.CONTEXT.now
argument_help argument.Attribute = hint.ATTRIBUTE.now
argument_help argument.Port = hint.PORT.now
argument_help argument.PortShown = hint.PORT_SHOWN.now
argument_help argument.Requests = hint.REQUESTS.now
argument_help argument.Most = hint.MOST.now
