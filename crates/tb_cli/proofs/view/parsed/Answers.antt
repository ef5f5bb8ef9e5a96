use Rattle.std.proofs.Common.{◌≡◌, ◌≢◌, ◌∙◌, IfErr, IfOk, ap, map, subst, true}
use Rattle.std.specs.String.{string_bytes}
use Rattle.clap.specs.Words.{App, fault_of, is_simple, is_simple_and_free, subcommand_of, subcommand_rows_of, takes}
use Rattle.tb_cli.specs.Fault.{AnswersAs, ComesOnly}
use Rattle.tb_cli.proofs.Computed.{view_is_free, view_is_simple}
use Rattle.tb_cli.proofs.view.parsed.Goals as goal

pub returns-clause-ok : goal.returns-clause-ok
returns-clause-ok c =
    subst (λ (a : App). IfOk c.found_by.result (λ m. subcommand_rows_of m ≡ subcommand_of a (map string_bytes c.args.words.now))) c.in_ok-deskview.ensures
    (c.found_by.ensures.ok (ap is_simple c.in_ok-deskview.ensures ∙ view_is_simple))

pub returns-clause-err : goal.returns-clause-err
returns-clause-err c =
    subst (λ (a : App). IfErr c.found_by.result (λ e. ComesOnly e (takes a (map string_bytes c.args.words.now) ≢ true) ⊥)) c.in_ok-deskview.ensures c.found_by.ensures.err

pub returns-clause-answers : goal.returns-clause-answers
returns-clause-answers c =
    subst (λ (a : App). AnswersAs (fault_of a (map string_bytes c.args.words.now)) c.found_by.result) c.in_ok-deskview.ensures
    (c.found_by.ensures.answers (ap is_simple_and_free c.in_ok-deskview.ensures ∙ view_is_free))
