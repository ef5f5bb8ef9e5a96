use Rattle.std.proofs.Common.{◌∙◌, false, inl}
use Rattle.tb_host.proofs.Valued.{plain_so, word_so}
use Rattle.tb_host.proofs.wrong.Values.at_option.Goals as goal

pub returns-then-ends_options-clause-at : goal.returns-then-ends_options-clause-at
returns-then-ends_options-clause-at c =
    inl (
      c.ends_options.ensures.0 c.if-ends_options.true,
      c.without_option.ensures.same.2 ∙ c.in_ok-value.ensures.same.2,
      word_so c.args.self.now.words.now c.word.new.self.words c.without_option.new.self.words c.in_ok-value.value c.without_option.result.value c.in_ok-value.ensures.word c.without_option.ensures.same.1 c.without_option.ensures.value,
      plain_so (record c.args.self.now { has_options = false }) c.word.new.self c.without_option.new.self c.without_option.result c.in_ok-value.ensures.same c.without_option.ensures.place c.without_option.ensures.before,
    )
