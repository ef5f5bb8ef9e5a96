use Rattle.std.proofs.Common.{◌∙◌, ℕ, List, Bor, ap, codes, inl, subst, sym}
use Rattle.std.proofs.lemmas.Bool.{true≢false}
use Rattle.tb_host.specs.Contents.{BeginsWith}
use Rattle.tb_host.proofs.Valued.{at_option_next, plain_so, word_so}
use Rattle.tb_host.proofs.wrong.Values.next.Goals as goal

pub returns-then-is_option-clause-next : goal.returns-then-is_option-clause-next
returns-then-is_option-clause-next c =
    at_option_next c.at_option.result c.in_ok-word.word.now c.args.self.now c.word.new.self c.at_option.new.self (c.is_option.ensures.0 c.if-is_option.true) c.in_ok-word.ensures.word c.in_ok-word.ensures.same
    c.at_option.ensures.command c.at_option.ensures.at

pub returns-clause-next : goal.returns-clause-next
returns-clause-next c = (
  ap (λ (k : Bor (List ℕ)). k.now) (c.without_option.ensures.same.0 ∙ c.in_ok-word.ensures.same.0),
  inl (
    (λ option. true≢false (sym (c.is_option.ensures.1 (c.in_ok-word.ensures.same.2 ∙ option.0, subst (λ (v : Bor (List ℕ)). BeginsWith v.now (codes "--")) c.without_option.ensures.value option.1)) ∙ c.if-is_option.false)),
    c.without_option.ensures.same.2 ∙ c.in_ok-word.ensures.same.2,
    word_so c.args.self.now.words.now c.word.new.self.words c.without_option.new.self.words c.in_ok-word.word c.without_option.result.value c.in_ok-word.ensures.word c.without_option.ensures.same.1 c.without_option.ensures.value,
    plain_so c.args.self.now c.word.new.self c.without_option.new.self c.without_option.result c.in_ok-word.ensures.same c.without_option.ensures.place c.without_option.ensures.before,
  ),
)
