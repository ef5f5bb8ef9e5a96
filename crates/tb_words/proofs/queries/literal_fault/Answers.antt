use Rattle.std.proofs.Common.{inl, inr, List, subst, sym, ℕ}
use Rattle.tb_words.specs.QueryPatterns.{StopsAt}
use Rattle.tb_words.proofs.queries.literal_fault.Goals as goal

pub returns-in-Some : goal.returns-in-Some
returns-in-Some c = λ cut.
    let is = c.written-said.ensures cut.0 cut.1 cut.2 in
    let start = c.args.literal.start in
    inl (
      c.in-Some.place,
      subst (λ (said : List ℕ). StopsAt said start c.in-Some.place c.at_byte.result.sentence.now) is
          (subst (λ (said : List ℕ). StopsAt c.written-said.result.now start c.in-Some.place said) (sym c.at_byte.ensures.says.sentence)
          c.in-Some.ensures.says),
      (c.at_byte.ensures.place c.in-Some.ensures.boundary, c.at_byte.ensures.picture c.in-Some.ensures.boundary),
    )

pub returns-in-None : goal.returns-in-None
returns-in-None c = λ cut.
    inr (
      c.at_byte-in-None.ensures.says.sentence,
      (c.at_byte-in-None.ensures.place cut.0, c.at_byte-in-None.ensures.picture cut.0),
    )
