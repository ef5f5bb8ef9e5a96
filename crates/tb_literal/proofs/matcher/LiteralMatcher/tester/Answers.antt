use Rattle.std.proofs.Common.{ap, ◌∙◌}
use Rattle.regex.specs.Strings.{matcher_pattern, regex_pattern}
use Rattle.tb_literal.proofs.matcher.LiteralMatcher.tester.Goals as goal
use Rattle.tb_literal.proofs.matcher.LiteralMatcher.tester.Goals.{in-Some+in_ok-matcher-in-Some+in_ok-new-in-Some, in-None}

pub invariant_of-result : goal.invariant_of-result
invariant_of-result c = elim c.match-self.branch [
  | in-Some+in_ok-matcher-in-Some+in_ok-new-in-Some w ↦
      let boxed = ap matcher_pattern w.in_ok-new-in-Some.ensures.ok in
      rw (w.matcher-is, boxed ∙ w.in_ok-matcher-in-Some.ensures.pattern ∙ ap regex_pattern w.deref.ensures, c.as_str.ensures.value) (rw w.in-Some.is at c.self.invariant)
  | in-None w ↦ rw (w.matcher-is, c.as_str.ensures.value) (rw w.in-None.is at c.self.invariant)
]
