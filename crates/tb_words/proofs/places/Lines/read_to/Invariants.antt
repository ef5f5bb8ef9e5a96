use Rattle.std.proofs.Common.{ℕ, ◌-◌, ◌≤◌, List, max}
use Rattle.tb_words.specs.FileLines.{IsAtLine}
use Rattle.tb_words.proofs.places.Lines.read_to.Given as goal

abbrev pub invariant-loop-self : goal.invariant-loop-self
invariant-loop-self l =
    (l.self.here.number ≤ max l.initial.self.here.number l.number) × (l.initial.self.here.number ≤ l.self.here.number)
    × ((file : List ℕ) → IsAtLine file l.initial.self → IsAtLine file l.self)

abbrev pub decreases-loop-self : goal.decreases-loop-self
decreases-loop-self l = l.number - l.self.here.number
