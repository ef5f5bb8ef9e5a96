use Rattle.std.proofs.Common.{◌≡◌, ℕ, ◌-◌, ◌≤◌, List, max}
use Rattle.tb_words.specs.Walks.{HasWalked}
use Rattle.tb_words.proofs.telling.Walk.read_to.Given as goal

abbrev pub invariant-loop-self : goal.invariant-loop-self
invariant-loop-self l =
    (l.self.number ≤ max l.initial.self.number l.sentence) × (l.initial.self.number ≤ l.self.number)
    × (l.self.lines ≡ l.initial.self.lines)
    × ((file : List ℕ) → HasWalked file l.initial.self → HasWalked file l.self)

abbrev pub decreases-loop-self : goal.decreases-loop-self
decreases-loop-self l = l.sentence - l.self.number
