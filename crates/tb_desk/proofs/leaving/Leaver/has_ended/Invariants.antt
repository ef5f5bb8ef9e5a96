use Rattle.std.proofs.Common.{◌≡◌, ◌≤◌, ◌⊎◌, ◌+◌, ◌-◌, ◌^◌, None, min}
use Rattle.tb_desk.proofs.leaving.Leaver.has_ended.Given as goal

abbrev pub invariant-loop : goal.invariant-loop
invariant-loop l = (l.self.left ≡ l.fn.self.left) × (l.self.most ≤ l.fn.self.most)
    × (min (l.fn.self.reads.count + l.counter) (2 ^ 64 - 1) ≤ l.self.reads.count) × (l.self.stream ≡ l.fn.self.stream)
    × ((l.counter ≡ 0) ⊎ (l.self.reads.end ≡ None))
