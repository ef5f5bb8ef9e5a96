use Rattle.std.proofs.Common.{◌≡◌, ◌≤◌, ◌⊎◌, max, vec_len}
use Rattle.tb_desk.specs.Callers.{GoesOn, HasReadOnceMore, KeepsTime}
use Rattle.tb_desk.proofs.callers.Caller.hear.Given as goal

abbrev pub invariant-loop : goal.invariant-loop
invariant-loop l = (vec_len l.self.room ≤ max (vec_len l.fn.self.room) l.most) × GoesOn l.fn.self l.self × KeepsTime l.fn.self l.self
    × (((l.counter ≡ 0) × (l.self ≡ l.fn.self)) ⊎ HasReadOnceMore l.fn.self l.self)
