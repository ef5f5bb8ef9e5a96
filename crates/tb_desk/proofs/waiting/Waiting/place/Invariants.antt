use Rattle.std.proofs.Common.{◌≡◌, vec_len}
use Rattle.std.specs.Duration.{as_nanos}
use Rattle.std.specs.List.{AllWithin}
use Rattle.tb_desk.specs.Waiting.{Ages, Waits}
use Rattle.tb_desk.proofs.Aged.{UpTo, SameFrom}
use Rattle.tb_desk.proofs.Rooms.{AreKept}
use Rattle.tb_desk.proofs.waiting.Waiting.place.Given as goal

abbrev pub invariant-loop-at : goal.invariant-loop-at
invariant-loop-at l = (vec_len l.self.callers ≡ vec_len l.fn.self.callers) × (l.self.leavers ≡ l.fn.self.leavers)
    × (l.self.looked ≡ l.fn.self.looked) × (l.self.looks ≡ l.fn.self.looks) × AllWithin Waits l.self.callers.items 0 l.at × AreKept l.fn.self.callers.items l.self.callers.items l.kept
    × UpTo (Ages (as_nanos l.passed)) l.fn.self.callers.items l.self.callers.items l.at
    × SameFrom (Ages (as_nanos l.passed)) l.fn.self.callers.items l.self.callers.items l.at
    × (l.self.accepts ≡ l.fn.self.accepts)
