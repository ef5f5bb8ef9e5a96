use Rattle.std.proofs.Common.{◌≡◌, ◌-◌, ◌^◌, min, take}
use Rattle.tb_desk.specs.Waiting.{kept_by}
use Rattle.tb_desk.proofs.waiting.Waiting.kept.Given as goal

abbrev pub invariant-loop-caller : goal.invariant-loop-caller
invariant-loop-caller l = l.kept ≡ min (kept_by (take l.caller-index l.caller-items)) (2 ^ 64 - 1)
