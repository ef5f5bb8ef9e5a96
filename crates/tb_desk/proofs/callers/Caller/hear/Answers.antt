use Rattle.std.proofs.Common.{◌≡◌, ◌⊎◌, ◌∙◌, ℕ, inl, inr, refl, sym, ap, subst, take, le_trans, arith, rules}
use Rattle.std.proofs.lemmas.List.{take-take}
use Rattle.tb_desk.specs.Callers.{GoesOn, HasReadOnceMore}
use Rattle.tb_desk.specs.declared.callers.Caller.{Caller}
use Rattle.tb_desk.proofs.callers.Caller.hear.Goals as goal

-- two turns
goes_on : (a b c : Caller) → GoesOn a b → GoesOn b c → GoesOn a c
goes_on a b c one two = (
  two.0 ∙ one.0,
  λ within.
      let first = one.1 within in
      let next = two.1 first.0 in (
        next.0,
        le_trans first.1 next.1,
        sym (take-take a.filled b.filled c.room.items first.1) ∙ ap (take a.filled) next.2 ∙ take-take a.filled b.filled b.room.items first.1 ∙ first.2,
      ),
)

-- a connection that was read once more has been read since the first turn
read_since : (n : ℕ) (first now after : Caller) → ((n ≡ 0) × (now ≡ first)) ⊎ HasReadOnceMore first now → HasReadOnceMore now after → HasReadOnceMore first after
read_since n first now after (inl same) read = subst (λ c. HasReadOnceMore c after) same.1 read
read_since n first now after (inr before) read = omega (arith, before, read)

pub loop-preserved : goal.loop-preserved
loop-preserved c = (
  omega (arith, c.loop.invariant.0, c.if-not-hear_once.ensures.most),
  goes_on c.args.self.now c.loop.self c.hear_once.new.self c.loop.invariant.1 c.if-not-hear_once.ensures.said,
  search rules,
  inr (read_since c.loop.counter c.args.self.now c.loop.self c.hear_once.new.self c.loop.invariant.3 (c.if-not-hear_once.ensures.again refl)),
)
