use Rattle.std.proofs.Common.{◌*◌, ◌%◌, ◌^◌, bit_and, inl, inr, ⊎_elim, subst, sym}
use Rattle.std.proofs.lemmas.Nat.{le_or_l}
use Rattle.tb_match.specs.Stays.{MayStay}
use Rattle.tb_match.proofs.Masks.{either_bit, onward}
use Rattle.tb_match.proofs.narrow.step_word.Goals as goal

pub returns-in-Optional-clause-places : goal.returns-in-Optional-clause-places
returns-in-Optional-clause-places c = λ j h.
    let e = either_bit c.args.row (bit_and (c.args.row * 2 ^ 1 % 2 ^ 64) c.args.ends) j in
    let o = onward c.args.row c.args.ends j h in (
      λ p. ⊎_elim (λ a. inl (subst MayStay (sym c.in-Optional.is) tt, a)) (λ b. inr (o.0 b)) (e.0 p),
      λ p. e.1 (⊎_elim (λ a. inl a.1) (λ b. inr (o.1 b)) p),
    )

pub returns-in-Optional-clause-grows : goal.returns-in-Optional-clause-grows
returns-in-Optional-clause-grows c = λ _. le_or_l c.args.row _

pub returns-in-Required-clause-places : goal.returns-in-Required-clause-places
returns-in-Required-clause-places c = λ j h.
    let o = onward c.args.row c.args.ends j h in (
      λ p. inr (o.0 p),
      λ p. ⊎_elim (λ a. absurd (subst MayStay c.in-Required.is a.0)) (λ b. o.1 b) p,
    )
