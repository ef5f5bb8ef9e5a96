use Rattle.std.proofs.Common.{List, ℕ, not, ap, sym, ◌∙◌}
use Rattle.std.proofs.lemmas.Bool.{false≢true}
use denote.Ref.{Bor}
use Rattle.tb_fields.proofs.Twice.{held, held_is, held_insert}
use Rattle.tb_fields.proofs.repeats.comes_first.Goals as goal

pub returns-clause-new : goal.returns-clause-new
returns-clause-new c = c.in_ok-insert.ensures.added ∙ ap not (held_is c.args.seen.now.keys c.args.text)

pub returns-clause-kept : goal.returns-clause-kept
returns-clause-kept c = λ q. ap (λ (ks : List (Bor (List ℕ))). held ks q) c.in_ok-insert.ensures.keys ∙ held_insert c.args.seen.now.keys c.args.text q

pub returns-in_err-insert-clause-sure : goal.returns-in_err-insert-clause-sure
returns-in_err-insert-clause-sure c = λ come.
    absurd (false≢true (sym c.in_err-insert.ensures.absent ∙ held_is c.args.seen.now.keys c.args.text ∙ come))
