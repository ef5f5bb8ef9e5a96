use Rattle.std.proofs.Common.{◌∙◌, ap, inl, inr, refl, sym}
use Rattle.std.proofs.lemmas.Bool.{true≢false}
use Rattle.tb_replay.specs.Summaries.{entries_of}
use Rattle.tb_host.proofs.misfit.look_at_sums.Goals as goal

pub returns-in-Ok : goal.returns-in-Ok
returns-in-Ok c xs is = inl (c.in-Some.sums, λ s b e. c.in-Some.ensures.sums s b (is ∙ ap entries_of e), inr (c.in-Ok.ensures.right, refl))

pub returns-in-Err : goal.returns-in-Err
returns-in-Err c xs is =
    inl (c.in-Some.sums, λ s b e. c.in-Some.ensures.sums s b (is ∙ ap entries_of e), inl c.in-Err.ensures.wrong)

pub returns-in-None : goal.returns-in-None
returns-in-None c xs is = inr (λ s b e few small. true≢false (sym (c.in-None.ensures.fits s b (is ∙ ap entries_of e) few small)), refl)
