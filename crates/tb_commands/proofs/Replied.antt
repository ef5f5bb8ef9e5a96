-- A command on what does not stand is refused: it has no reply.
use Rattle.std.proofs.Common.{◌≡◌, ℕ, List, None, ap, refl}
use Rattle.tb_core.specs.declared.limits.Limits.{Limits}
use Rattle.tb_core.specs.declared.refusals.Refusal.{Refusal}
use Rattle.tb_core.specs.declared.refusals.Refusal.TheVariants.{NoSuchSentence}
use Rattle.tb_core.specs.Machine.{Machine}
use Rattle.tb_core.specs.Commands.{Reply, Ending, pull, restore, replied, refused, ending}
use Rattle.tb_core.specs.Tests.{reported, passed}
use Rattle.tb_core.specs.Steps.{Steps}
use Rattle.tb_core.specs.Found.{FindsSentence}

unlike : (r : Reply) (t : Machine) (q : Refusal) (s : Machine) → ending (replied r) t ≡ ending (refused q) s → ⊥
unlike r t q s e = let is : replied r ≡ refused q = ap (λ (x : Ending). x.answer) e in absurd cc

pub no_pull : (l : Limits) (s : Machine) (n : ℕ) (user : List ℕ) (r : Reply) (t : Machine) → FindsSentence s n None → Steps l s (pull n user) (replied r) t → ⊥
no_pull l s n user r t none (reported h) = unlike r t h.0 s h.2
no_pull l s n user r t none (passed first (reported h)) = unlike r t h.0 s h.2
no_pull l s n user r t none (passed first (passed second more)) = second (ending (refused NoSuchSentence) s) (NoSuchSentence, (none, refl), refl)

pub no_restore : (l : Limits) (s : Machine) (n : ℕ) (user : List ℕ) (r : Reply) (t : Machine) → FindsSentence s n None → Steps l s (restore n user) (replied r) t → ⊥
no_restore l s n user r t none (reported h) = unlike r t h.0 s h.2
no_restore l s n user r t none (passed first (reported h)) = unlike r t h.0 s h.2
no_restore l s n user r t none (passed first (passed second more)) = second (ending (refused NoSuchSentence) s) (NoSuchSentence, (none, refl), refl)
