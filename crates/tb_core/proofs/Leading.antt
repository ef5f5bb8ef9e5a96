-- Where commands lead: to a later state, within the limits.
use Rattle.std.proofs.Common.{◌≡◌, ℕ, ◌+◌, ◌≤◌, [], ◌∷◌, length, Bool, true, false, refl, sym, subst, arith, length-append}
use Rattle.std.specs.Prelude.{nat_le}
use Rattle.std.proofs.lemmas.List.{length-map}
use Rattle.std.proofs.lemmas.Bool.Decides.{nat_tests}
use Rattle.tb_core.specs.declared.limits.Limits.{Limits}
use Rattle.tb_core.specs.declared.refusals.Refusal.TheVariants.{Full}
use Rattle.tb_core.specs.Machine.{Machine}
use Rattle.tb_core.specs.Acts.{Act, importing, stepping, correcting, pulling, restoring, IsAllowed, after, move_of, new_sentence, new_sentences, corrected, flagged}
use Rattle.tb_core.specs.Reaching.{further, Later, now, later, has_room, IsReachable}
use Rattle.tb_core.specs.Commands.{Command, Answer, refused, Ending, ending, Means}
use Rattle.tb_core.specs.Tests.{Refuses, IsFull}
use Rattle.tb_core.specs.Steps.{Steps}
use Rattle.tb_core.proofs.Weights.{length-changed}
use Rattle.tb_core.proofs.Chains.{Outcome, stays, goes, outcome, good_user, second_good}

leads : (l : Limits) (s : Machine) (c : Command) (e : Ending) → Outcome l s c e → Later s e.state
leads l s c e (stays h) = subst (λ t. Later s t) (sym h) now
leads l s c e (goes h room) = subst (λ (x : Ending). Later s x.state) (sym h.3) (later s h.0 now h.2)

pub steps_lead : (l : Limits) (s : Machine) (c : Command) (a : Answer) (t : Machine) → Steps l s c a t → Later s t
steps_lead l s c a t h = leads l s c (ending a t) (outcome l s c (ending a t) h)

le_of : (a b : ℕ) → nat_le a b ≡ true → a ≤ b
le_of a b h = grind (arith, nat_tests)

moves_room : (l : Limits) (s : Machine) (a : Act) → has_room l s a ≡ true → length s.moves + 1 ≤ l.moves
moves_room l s (importing name user bodies) h = le_of (length s.moves + 1) l.moves (second_good (nat_le (length s.sentences + length bodies) l.sentences) (nat_le (length s.moves + 1) l.moves) h)
moves_room l s (stepping place event user) h = le_of (length s.moves + 1) l.moves h
moves_room l s (correcting place user body) h = le_of (length s.moves + 1) l.moves h
moves_room l s (pulling place user) h = le_of (length s.moves + 1) l.moves h
moves_room l s (restoring place user) h = le_of (length s.moves + 1) l.moves h

sentences_room : (l : Limits) (s : Machine) (a : Act) → l.sentences ≤ 1000000 → length s.sentences ≤ 1000000 → has_room l s a ≡ true → length (after s a).sentences ≤ 1000000
sentences_room l s (importing name user bodies) few old h =
    let fits = le_of (length s.sentences + length bodies) l.sentences (good_user (nat_le (length s.sentences + length bodies) l.sentences) (nat_le (length s.moves + 1) l.moves) h) in
    let size = length-append s.sentences (new_sentences (length s.batches + 1) user bodies) in
    let news = length-map bodies (new_sentence (length s.batches + 1) user) in
    omega (arith, fits, size, news)
sentences_room l s (stepping place event user) few old h = old
sentences_room l s (correcting place user body) few old h = let e = length-changed (corrected user body) s.sentences place in omega (arith, e)
sentences_room l s (pulling place user) few old h = let e = length-changed (flagged true) s.sentences place in omega (arith, e)
sentences_room l s (restoring place user) few old h = let e = length-changed (flagged false) s.sentences place in omega (arith, e)

room_of : (l : Limits) (s : Machine) (c : Command) (a : Act) (b : Bool) → b ≡ has_room l s a → Means s c a → ((d : Ending) → Refuses s (IsFull l s c) d → ⊥) → has_room l s a ≡ true
room_of l s c a true e means none = sym e
room_of l s c a false e means none = absurd (none (ending (refused Full) s) (Full, (a, means, sym e, refl), refl))

pub reachable_after : (l : Limits) (s : Machine) (a : Act) → l.sentences ≤ 1000000 → l.moves ≤ 1000000000 → IsReachable s → IsAllowed s a → has_room l s a ≡ true → IsReachable (after s a)
reachable_after l s a few some h k room =
    let size = length-append s.moves (move_of s a ∷ []) in
    let fits = moves_room l s a room in
    record { reached = further s a h.reached k; sentences = sentences_room l s a few h.sentences room; moves = omega (arith, size, fits) }

reachable : (l : Limits) (s : Machine) (c : Command) (e : Ending) → l.sentences ≤ 1000000 → l.moves ≤ 1000000000 → IsReachable s → Outcome l s c e → IsReachable e.state
reachable l s c e few some h (stays same) = subst IsReachable (sym same) h
reachable l s c e few some h (goes k none) =
    let room = room_of l s c k.0 (has_room l s k.0) refl k.1 none in
    subst (λ (x : Ending). IsReachable x.state) (sym k.3) (reachable_after l s k.0 few some h k.2 room)

pub steps_stay_reachable : (l : Limits) (s : Machine) (c : Command) (a : Answer) (t : Machine) → l.sentences ≤ 1000000 → l.moves ≤ 1000000000 → IsReachable s → Steps l s c a t → IsReachable t
steps_stay_reachable l s c a t few some h steps = reachable l s c (ending a t) few some h (outcome l s c (ending a t) steps)
