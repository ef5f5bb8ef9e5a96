-- Where no move is a pull, no sentence is pulled.
use Rattle.std.proofs.Common.{◌≡◌, ◌≢◌, ℕ, ◌+◌, List, [], ◌∷◌, ◌++◌, length, refl, ap, ◌∙◌}
use Rattle.std.specs.List.{AllByRecursion}
use Rattle.std.proofs.lemmas.List.Elements.{recursion_from_All}
use Rattle.tb_conllu.specs.Text.{BlockText}
use Rattle.tb_core.specs.declared.kinds.Kind.TheVariants.{Pull, Restore}
use Rattle.tb_core.specs.Acts.{Act, importing, stepping, correcting, pulling, restoring, after, new_sentences, move_of}
use Rattle.tb_core.specs.Machine.{Machine}
use Rattle.tb_core.specs.Moves.{MoveText}
use Rattle.tb_core.specs.Reaching.{Reached, begun, further}
use Rattle.tb_core.specs.Rows.{pulled_from}
use Rattle.tb_refine.proofs.Order.{pulled-append, pulled_corrected}
use Rattle.tb_verify.specs.Version1Desk.{HasNoPull}

abbrev pub IsNoPull : MoveText → Type 0
IsNoPull m = (m.kind ≢ Pull) × (m.kind ≢ Restore)

parts : (P : MoveText → Type 0) (xs ys : List MoveText) → AllByRecursion P (xs ++ ys) → AllByRecursion P xs × AllByRecursion P ys
parts P [] ys h = (tt, h)
parts P (x ∷ xs) ys h = let rest = parts P xs ys h.1 in ((h.0, rest.0), rest.1)

new_are_not_pulled : (n k : ℕ) (user : List ℕ) (bodies : List BlockText) → pulled_from n (new_sentences k user bodies) ≡ []
new_are_not_pulled n k user [] = refl
new_are_not_pulled n k user (b ∷ bs) = new_are_not_pulled (n + 1) k user bs

step : (t : Machine) (a : Act) → (AllByRecursion IsNoPull t.moves → pulled_from 1 t.sentences ≡ []) → AllByRecursion IsNoPull t.moves × AllByRecursion IsNoPull (move_of t a ∷ []) → pulled_from 1 (after t a).sentences ≡ []
step t (importing name user bodies) so p =
    pulled-append 1 t.sentences (new_sentences (length t.batches + 1) user bodies) ∙ ap (λ l. l ++ pulled_from (1 + length t.sentences) (new_sentences (length t.batches + 1) user bodies)) (so p.0)
    ∙ new_are_not_pulled (1 + length t.sentences) (length t.batches + 1) user bodies
step t (stepping place event user) so p = so p.0
step t (correcting place user body) so p = pulled_corrected user body 1 t.sentences place ∙ so p.0
step t (pulling place user) so p = absurd (p.1.0.0 refl)
step t (restoring place user) so p = absurd (p.1.0.1 refl)

none : (s : Machine) → Reached s → AllByRecursion IsNoPull s.moves → pulled_from 1 s.sentences ≡ []
none s begun h = refl
none s (further t a r k) h = step t a (λ p. none t r p) (parts IsNoPull t.moves (move_of t a ∷ []) h)

pub none_pulled : (s : Machine) → Reached s → HasNoPull s → pulled_from 1 s.sentences ≡ []
none_pulled s r h = none s r (recursion_from_All IsNoPull s.moves h)
