-- A state whose batches and sentences are a part of those of another, whatever its moves.
use Rattle.std.proofs.Common.{◌≡◌, ℕ, zero, suc, ◌<◌, List, [], ◌∷◌, ◌++◌, length, get_or, drop, refl, subst, arith}
use Rattle.tb_core.specs.Moves.{MoveText}
use Rattle.tb_core.specs.Machine.{Sentence, Machine, empty_machine, change_at}
use Rattle.tb_core.specs.Acts.{after, names_of}
use Rattle.tb_core.specs.Keeping.{Continues, Continue, Extends}
use Rattle.tb_core.proofs.Extending.{extends_refl, extends_trans, extends_after}
use Rattle.tb_replay.specs.Course.{Plays, act_of}

pub record Full (s f : Machine) : Type 0 where
  pub more : List (List ℕ)
  pub names : names_of f.batches ≡ names_of s.batches ++ more
  pub sentences : Continue s.sentences f.sentences

pub full_of : (s f : Machine) → Extends s f → Full s f
full_of s f e = record { more = e.new_names; names = e.names; sentences = e.sentences }

-- moves that lead to a state lead from a part of it
pub plays_extend : (f : Machine) (ms : List MoveText) (s : Machine) → Plays f s ms → Extends s f
plays_extend f [] s p = subst (Extends s) p (extends_refl s)
plays_extend f (m ∷ ms) s p = let a = act_of f s m in extends_trans s (after s a) f (extends_after s a) (plays_extend f ms (after s a) p.2)

pub full_empty : (f : Machine) → Full empty_machine f
full_empty f = record { more = names_of f.batches; names = refl; sentences = tt }

-- ---- one place of states of which one continues the other

-- one sentence changed, and still continued
pub continue_with : (f : Sentence → Sentence) (xs ys : List Sentence) (i : ℕ) (d : Sentence) → Continue xs ys → Continues (f (get_or xs i d)) (get_or ys i d) → Continue (change_at f xs i) ys
continue_with f [] ys i d h k = tt
continue_with f (x ∷ xs) [] i d h k = absurd h
continue_with f (x ∷ xs) (y ∷ ys) zero d h k = (k, h.1)
continue_with f (x ∷ xs) (y ∷ ys) (suc i) d h k = (h.0, continue_with f xs ys i d h.1 k)

-- and what the changed one says of its place
pub continue_there : (f : Sentence → Sentence) (xs ys : List Sentence) (i : ℕ) (d : Sentence) → i < length xs → Continue (change_at f xs i) ys → Continues (f (get_or xs i d)) (get_or ys i d)
continue_there f [] ys i d l h = absurd (omega arith)
continue_there f (x ∷ xs) [] zero d l h = absurd h
continue_there f (x ∷ xs) [] (suc i) d l h = absurd h
continue_there f (x ∷ xs) (y ∷ ys) zero d l h = h.0
continue_there f (x ∷ xs) (y ∷ ys) (suc i) d l h = continue_there f xs ys i d (omega arith) h.1

-- sentences that come after all that stand
pub continue_join : (xs zs ys : List Sentence) → Continue xs ys → Continue zs (drop (length xs) ys) → Continue (xs ++ zs) ys
continue_join [] zs ys h k = k
continue_join (x ∷ xs) zs [] h k = absurd h
continue_join (x ∷ xs) zs (y ∷ ys) h k = (h.0, continue_join xs zs ys h.1 k)

pub continue_rest : (xs zs ys : List Sentence) → Continue (xs ++ zs) ys → Continue zs (drop (length xs) ys)
continue_rest [] zs ys h = h
continue_rest (x ∷ xs) zs [] h = absurd h
continue_rest (x ∷ xs) zs (y ∷ ys) h = continue_rest xs zs ys h.1
