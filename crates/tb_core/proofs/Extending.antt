-- Later states have all that earlier ones have: batches, sentences with their revisions, and moves.
use Rattle.std.proofs.Common.{◌≡◌, ℕ, zero, suc, ◌+◌, ◌<◌, ◌≤◌, List, [], ◌∷◌, ◌++◌, length, get_or, true, false, refl, sym, ◌∙◌, ap, arith, append_assoc, append-nil}
use Rattle.tb_core.specs.declared.kinds.State.TheVariants.{Opened}
use Rattle.tb_conllu.specs.Text.{BlockText}
use Rattle.tb_core.specs.Machine.{Batch, Sentence, Machine, revisions, change_at}
use Rattle.tb_core.specs.Keeping.{Continues, Continue, Extends}
use Rattle.tb_core.specs.Acts.{Act, importing, stepping, correcting, pulling, restoring, after, move_of, names_of, new_sentences, moved, corrected, flagged}
use Rattle.tb_core.specs.Reaching.{Later, now, later}
use Rattle.tb_core.proofs.Weights.{map_changed}
use Rattle.tb_core.proofs.Lists.{map-joined}

same_sentence : (x y : Sentence) → x.sent_id ≡ y.sent_id → x.batch ≡ y.batch → revisions y ≡ revisions x → Continues x y
same_sentence x y a b c = record { sent_id = a; batch = b; more = []; revised = c ∙ sym (append-nil (revisions x)) }

continues_trans : (x y z : Sentence) → Continues x y → Continues y z → Continues x z
continues_trans x y z a b = record {
  sent_id = a.sent_id ∙ b.sent_id;
  batch = a.batch ∙ b.batch;
  more = a.more ++ b.more;
  revised = b.revised ∙ (ap (λ l. l ++ b.more) a.revised ∙ append_assoc (revisions x) a.more b.more);
}

continue_refl : (xs : List Sentence) → Continue xs xs
continue_refl [] = tt
continue_refl (x ∷ xs) = (same_sentence x x refl refl refl, continue_refl xs)

pub continue_trans : (xs ys zs : List Sentence) → Continue xs ys → Continue ys zs → Continue xs zs
continue_trans [] ys zs a b = tt
continue_trans (x ∷ xs) [] zs a b = absurd a
continue_trans (x ∷ xs) (y ∷ ys) [] a b = absurd b
continue_trans (x ∷ xs) (y ∷ ys) (z ∷ zs) a b = (continues_trans x y z a.0 b.0, continue_trans xs ys zs a.1 b.1)

continue_append : (xs ys : List Sentence) → Continue xs (xs ++ ys)
continue_append [] ys = tt
continue_append (x ∷ xs) ys = (same_sentence x x refl refl refl, continue_append xs ys)

continue_changed : (f : Sentence → Sentence) → ((x : Sentence) → Continues x (f x)) → (xs : List Sentence) (i : ℕ) → Continue xs (change_at f xs i)
continue_changed f e [] i = tt
continue_changed f e (x ∷ xs) zero = (e x, continue_refl xs)
continue_changed f e (x ∷ xs) (suc i) = (same_sentence x x refl refl refl, continue_changed f e xs i)

continues_corrected : (user : List ℕ) (body : BlockText) (x : Sentence) → Continues x (corrected user body x)
continues_corrected user body x = record { sent_id = refl; batch = refl; more = record { who = user; body = body } ∷ []; revised = refl }

pub extends_refl : (s : Machine) → Extends s s
extends_refl s = record { new_names = []; names = sym (append-nil (names_of s.batches)); sentences = continue_refl s.sentences; new_moves = []; moves = sym (append-nil s.moves) }

pub extends_trans : (s t u : Machine) → Extends s t → Extends t u → Extends s u
extends_trans s t u a b = record {
  new_names = a.new_names ++ b.new_names;
  names = b.names ∙ (ap (λ l. l ++ b.new_names) a.names ∙ append_assoc (names_of s.batches) a.new_names b.new_names);
  sentences = continue_trans s.sentences t.sentences u.sentences a.sentences b.sentences;
  new_moves = a.new_moves ++ b.new_moves;
  moves = b.moves ∙ (ap (λ l. l ++ b.new_moves) a.moves ∙ append_assoc s.moves a.new_moves b.new_moves);
}

names_grown : (s : Machine) (a : Act) → (more : List (List ℕ)) × (names_of (after s a).batches ≡ names_of s.batches ++ more)
names_grown s (importing name user bodies) = (name ∷ [], map-joined (λ (c : Batch). c.name) s.batches (record { name = name; state = Opened; worker = [] } ∷ []))
names_grown s (stepping place event user) = ([], map_changed (λ (c : Batch). c.name) (moved event user) (λ x. refl) s.batches place ∙ sym (append-nil (names_of s.batches)))
names_grown s (correcting place user body) = ([], sym (append-nil (names_of s.batches)))
names_grown s (pulling place user) = ([], sym (append-nil (names_of s.batches)))
names_grown s (restoring place user) = ([], sym (append-nil (names_of s.batches)))

continue_after : (s : Machine) (a : Act) → Continue s.sentences (after s a).sentences
continue_after s (importing name user bodies) = continue_append s.sentences (new_sentences (length s.batches + 1) user bodies)
continue_after s (stepping place event user) = continue_refl s.sentences
continue_after s (correcting place user body) = continue_changed (corrected user body) (continues_corrected user body) s.sentences place
continue_after s (pulling place user) = continue_changed (flagged true) (λ x. same_sentence x (flagged true x) refl refl refl) s.sentences place
continue_after s (restoring place user) = continue_changed (flagged false) (λ x. same_sentence x (flagged false x) refl refl refl) s.sentences place

pub extends_after : (s : Machine) (a : Act) → Extends s (after s a)
extends_after s a = record { new_names = (names_grown s a).0; names = (names_grown s a).1; sentences = continue_after s a; new_moves = move_of s a ∷ []; moves = refl }

pub later_extends : (s t : Machine) → Later s t → Extends s t
later_extends s t now = extends_refl s
later_extends s t (later u a l k) = extends_trans s u (after u a) (later_extends s u l) (extends_after u a)

-- ---- one place of states of which one continues the other

pub continue_at : (xs ys : List Sentence) (i : ℕ) (d : Sentence) → Continue xs ys → i < length xs → Continues (get_or xs i d) (get_or ys i d)
continue_at [] ys i d h l = absurd (omega arith)
continue_at (x ∷ xs) [] i d h l = absurd h
continue_at (x ∷ xs) (y ∷ ys) zero d h l = h.0
continue_at (x ∷ xs) (y ∷ ys) (suc i) d h l = continue_at xs ys i d h.1 (omega arith)

pub continue_count : (xs ys : List Sentence) → Continue xs ys → length xs ≤ length ys
continue_count [] ys h = omega arith
continue_count (x ∷ xs) [] h = absurd h
continue_count (x ∷ xs) (y ∷ ys) h = let e = continue_count xs ys h.1 in omega (arith, e)
