-- What was asked for, one piece after the other.
use Rattle.std.proofs.Common.{◌≡◌, ◌<◌, ◌≤◌, ℕ, List, [], ◌∷◌, ◌++◌, length, take, Option, Some, None, refl, sym, ◌∙◌, ap, subst, append_assoc, append-nil}
use Rattle.std.specs.List.{AllByRecursion, concat}
use Rattle.tb_conllu.specs.Pieces.{AllOwed, Gives}
use Rattle.tb_check.specs.Input.{CameInPieces}

gives_none : (old : Option (List (List ℕ))) → Gives old old []
gives_none None = tt
gives_none (Some xs) = sym (append-nil xs)

gives_more : (a b c : Option (List (List ℕ))) (ps qs : List (List ℕ)) → Gives a b ps → Gives b c qs → Gives a c (ps ++ qs)
gives_more None b c ps qs p q = tt
gives_more (Some x) None c ps qs p q = absurd p
gives_more (Some x) (Some y) None ps qs p q = absurd q
gives_more (Some x) (Some y) (Some z) ps qs p q = q ∙ ap (λ l. l ++ qs) p ∙ append_assoc x ps qs

concat_next : (ps : List (List ℕ)) (part : List ℕ) → concat (ps ++ part ∷ []) ≡ concat ps ++ part
concat_next [] part = append-nil part
concat_next (p ∷ ps) part = ap (λ l. p ++ l) (concat_next ps part) ∙ sym (append_assoc p (concat ps) part)

some_next : (ps : List (List ℕ)) (part : List ℕ) → AllByRecursion (λ p. 0 < length p) ps → 0 < length part → AllByRecursion (λ p. 0 < length p) (ps ++ part ∷ [])
some_next [] part h some = (some, tt)
some_next (p ∷ ps) part h some = (h.0, some_next ps part h.1 some)

owed_next : (P : List ℕ → Type 0) (before : List ℕ) (ps : List (List ℕ)) (part : List ℕ) → AllOwed P before ps → P (before ++ concat ps) → AllOwed P before (ps ++ part ∷ [])
owed_next P before [] part h owed = (subst P (append-nil before) owed, tt)
owed_next P before (p ∷ ps) part h owed = (h.0, owed_next P (before ++ p) ps part h.1 (subst P (sym (append_assoc before p (concat ps))) owed))

pub came_none : (limit : ℕ) (old : Option (List (List ℕ))) → CameInPieces limit old old []
came_none limit old = ([], gives_none old, refl, tt, tt)

-- one more piece
pub came_next : (limit : ℕ) (old mid new : Option (List (List ℕ))) (all part : List ℕ) → CameInPieces limit old mid all → length all ≤ limit → 0 < length part → Gives mid new (part ∷ [])
    → CameInPieces limit old new (all ++ part)
came_next limit old mid new all part h few some gives = (
  h.0 ++ part ∷ [],
  gives_more old mid new h.0 (part ∷ []) h.1 gives,
  concat_next h.0 part ∙ ap (λ l. l ++ part) h.2,
  some_next h.0 part h.3 some,
  owed_next (λ came. length came ≤ limit) [] h.0 part h.4 (subst (λ l. length l ≤ limit) (sym h.2) few),
)

-- the end
pub came_all : (limit : ℕ) (old mid new : Option (List (List ℕ))) (all buf : List ℕ) (count : ℕ) → CameInPieces limit old mid all → count ≡ 0 → Gives mid new (take count buf ∷ [])
    → (before : Option (List (List ℕ))) × CameInPieces limit old before all × Gives before new ([] ∷ [])
came_all limit old mid new all buf count h none gives = (mid, h, subst (λ n. Gives mid new (take n buf ∷ [])) none gives)
