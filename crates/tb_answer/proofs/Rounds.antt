-- Requests taken one after the other.
use Rattle.std.proofs.Common.{◌≡◌, inl, inr, ℕ, ◌+◌, ◌<◌, List, [], ◌∷◌, length, get_or, map, drop, Option, Result, Ok, Err, refl, sym, ◌∙◌, ap, subst}
use Rattle.std.proofs.lemmas.List.{drop_more}
use Rattle.sqlite.specs.Store.{Ghosts}
use Rattle.tb_http.specs.declared.status.Status.{Status}
use Rattle.tb_store.specs.Kept.{Kept}
use Rattle.tb_answer.specs.declared.answering.Broken.{Broken}
use Rattle.tb_answer.specs.declared.answering.Broken.TheVariants.{Read, Write}
use Rattle.tb_answer.specs.Turns.{IsAnswered, AreAnswered, AreServed}
use Rattle.tb_answer.proofs.Surviving.{all_served}

module _ {W Reason : Type 0} (held : W → Option (List ℕ)) (is_refusal : W → Reason → Type 0) {S : Type 0} (g : Ghosts S) where
  -- with whatever answers the rest, all are answered
  abbrev pub Awaits : (all rest : List (List ℕ)) (first d : Kept S) (begun u : W) → Type 0
  Awaits all rest first d begun u =
      (e : Kept S) (v : W) (later : List (Kept S)) (result : Result (Unit {0}) Broken) → AreAnswered held is_refusal g rest d e u v later result
      → (desks : List (Kept S)) × AreAnswered held is_refusal g all first e begun v desks result

  -- the request at hand is the first of the rest
  pub at_hand : {X : Type 0} (f : X → List ℕ) (xs : List X) (i : ℕ) (x : X) (b : List ℕ) (all : List (List ℕ)) (first d : Kept S) (begun u : W) → i < length xs → x ≡ get_or xs i x → b ≡ f x
      → Awaits all (map f (drop i xs)) first d begun u → Awaits all (b ∷ map f (drop (i + 1) xs)) first d begun u
  at_hand f xs i x b all first d begun u low here is awaits =
      let same : map f (drop i xs) ≡ b ∷ map f (drop (i + 1) xs) = ap (map f) (drop_more xs i x low) ∙ ap (λ y. y ∷ map f (drop (i + 1) xs)) (sym (ap f here) ∙ sym is) in
      subst (λ rest. Awaits all rest first d begun u) same awaits

  pub one_more : (all rest : List (List ℕ)) (b : List ℕ) (first d m : Kept S) (begun u w : W) (code : Status) → IsAnswered held is_refusal g b d m u w (Ok code)
      → Awaits all (b ∷ rest) first d begun u → Awaits all rest first m begun w
  one_more all rest b first d m begun u w code turn awaits = λ e v later result run. awaits e v (m ∷ later) result (inl (m, w, later, code, turn, refl, run))

  pub one_broken : (all rest : List (List ℕ)) (b : List ℕ) (first d e : Kept S) (begun u v : W) (why : Broken) → (why ≡ Read → ⊥) → IsAnswered held is_refusal g b d e u v (Err why)
      → Awaits all (b ∷ rest) first d begun u → AreServed held is_refusal g all first e begun v (Err why)
  one_broken all rest b first d e begun u v Read never turn awaits = absurd (never refl)
  one_broken all rest b first d e begun u v Write never turn awaits =
      let run = awaits e v (e ∷ []) (Err Write) (inr (turn, refl, refl)) in
      all_served held is_refusal g all first e begun v run.0 (Err Write) run.1

  pub none_left : (all : List (List ℕ)) (first d : Kept S) (begun u : W) → Awaits all [] first d begun u → AreServed held is_refusal g all first d begun u (Ok tt)
  none_left all first d begun u awaits =
      let run = awaits d u [] (Ok tt) (refl, refl, refl, refl) in
      all_served held is_refusal g all first d begun u run.0 (Ok tt) run.1
