-- What was asked for, one piece after the other.
use Rattle.std.proofs.Common.{◌≡◌, ℕ, List, [], ◌∷◌, ◌++◌, Bool, true, false, Option, Some, None, Result, Ok, Err, inl, inr, refl, sym, ◌∙◌, ap, subst, append_assoc, append-nil}
use Rattle.std.specs.List.{concat}
use Rattle.tb_http.specs.Faults.{AwaitsHead, AwaitsBody, AwaitsMore}
use Rattle.tb_conllu.specs.Pieces.{Gives, AllOwed, AskedFor}

gives_none : (a : Option (List (List ℕ))) → Gives a a []
gives_none None = tt
gives_none (Some x) = sym (append-nil x)

gives_more : (a b c : Option (List (List ℕ))) (ps qs : List (List ℕ)) → Gives a b ps → Gives b c qs → Gives a c (ps ++ qs)
gives_more None b c ps qs p q = tt
gives_more (Some x) None c ps qs p q = absurd p
gives_more (Some x) (Some y) None ps qs p q = absurd q
gives_more (Some x) (Some y) (Some z) ps qs p q = q ∙ ap (λ l. l ++ qs) p ∙ append_assoc x ps qs

concat_more : (ps qs : List (List ℕ)) → concat (ps ++ qs) ≡ concat ps ++ concat qs
concat_more [] qs = refl
concat_more (p ∷ ps) qs = ap (λ l. p ++ l) (concat_more ps qs) ∙ sym (append_assoc p (concat ps) (concat qs))

owed_more : (P : List ℕ → Type 0) (before : List ℕ) (ps qs : List (List ℕ)) → AllOwed P before ps → AllOwed P (before ++ concat ps) qs → AllOwed P before (ps ++ qs)
owed_more P before [] qs h k = subst (λ l. AllOwed P l qs) (append-nil before) k
owed_more P before (p ∷ ps) qs h k = (h.0, owed_more P (before ++ p) ps qs h.1 (subst (λ l. AllOwed P l qs) (sym (append_assoc before p (concat ps))) k))

owed_other : (P Q : List ℕ → Type 0) (a b : List ℕ) (ps : List (List ℕ)) → ((later : List ℕ) → P (a ++ later) → Q (b ++ later)) → AllOwed P a ps → AllOwed Q b ps
owed_other P Q a b [] f h = tt
owed_other P Q a b (p ∷ ps) f h = (
  subst Q (append-nil b) (f [] (subst P (sym (append-nil a)) h.0)),
  owed_other P Q (a ++ p) (b ++ p) ps (λ later x. subst Q (sym (append_assoc b p later)) (f (p ++ later) (subst P (append_assoc a p later) x))) h.1,
)

pub asked_none : (P : List ℕ → Type 0) (before : List ℕ) (old : Option (List (List ℕ))) → AskedFor P before old old []
asked_none P before old = ([], gives_none old, refl, tt)

pub asked_more : (P : List ℕ → Type 0) (before : List ℕ) (old mid new : Option (List (List ℕ))) (taken more : List ℕ) → AskedFor P before old mid taken
    → AskedFor P (before ++ taken) mid new more → AskedFor P before old new (taken ++ more)
asked_more P before old mid new taken more h k = (
  h.0 ++ k.0,
  gives_more old mid new h.0 k.0 h.1 k.1,
  concat_more h.0 k.0 ∙ ap (λ l. l ++ concat k.0) h.2 ∙ ap (λ l. taken ++ l) k.2,
  owed_more P before h.0 k.0 h.3 (subst (λ l. AllOwed P (before ++ l) k.0) (sym h.2) k.3),
)

-- one more piece
pub asked_one : (P : List ℕ → Type 0) (before : List ℕ) (mid new : Option (List (List ℕ))) (part : List ℕ) → P before → Gives mid new (part ∷ []) → AskedFor P before mid new part
asked_one P before mid new part owed g = (part ∷ [], g, append-nil part, (owed, tt))

-- pieces that were owed for one reason, each of which is another
pub asked_other : (P Q : List ℕ → Type 0) (a b : List ℕ) (old new : Option (List (List ℕ))) (taken : List ℕ) → ((later : List ℕ) → P (a ++ later) → Q (b ++ later)) → AskedFor P a old new taken
    → AskedFor Q b old new taken
asked_other P Q a b old new taken f h = (h.0, h.1, h.2, owed_other P Q a b h.0 f h.3)

pub asked_head : (limit : ℕ) (old mid : Option (List (List ℕ))) (came : List ℕ) → AskedFor AwaitsHead [] old mid came → AskedFor (AwaitsMore limit) [] old mid came
asked_head limit old mid came h = asked_other AwaitsHead (AwaitsMore limit) [] [] old mid came (λ later x. inl x) h

-- what was asked for after a head was asked for after all
pub asked_on : (limit : ℕ) (old mid new : Option (List (List ℕ))) (came : List ℕ) → AskedFor AwaitsHead [] old mid came
    → (taken : List ℕ) × AskedFor (AwaitsBody limit) came mid new taken → (taken : List ℕ) × AskedFor (AwaitsMore limit) [] old new taken
asked_on limit old mid new came h k = (
  came ++ k.0,
  asked_more (AwaitsMore limit) [] old mid new came k.0 (asked_head limit old mid came h) (asked_other (AwaitsBody limit) (AwaitsMore limit) came came mid new k.0 (λ later x. inr x) k.1),
)

-- ---- which results are no failed read

abbrev is_ok : {X E : Type 0} → Result X E → Bool
is_ok (Ok x) = true
is_ok (Err e) = false

pub ok_is_no_fault : {X E : Type 0} (x : X) (e : E) → ◌≡◌ {A = Result X E} (Ok x) (Err e) → ⊥
ok_is_no_fault x e is = let t : true ≡ false = ap is_ok is in cc
