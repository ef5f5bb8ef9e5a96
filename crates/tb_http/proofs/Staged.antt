-- Bytes ask one thing.
use Rattle.std.proofs.Common.{◌≡◌, ℕ, List, Option, Some, None, refl, sym, ◌∙◌, ap, subst, arith}
use Rattle.httparse.specs.Grammar.{RequestHead}
use Rattle.httparse.proofs.GrammarLemmas.{request_unique}
use Rattle.tb_http.specs.Actions.{Act, Place}
use Rattle.tb_http.specs.declared.asks.RequestFault.{RequestFault}
use Rattle.tb_http.specs.Headers.{user_of}
use Rattle.tb_http.specs.Stage.{Stage, stops, goes, AreOne}
use Rattle.tb_http.specs.Asks.{Outcome, RefusesFor, Front, IsFront, headers_of, AsksBody, AsksLong, AsksMethod, AsksPath, AsksLength, AsksOneThing}

-- a stage has one answer, if it finds one thing and what follows has one answer
one_stage : (A R : Type 0) (says : R → Type 0) (passes : A → Type 0) (rest : A → R → Type 0)
    → AreOne R says → ((r : R) (a : A) → says r → passes a → ⊥) → ((a b : A) → passes a → passes b → a ≡ b) → ((a : A) → AreOne R (rest a))
    → AreOne R (Stage A R says passes rest)
one_stage A R says passes rest one apart same next r q (stops v x) (stops w y) = one v w x y
one_stage A R says passes rest one apart same next r q (stops v x) (goes w b p y) = absurd (apart v b x p)
one_stage A R says passes rest one apart same next r q (goes v a p x) (stops w y) = absurd (apart w a y p)
one_stage A R says passes rest one apart same next r q (goes v a p x) (goes w b o y) =
    next a v w x (subst (λ z. rest z w) (same b a o p) y)

one_tells : (why : RequestFault) (P : Type 0) → AreOne Outcome (RefusesFor why P)
one_tells why P r q x y = x.1 ∙ sym y.1

is_some : {X : Type 0} (o : Option X) (x y : X) → o ≡ Some x → o ≡ Some y → x ≡ y
is_some o x y e f = some_injective (sym e ∙ f)
  where
    value : {X : Type 0} → X → Option X → X
    value d None = d
    value d (Some x) = x

    some_injective : {X : Type 0} {x y : X} → Some x ≡ Some y → x ≡ y
    some_injective {x = x} e = ap (value x) e

pub not_none : {X : Type 0} (o : Option X) (x : X) → o ≡ None → o ≡ Some x → ⊥
not_none o x e f = let g : None ≡ Some x = sym e ∙ f in grind arith

one_body : (f : Front) (n : ℕ) (act : Act) → AreOne Outcome (AsksBody f n act)
one_body f n act = one_stage _ _ _ _ _ (one_tells _ _) (λ r a x p. omega (arith, x.0, p.0)) (λ a b p o. p.1 ∙ sym o.1) (λ a r q x y. x ∙ sym y)

one_long : (limit : ℕ) (f : Front) (n : ℕ) (act : Act) → AreOne Outcome (AsksLong limit f n act)
one_long limit f n act = one_stage _ _ _ _ _ (one_tells _ _) (λ r a x p. omega (arith, x.0, p)) (λ a b p o. refl) (λ a. one_body f n act)

one_method : (limit : ℕ) (f : Front) (n : ℕ) (place : Place) → AreOne Outcome (AsksMethod limit f n place)
one_method limit f n place = one_stage _ _ _ _ _ (one_tells _ _) (λ r a x p. not_none _ a x.0 p) (λ a b p o. is_some _ a b p o) (one_long limit f n)

one_path : (limit : ℕ) (f : Front) (n : ℕ) → AreOne Outcome (AsksPath limit f n)
one_path limit f n = one_stage _ _ _ _ _ (one_tells _ _) (λ r a x p. not_none _ a x.0 p) (λ a b p o. is_some _ a b p o) (one_method limit f n)

one_length : (limit : ℕ) (f : Front) → AreOne Outcome (AsksLength limit f)
one_length limit f = one_stage _ _ _ _ _ (one_tells _ _) (λ r a x p. not_none _ a x.0 p) (λ a b p o. is_some _ a b p o) (one_path limit f)

front_of : RequestHead → List ℕ → List ℕ → Front
front_of head user rest = record { head = head; user = user; rest = rest }

one_front : (bytes : List ℕ) (f g : Front) → IsFront bytes f → IsFront bytes g → f ≡ g
unfolding front_of
one_front bytes f g h k =
    let same = request_unique bytes f.head g.head f.rest g.rest h.begins.reads k.begins.reads in
    let user : f.user ≡ g.user = is_some (user_of (headers_of f.head)) f.user g.user h.named (ap (λ x. user_of (headers_of x)) same.0 ∙ k.named) in
    ap (λ x. front_of x f.user f.rest) same.0 ∙ (ap (λ x. front_of g.head x f.rest) user ∙ ap (front_of g.head g.user) same.1)

pub one_thing : AsksOneThing
one_thing limit bytes = one_stage _ _ _ _ _ (one_tells _ _) (λ r f x p. x.0 f p) (one_front bytes) (one_length limit)
