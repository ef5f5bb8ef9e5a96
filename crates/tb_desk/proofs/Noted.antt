-- What was noted at the connections of a server, after one more had its turn.
use Rattle.std.proofs.Common.{◌≡◌, ◌++◌, ◌+◌, ℕ, List, [], ◌∷◌, map, length, All, Bool, true, false, Option, None, Some, Result, Ok, Err, IsOk, is_ok, refl, sym, ◌∙◌, ap, subst, arith, if◌then◌else◌}
use Rattle.std.proofs.lemmas.Bool.{true≢false}
use Rattle.std.proofs.lemmas.List.{append_assoc, append-nil, length-append, map-append}
use Rattle.std.proofs.lemmas.List.Elements.{All-push}
use Rattle.tb_host.specs.declared.causes.Cause.{Cause}
use Rattle.tb_desk.specs.Clients.{AreServed, Become, EndsBy, GoesOn, IsNoted, IsTurn, Notes, Served, answered_in, end_of, has_answer, whole_in, with_next, with_parting, with_turn}
use Rattle.tb_desk.specs.declared.callers.Caller.{Caller}
use Rattle.tb_desk.specs.declared.waiting.Next.{Next}
use Rattle.tb_desk.specs.declared.waiting.Next.TheVariants.{Whole, Late, Broken}

pub same : (P : Notes → Notes → Type 0) → ((n : Notes) → P n n) → (x : Option Notes) → Become x x P
same P all None = tt
same P all (Some n) = all n

pub both : (P Q R : Notes → Notes → Type 0) → ((b m a : Notes) → P b m → Q m a → R b a) → (x y z : Option Notes) → Become x y P → Become y z Q → Become x z R
both P Q R f None y z p q = tt
both P Q R f (Some b) (Some m) (Some a) p q = f b m a p q
both P Q R f (Some b) (Some m) None p q = q
both P Q R f (Some b) None z p q = absurd p

pub weaker : (P R : Notes → Notes → Type 0) → ((b a : Notes) → P b a → R b a) → (x y : Option Notes) → Become x y P → Become x y R
weaker P R f None y p = tt
weaker P R f (Some b) (Some a) p = f b a p
weaker P R f (Some b) None p = p

whole_more : (xs : List (Option Next)) (x : Option Next) → whole_in (xs ++ x ∷ []) ≡ whole_in xs ++ whole_in (x ∷ [])
whole_more [] x = refl
whole_more (Some (Whole c) ∷ xs) x = ap (λ l. c ∷ l) (whole_more xs x)
whole_more (Some (Late c) ∷ xs) x = whole_more xs x
whole_more (Some (Broken e) ∷ xs) x = whole_more xs x
whole_more (None ∷ xs) x = whole_more xs x

abbrev one_in : Served → List Caller
one_in one = if has_answer one.1 then one.0 ∷ [] else []

answered_more : (xs : List Served) (x : Served) → answered_in (xs ++ x ∷ []) ≡ answered_in xs ++ one_in x
answered_more [] x = append-nil (one_in x)
answered_more (y ∷ xs) x = ap (λ l. one_in y ++ l) (answered_more xs x) ∙ sym (append_assoc (one_in y) (answered_in xs) (one_in x))

-- one more connection came and had its turn
abbrev pub Turned : Option Next → Result (Unit {0}) Cause → Notes → Notes → Type 0
Turned next result before after = IsTurn next result (with_next next before) after

served_whole : (caller : Caller) (r : Result Bool Cause) (b a : Notes) → a ≡ with_turn caller r (with_next (Some (Whole caller)) b) → AreServed b → AreServed a
served_whole caller r b a is h =
    subst AreServed (sym is) (
      map-append (λ one. one.0) b.served ((caller, r) ∷ []) ∙ ap (λ l. l ++ caller ∷ []) h.0 ∙ sym (whole_more b.came (Some (Whole caller))),
      ap (λ l. l ++ one_in (caller, r)) h.1 ∙ sym (answered_more b.served (caller, r)),
    )

served_none : (next : Option Next) (b a : Notes) → whole_in (next ∷ []) ≡ [] → a ≡ with_next next b → AreServed b → AreServed a
served_none next b a none is h =
    subst AreServed (sym is) (h.0 ∙ sym (whole_more b.came next ∙ ap (λ l. whole_in b.came ++ l) none ∙ append-nil (whole_in b.came)), h.1)

pub turn_served : (next : Option Next) (r : Result (Unit {0}) Cause) (b a : Notes) → Turned next r b a → AreServed b → AreServed a
turn_served None r b a t h = served_none None b a refl t.0 h
turn_served (Some (Late c)) r b a t h = served_none (Some (Late c)) b a refl t.0 h
turn_served (Some (Broken e)) r b a t h = served_none (Some (Broken e)) b a refl t.0 h
turn_served (Some (Whole c)) r b a t h = served_whole c t.0 b a t.1 h

goes_whole : (caller : Caller) (r : Result Bool Cause) (b a : Notes) → a ≡ with_turn caller r (with_next (Some (Whole caller)) b) → end_of r ≡ Ok tt → GoesOn b → GoesOn a
goes_whole caller (Ok whole) b a is on h = subst GoesOn (sym is) (All-push (λ one. IsOk one.1) b.served (caller, Ok whole) h refl)
goes_whole caller (Err cause) b a is on h = absurd (true≢false (ap is_ok (sym on)))

pub turn_goes : (next : Option Next) (r : Result (Unit {0}) Cause) (b a : Notes) → Turned next r b a → r ≡ Ok tt → GoesOn b → GoesOn a
turn_goes None r b a t on h = subst GoesOn (sym t.0) h
turn_goes (Some (Late c)) r b a t on h = subst GoesOn (sym t.0) h
turn_goes (Some (Broken e)) r b a t on h = subst GoesOn (sym t.0) h
turn_goes (Some (Whole c)) r b a t on h = goes_whole c t.0 b a t.1 (sym t.2 ∙ on) h

abbrev again : Result (Unit {0}) Cause → Result Bool Cause
again (Ok u) = Ok true
again (Err cause) = Err cause

ends_whole : (caller : Caller) (r : Result Bool Cause) (b a : Notes) (cause : Cause) → a ≡ with_turn caller r (with_next (Some (Whole caller)) b) → end_of r ≡ Err cause → EndsBy cause a
ends_whole caller (Ok whole) b a cause is end = absurd (true≢false (ap is_ok end))
ends_whole caller (Err other) b a cause is end = subst (EndsBy cause) (sym is) (b.served, caller, ap (λ r. b.served ++ (caller, again r) ∷ []) end)

pub turn_ends : (next : Option Next) (r : Result (Unit {0}) Cause) (b a : Notes) (cause : Cause) → Turned next r b a → r ≡ Err cause → EndsBy cause a
turn_ends None r b a cause t end = absurd (true≢false (ap is_ok (sym t.1 ∙ end)))
turn_ends (Some (Late c)) r b a cause t end = absurd (true≢false (ap is_ok (sym t.1 ∙ end)))
turn_ends (Some (Broken e)) r b a cause t end = absurd (true≢false (ap is_ok (sym t.1 ∙ end)))
turn_ends (Some (Whole c)) r b a cause t end = ends_whole c t.0 b a cause t.1 (sym t.2 ∙ end)

turn_came : (next : Option Next) (r : Result (Unit {0}) Cause) (b a : Notes) → Turned next r b a → length a.came ≡ length b.came + 1
turn_came None r b a t = ap (λ n. length n.came) t.0 ∙ length-append b.came (None ∷ [])
turn_came (Some (Late c)) r b a t = ap (λ n. length n.came) t.0 ∙ length-append b.came (Some (Late c) ∷ [])
turn_came (Some (Broken e)) r b a t = ap (λ n. length n.came) t.0 ∙ length-append b.came (Some (Broken e) ∷ [])
turn_came (Some (Whole c)) r b a t = ap (λ n. length n.came) t.1 ∙ length-append b.came (Some (Whole c) ∷ [])

turn_partings : (next : Option Next) (r : Result (Unit {0}) Cause) (b a : Notes) → Turned next r b a → a.partings ≡ b.partings
turn_partings None r b a t = ap (λ n. n.partings) t.0
turn_partings (Some (Late c)) r b a t = ap (λ n. n.partings) t.0
turn_partings (Some (Broken e)) r b a t = ap (λ n. n.partings) t.0
turn_partings (Some (Whole c)) r b a t = ap (λ n. n.partings) t.1

-- so many connections have had their turn, and the server goes on
pub record IsOn (count : ℕ) (before now : Notes) : Type 0 where
  pub came : length now.came ≡ length before.came + count
  pub served : AreServed before → AreServed now
  pub goes : GoesOn before → GoesOn now
  pub partings : now.partings ≡ before.partings

pub none_yet : (x : Option Notes) → Become x x (IsOn 0)
none_yet x = same (IsOn 0) (λ n. record { came = omega arith; served = λ h. h; goes = λ h. h; partings = refl }) x

pub on_served : (count : ℕ) (x y : Option Notes) → Become x y (IsOn count) → (z : Option Notes) → z ≡ y → Become x z (λ before after. AreServed before → AreServed after)
on_served count x y on z same = subst (λ z. Become x z (λ before after. AreServed before → AreServed after)) (sym same)
    (weaker (IsOn count) (λ before after. AreServed before → AreServed after) (λ b a h. h.served) x y on)

module _ (count : ℕ) (next : Option Next) (r : Result (Unit {0}) Cause) (x y z w : Option Notes) (on : Become x y (IsOn count)) (came : IsNoted y z (with_next next))
    (turn : Become z w (IsTurn next r)) where
  had : Become y w (Turned next r)
  had = both (λ b m. m ≡ with_next next b) (IsTurn next r) (Turned next r) (λ b m a is t. subst (λ n. IsTurn next r n a) is t) y z w came turn

  pub on_more : r ≡ Ok tt → Become x w (IsOn (count + 1))
  on_more goes = both (IsOn count) (Turned next r) (IsOn (count + 1))
      (λ b m a h t. record {
        came = let more = turn_came next r m a t in let before = h.came in omega (arith, more, before);
        served = λ all. turn_served next r m a t (h.served all);
        goes = λ all. turn_goes next r m a t goes (h.goes all);
        partings = turn_partings next r m a t ∙ h.partings;
      }) x y w on had

  module _ (cause : Cause) (ends : r ≡ Err cause) (v : Option Notes) (parting : IsNoted w v with_parting) where
    ended : (R : Notes → Notes → Type 0) → ((b m a : Notes) → IsOn count b m → Turned next r m a → R b (with_parting a)) → Become x v R
    ended R f =
        both (λ b a. R b (with_parting a)) (λ b a. a ≡ with_parting b) R (λ b m a h is. subst (R b) (sym is) h) x w v
        (both (IsOn count) (Turned next r) (λ b a. R b (with_parting a)) f x y w on had) parting

    pub end_served : Become x v (λ before after. AreServed before → AreServed after)
    end_served = ended (λ before after. AreServed before → AreServed after) (λ b m a h t all. turn_served next r m a t (h.served all))

    pub end_ended : Become x v (λ before after. EndsBy cause after)
    end_ended = ended (λ before after. EndsBy cause after) (λ b m a h t. turn_ends next r m a cause t ends)

    pub end_parted : Become x v (λ before after. after.partings ≡ before.partings + 1)
    end_parted = ended (λ before after. after.partings ≡ before.partings + 1) (λ b m a h t. ap (λ n. n + 1) (turn_partings next r m a t ∙ h.partings))

module _ (count : ℕ) (x y z : Option Notes) (on : Become x y (IsOn count)) (parting : IsNoted y z with_parting) where
  all : (R : Notes → Notes → Type 0) → ((b m : Notes) → IsOn count b m → R b (with_parting m)) → Become x z R
  all R f = both (IsOn count) (λ b a. a ≡ with_parting b) R (λ b m a h is. subst (R b) (sym is) (f b m h)) x y z on parting

  pub all_came : Become x z (λ before after. length after.came ≡ length before.came + count)
  all_came = all (λ before after. length after.came ≡ length before.came + count) (λ b m h. h.came)

  pub all_served : Become x z (λ before after. AreServed before → AreServed after)
  all_served = all (λ before after. AreServed before → AreServed after) (λ b m h. h.served)

  pub all_go_on : Become x z (λ before after. GoesOn before → GoesOn after)
  all_go_on = all (λ before after. GoesOn before → GoesOn after) (λ b m h. h.goes)

  pub all_parted : Become x z (λ before after. after.partings ≡ before.partings + 1)
  all_parted = all (λ before after. after.partings ≡ before.partings + 1) (λ b m h. ap (λ n. n + 1) h.partings)

pub is_done : (r : Result (Unit {0}) Cause) → ((cause : Cause) → r ≡ Err cause → ⊥) → r ≡ Ok tt
is_done (Ok u) never = refl
is_done (Err cause) never = absurd (never cause refl)
