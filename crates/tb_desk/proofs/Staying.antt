-- Which connections stay where each of them is asked in turn.
use Rattle.std.proofs.Common.{◌≡◌, ◌<◌, ℕ, List, [], ◌∷◌, All, length, Bool, true, false, Option, None, Some, IsSomeAnd, cond, inl, inr, subst, sym, arith, zero, suc}
use Rattle.std.proofs.lemmas.List.Elements.{All-nil}
use Rattle.std.specs.List.Retain.{RetainsInTurn}
use Rattle.std.specs.declared.time.Instant.{Instant}
use Rattle.tb_desk.specs.Waiting.{HasTime, StayInTime, StaysInTime, time_since}
use Rattle.tb_desk.specs.declared.leaving.Leaver.{Leaver}

-- what asks them stays as it is, and each that is to stay is in time
module _ {S : Type 0} (R : S → Leaver → Bool → S → Leaver → Type 0) (s : S) (passed : ℕ)
    (same : (x y : Leaver) (b : Bool) (t : S) → R s x b t y → t ≡ s)
    (says : (x y : Leaver) (t : S) → R s x true t y → StaysInTime passed x y) where
  one_more : (x y : Leaver) (t : S) (xs ys zs : List Leaver) (b : Bool) → R s x b t y → ys ≡ cond b (y ∷ zs) zs
      → StayInTime passed xs zs → StayInTime passed (x ∷ xs) ys
  one_more x y t xs ys zs true r is rest = inr (y, zs, is, says x y t r, rest)
  one_more x y t xs ys zs false r is rest = inl (subst (StayInTime passed xs) (sym is) rest)

  pub all_in_time : (xs ys : List Leaver) → RetainsInTurn R s xs ys → StayInTime passed xs ys
  all_in_time [] ys h = h
  all_in_time (x ∷ xs) ys (b, t, y, r, zs, rest, is) =
      one_more x y t xs ys zs b r is (all_in_time xs zs (subst (λ u. RetainsInTurn R u xs zs) (same x y b t r) rest))

-- each that stays has time
all_of : (m : Leaver) (rest : List Leaver) → HasTime m → All HasTime rest → All HasTime (m ∷ rest)
all_of m rest h t zero d less = h
all_of m rest h t (suc k) d less = t k d (omega (arith, less))

have_time : (passed : ℕ) (xs ys : List Leaver) → StayInTime passed xs ys → All HasTime ys
have_time passed [] ys is = subst (All HasTime) (sym is) (All-nil HasTime)
have_time passed (x ∷ xs) ys (inl more) = have_time passed xs ys more
have_time passed (x ∷ xs) ys (inr (m, rest, is, stays, more)) = subst (All HasTime) (sym is) (all_of m rest stays.1 (have_time passed xs rest more))

pub have_time_now : (looked before : Option Instant) (xs ys : List Leaver) → IsSomeAnd looked (λ now. StayInTime (time_since before now) xs ys) → All HasTime ys
have_time_now (Some now) before xs ys stay = have_time (time_since before now) xs ys stay
have_time_now None before xs ys stay = absurd stay
