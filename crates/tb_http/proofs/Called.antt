-- What a call asks, by how its body was read.
use Rattle.std.proofs.Common.{◌≡◌, ◌≢◌, ℕ, List, Option, Some, None, Result, Ok, Err, IfOk, IfErr, IfSome, IfNone, IsOkAnd, MatchOption, MatchResult, refl, sym, ap, subst}
use Rattle.tb_http.specs.declared.asks.AskFault.{AskFault}
use Rattle.tb_http.specs.declared.asks.AskFault.TheVariants as ask
use Rattle.tb_http.specs.declared.head.BodyFault.{BodyFault}
use Rattle.tb_http.specs.declared.head.BodyFault.TheVariants as body
use Rattle.tb_http.specs.Asks.{Outcome}
use Rattle.tb_http.specs.Faults.{fault_of}
use Rattle.tb_http.proofs.Asking.{ok_is_no_fault}

module _ {V A : Type 0} (reported : A → Outcome) (short : Outcome) (called : V → Outcome) where
  -- the contract of `asked_with`
  abbrev pub IsAskedWith : Result (Option V) BodyFault → Result A AskFault → Type 0
  IsAskedWith read result = MatchResult read
      (λ r. MatchOption r (IsOkAnd result (λ a. reported a ≡ short)) (λ v. IsOkAnd result (λ a. reported a ≡ called v)))
      (λ e. result ≡ Err (fault_of e))

  -- what holds of each outcome of the body holds of the answer
  pub by_read : (read : Result (Option V) BodyFault) (result : Result A AskFault) → IsAskedWith read result → (S : Type 0) (W L : V → Type 0) (P : Outcome → Type 0)
      → IfOk read (λ r. IfSome r W) → IfOk read (λ r. IfSome r L) → IfOk read (λ r. IfNone r S) → ((v : V) → W v → L v → P (called v)) → (S → P short) → IfOk result (λ a. P (reported a))
  by_read (Ok (Some v)) (Ok a) is S W L P whole long few f g = subst P (sym is) (f v whole long)
  by_read (Ok (Some v)) (Err e) is S W L P whole long few f g = absurd is
  by_read (Ok None) (Ok a) is S W L P whole long few f g = subst P (sym is) (g few)
  by_read (Ok None) (Err e) is S W L P whole long few f g = absurd is
  by_read (Err e) (Ok a) is S W L P whole long few f g = absurd (ok_is_no_fault a _ is)
  by_read (Err e) (Err x) is S W L P whole long few f g = tt

  -- what holds of each fault of the body holds of the answer's
  pub by_fault : (read : Result (Option V) BodyFault) (result : Result A AskFault) → IsAskedWith read result → (F : BodyFault → Type 0) (P : AskFault → Type 0)
      → IfErr read F → ((e : BodyFault) → F e → P (fault_of e)) → IfErr result P
  by_fault (Ok (Some v)) (Ok a) is F P fault f = tt
  by_fault (Ok (Some v)) (Err e) is F P fault f = absurd is
  by_fault (Ok None) (Ok a) is F P fault f = tt
  by_fault (Ok None) (Err e) is F P fault f = absurd is
  by_fault (Err e) (Ok a) is F P fault f = tt
  by_fault (Err e) (Err x) is F P fault f = subst P (sym (error_of is)) (f e fault)
    where
      value : Result A AskFault → AskFault
      value (Ok a) = ask.Memory
      value (Err e) = e

      error_of : {x y : AskFault} → ◌≡◌ {A = Result A AskFault} (Err x) (Err y) → x ≡ y
      error_of same = ap value same

  -- a read of the body that failed breaks the request
  pub not_read : (read : Result (Option V) BodyFault) (result : Result A AskFault) → IsAskedWith read result → result ≢ Err ask.Broken → read ≢ Err body.Read
  not_read read result is other failed = other (subst (λ r. IsAskedWith r result) failed is)

-- a broken request is one whose body was not read
pub broken_read : {X : Type 0} (e : BodyFault) → (e ≡ body.Read → X) → fault_of e ≡ ask.Broken → X
broken_read body.Read f is = f refl
broken_read body.Memory f is = absurd (let d : ask.Memory ≡ ask.Broken = is in cc)
