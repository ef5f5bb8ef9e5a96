-- What holds of what a call gave holds of what is handed on.
use Rattle.std.proofs.Common.{◌≡◌, ◌++◌, ℕ, List, codes, refl, sym, subst, Result, Ok, Err, IfOk, IsErrAnd, IsOkAnd, MatchResult}
use Rattle.tb_http.specs.declared.replies.Reply.TheVariants.{Desk}
use Rattle.tb_host.specs.Causes.{reply_of}
use Rattle.tb_host.specs.Contents.{IsLogName, cause_to_migrate}
use Rattle.tb_host.specs.declared.contents.Version.{Version}
use Rattle.tb_host.specs.declared.contents.Version.TheVariants.{One, Two}

pub both : {A E : Type 0} (P Q : A → Type 0) (made : Result A E) → IfOk made P → IfOk made Q → IfOk made (λ a. P a × Q a)
both P Q (Ok a) p q = (p, q)
both P Q (Err e) p q = tt

-- what follows from that
pub weaker : {A E : Type 0} (P Q : A → Type 0) (made : Result A E) → IfOk made P → ((a : A) → P a → Q a) → IfOk made Q
weaker P Q (Ok a) p h = h a p
weaker P Q (Err e) p h = tt

-- what holds of each value holds of what a call gave
pub of_each : {A E : Type 0} (Q : A → Type 0) (made : Result A E) → ((a : A) → Q a) → IfOk made Q
of_each Q (Ok a) h = h a
of_each Q (Err e) h = tt

-- the value inside what is handed on
pub handed : {A F E C : Type 0} (inside : F → A) (R : E → C → Type 0) (P Q : A → Type 0) (made : Result A E) (result : Result F C)
    → MatchResult made (λ a. IsOkAnd result (λ f. inside f ≡ a)) (λ e. IsErrAnd result (R e))
    → IfOk made P → ((a : A) → P a → Q a) → IfOk result (λ f. Q (inside f))
handed inside R P Q (Ok a) (Ok f) is p weaker = subst Q (sym is) (weaker a p)
handed inside R P Q (Ok a) (Err c) is p weaker = tt
handed inside R P Q (Err e) (Ok f) is p weaker = absurd is
handed inside R P Q (Err e) (Err c) is p weaker = tt

-- the value itself
pub passed : {A E C : Type 0} (R : E → C → Type 0) (P : A → Type 0) (given : Result A E) (result : Result A C)
    → MatchResult given (λ a. result ≡ Ok a) (λ e. IsErrAnd result (R e)) → IfOk given P → IfOk result P
passed R P (Ok a) result is p = subst (λ r. IfOk r P) (sym is) p
passed R P (Err e) (Ok a) is p = absurd is
passed R P (Err e) (Err c) is p = tt

-- a desk that is not migrated is told as none
pub unmigrated : (version : Version) → reply_of (cause_to_migrate version) ≡ Desk
unmigrated One = refl
unmigrated Two = refl

-- the name of a log, from what it is made of
pub log_named : {T E : Type 0} (bytes : T → List ℕ) (file : List ℕ) (made : Result T E) → IfOk made (λ name. bytes name ≡ file ++ codes "-wal") → IfOk made (λ name. IsLogName (bytes name))
log_named bytes file (Ok name) is = record { file = file; ends = is }
log_named bytes file (Err cause) is = tt
