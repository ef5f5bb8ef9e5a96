-- What is said of a body that came, or of why it did not, said of what was taken.
use Rattle.std.proofs.Common.{ℕ, List, Result, Ok, Err, MatchResult}

pub joined : {V E : Type 0} (items : V → List ℕ) (body : Result V E) (P Q : Result (List ℕ) E → Type 0)
    → MatchResult body (λ v. P (Ok (items v))) (λ e. P (Err e))
    → MatchResult body (λ v. Q (Ok (items v))) (λ e. Q (Err e))
    → (taken : Result (List ℕ) E) × P taken × Q taken
joined items (Ok v) P Q taken done = (Ok (items v), taken, done)
joined items (Err e) P Q taken done = (Err e, taken, done)

-- a value of which this is said, in either case
pub witnessed : {V E W : Type 0} (items : V → List ℕ) (body : Result V E) (P : W → Result (List ℕ) E → Type 0) (w : W)
    → MatchResult body (λ v. P w (Ok (items v))) (λ e. P w (Err e))
    → MatchResult body (λ v. (x : W) × P x (Ok (items v))) (λ e. (x : W) × P x (Err e))
witnessed items (Ok v) P w done = (w, done)
witnessed items (Err e) P w done = (w, done)
