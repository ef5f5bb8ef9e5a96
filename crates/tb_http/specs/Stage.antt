-- Tests one after another: each stops with an answer, or goes on with what it found.
use Rattle.std.specs.Prelude.{◌≡◌}

pub data Stage (A R : Type 0) (says : R → Type 0) (passes : A → Type 0) (rest : A → R → Type 0) : R
    → Type 0 where
  stops : (r : R) → says r → Stage A R says passes rest r
  goes : (r : R) (a : A) → passes a → rest a r → Stage A R says passes rest r

-- P holds of at most one answer
abbrev pub AreOne : (R : Type 0) → (R → Type 0) → Type 0
AreOne R P = (r q : R) → P r → P q → r ≡ q
