-- A line on a desk, whether or not its body came, and what is read of the desk after its answer.
use Rattle.std.proofs.Common.{◌≡◌, ◌≢◌, ◌∙◌, ℕ, List, Bool, true, false, Option, Result, Ok, Err, MatchResult, refl, sym, arith, le_trans, inl, inr}
use Rattle.std.proofs.lemmas.Bool.{false≢true}
use Rattle.sqlite.specs.Store.{Ghosts}
use Rattle.sqlite.specs.Held.{state}
use Rattle.sqlite.specs.State.{HasCleanDisk, Survives}
use Rattle.sqlite.proofs.StateLemmas.{survives_then, survives_weaker}
use Rattle.tb_tables.specs.Layout.{desk_schema}
use Rattle.tb_core.specs.Machine.{Machine}
use Rattle.tb_store.specs.Calls.{InState, KeepsState}
use Rattle.tb_store.specs.Kept.{Kept}
use Rattle.tb_store.specs.Represents.{Represents}
use Rattle.tb_http.specs.declared.replies.Reply.{Reply}
use Rattle.tb_cli.specs.Lines.{Said}
use Rattle.tb_check.specs.Check.{file_limit}
use Rattle.tb_answer.specs.Taken.{IsBodyAskedFor, IsTaken, has_body}
use Rattle.tb_desk.specs.Lines.{AsksForBody, LeavesInput}
use Rattle.tb_desk.specs.Running.{KeepsDesk, taken_of}

module _ {S : Type 0} {g : Ghosts S} where
  -- nothing is read
  pub read_none : (a : Kept S) → KeepsDesk g a a
  read_none a = (
    (omega arith, omega arith),
    λ clean s stands. (record { clean = omega arith; shield = λ h. h; counts = omega arith; limit = refl; closes = λ _ h. inl h; crash = λ _ db h. inl h }, λ _. stands),
  )

  -- one read
  pub read_once : (a b : Kept S) → Survives (state g a.conn) (state g b.conn) (λ _. (state g a.conn).now.schema ≢ desk_schema) → KeepsState g a b → KeepsDesk g a b
  read_once a b kept stays = (
    (kept.clean, kept.counts),
    λ clean s stands. (survives_weaker (state g a.conn) (state g b.conn) _ _ (λ _ db other. other stands.desk.holds.schema) kept, λ opened. stays clean opened s stands),
  )

  -- one after another, where the first succeeds
  pub read_then : (a b c : Kept S) → KeepsDesk g a b → (HasCleanDisk (state g b.conn) → (s : Machine) → Represents g a s → Represents g b s) → KeepsDesk g b c → KeepsDesk g a c
  read_then a b c one stays two = (
    (le_trans one.0.0 two.0.0, le_trans one.0.1 two.0.1),
    λ clean s stands.
        let before : HasCleanDisk (state g b.conn) = omega (arith, clean, two.0.0) in
        let second = two.1 clean s (stays before s stands) in
        (survives_then (state g a.conn) (state g b.conn) (state g c.conn) _ _ _ (λ _ _ no. no) (λ _ _ no. no) (one.1 before s stands).0 second.0, second.1),
  )

-- what is said of a body that came, and of a reply in its place, is said of what was taken
pub taken_so : {V E : Type 0} (items : V → List ℕ) (body : Result V E) (P : Result (List ℕ) E → Type 0) → MatchResult body (λ v. P (Ok (items v))) (λ e. P (Err e)) → P (taken_of items body)
taken_so items (Ok v) P said = said
taken_so items (Err e) P said = said

-- the same in each state
pub taken_in : {S V E : Type 0} (g : Ghosts S) (old new : Kept S) (items : V → List ℕ) (body : Result V E) (P : Machine → Result (List ℕ) E → Type 0)
    → InState g old new (λ s. MatchResult body (λ v. P s (Ok (items v))) (λ e. P s (Err e))) → InState g old new (λ s. P s (taken_of items body))
taken_in g old new items body P said clean s stands = taken_so items body (P s) (said clean s stands)

module _ {R Why : Type 0} (is_failure : R → Why → Type 0) (left : R → Option (List ℕ)) (limit : ℕ) (said : Said) (old new : R) where
  untaken : (taken : Result (List ℕ) Reply) → IsTaken is_failure left limit said old new taken → LeavesInput old new said
  untaken taken (inl came) none = absurd (false≢true (sym none ∙ came.0))
  untaken taken (inr kept) none = kept.1

  -- a line without a body takes nothing of its input
  pub input_left : {V : Type 0} (items : V → List ℕ) (body : Result V Reply)
      → MatchResult body (λ v. IsTaken is_failure left limit said old new (Ok (items v))) (λ r. IsTaken is_failure left limit said old new (Err r))
      → LeavesInput old new said
  input_left items body came = untaken (taken_of items body) (taken_so items body (IsTaken is_failure left limit said old new) came)

-- the body of a line is asked for once, and where it has none nothing is asked
pub body_asked : {R Why V : Type 0} (is_failure : R → Why → Type 0) (left : R → Option (List ℕ)) (pieces : R → Option (List (List ℕ))) (said : Said) (old new : R) (items : V → List ℕ) (body : Result V Reply)
    → MatchResult body (λ v. IsTaken is_failure left file_limit said old new (Ok (items v))) (λ r. IsTaken is_failure left file_limit said old new (Err r))
    → (has_body said ≡ true → MatchResult body (λ v. IsBodyAskedFor file_limit (pieces old) (pieces new) (Ok (items v))) (λ r. IsBodyAskedFor file_limit (pieces old) (pieces new) (Err r)))
    → AsksForBody is_failure left pieces old new said
body_asked is_failure left pieces said old new items body came asked = by_body (has_body said) refl
  where
    by_body : (b : Bool) → has_body said ≡ b → AsksForBody is_failure left pieces old new said
    by_body true has = inr (
      taken_of items body,
      taken_so items body (λ t. IsTaken is_failure left file_limit said old new t) came,
      taken_so items body (λ t. IsBodyAskedFor file_limit (pieces old) (pieces new) t) (asked has),
    )
    by_body false none = inl (input_left is_failure left file_limit said old new items body came none)
