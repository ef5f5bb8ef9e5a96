-- From the faults of the calls inside a transaction to those of the command.
use Rattle.std.proofs.Common.{◌≡◌, ◌≤◌, ◌+◌, ◌-◌, ℕ, List, [], ◌∷◌, length, length-append, inl, inr, Result, IfErr, IsErrAnd, IsTrue, true, sym, subst, None, arith}
use Rattle.std.proofs.lemmas.Result.{err_from_is_err_and}
use Rattle.sqlite.specs.Store.{Ghosts}
use Rattle.sqlite.specs.Held.{Held, state}
use Rattle.sqlite.specs.State.{State, HasCleanDisk, Survives}
use Rattle.sqlite.specs.Steps.{FailsToCommit}
use Rattle.sqlite.specs.Order.{Row}
use Rattle.sqlite.specs.Tree.{Trees}
use Rattle.sqlite.specs.declared.error.Error.{Error}
use Rattle.sqlite.proofs.StateLemmas.{survives_then}
use Rattle.tb_tables.specs.Records.{Tables}
use Rattle.tb_tables.specs.Changes.{Changes, HasRevisionRowids}
use Rattle.tb_tables.specs.Commands.{NewSentenceRecord, with_item, with_items}
use Rattle.tb_tables.specs.Failing.{NeedsNoFault, IsWant, HasRowids}
use Rattle.tb_tables.specs.Leaving.{IsFaultless}
use Rattle.tb_tables.proofs.Causes.{commit_needs_none, faultless_begun, faultless_first, faultless_next, failed_wants}

-- the error of a call is handed on
pub handed_on : {T E : Type 0} (P : E → Type 0) (r : Result T E) (e : E) → IsErrAnd r (λ x. x ≡ e) → P e → IfErr r P
handed_on P r e h p = let reported = err_from_is_err_and r h in rw reported.1 (subst P (sym reported.2) p)

module _ {S : Type 0} (g : Ghosts S) (old begun : Held S) (begins : begun ≡ record old { in_transaction = true }) where
  pub begins_unlimited : (state g old).step_limit ≡ None → (state g begun).step_limit ≡ None
  begins_unlimited h = rw begins h

-- two calls inside a transaction
pub both_survive : (a b c : State) → Survives a b (λ _. ⊥) → Survives b c (λ _. ⊥) → Survives a c (λ _. ⊥)
both_survive a b c one two = survives_then a b c (λ _. ⊥) (λ _. ⊥) (λ _. ⊥) (λ _ db none. none) (λ _ db none. none) one two

-- the second of two calls blames no disk, so both do
pub second_blames : {S T : Type 0} (g : Ghosts S) (a b c : Held S) (Fine : Error → Type 0) (r : Result T Error) (e : Error) → IsErrAnd r (λ x. x ≡ e) → Survives (state g a) (state g b) (λ _. ⊥) → Survives (state g b) (state g c) (λ _. ⊥)
    → (HasCleanDisk (state g c) → IsFaultless g b c → Fine e) → HasCleanDisk (state g c) → IsFaultless g a c → IfErr r Fine
second_blames g a b c Fine r e handed one two fine clean good =
    let was : HasCleanDisk (state g b) = omega (arith, two.clean) in
    handed_on Fine r e handed (fine clean (faultless_next (state g a) (state g b) (state g c) good one was two.counts))

module _ {S T : Type 0} (g : Ghosts S) (old begun last end : Held S) (begins : begun ≡ record old { in_transaction = true }) (Fine : Error → Type 0) (r : Result T Error) (e : Error) (handed : IsErrAnd r (λ x. x ≡ e)) where
  -- the error of what was done inside
  pub inside_blames : (IsFaultless g begun last → Fine e) → (state g last).faults ≤ (state g end).faults → IsFaultless g old end → IfErr r Fine
  inside_blames fine more good = handed_on Fine r e handed (fine (faultless_first (state g begun) (state g last) (state g end) (faultless_begun g old begun end begins good) more))

  -- the error of the commit
  pub commit_blames : {Commits : Trees → Type 0} → (NeedsNoFault e → Fine e) → Survives (state g begun) (state g last) (λ _. ⊥) → Survives (state g last) (state g end) Commits → FailsToCommit (state g last) (state g end) e
      → HasCleanDisk (state g end) → IsFaultless g old end → IfErr r Fine
  commit_blames fine inside ended failed clean good =
      let was : HasCleanDisk (state g last) = omega (arith, ended.clean) in
      let there = faultless_next (state g begun) (state g last) (state g end) (faultless_begun g old begun end begins good) inside was ended.counts in
      handed_on Fine r e handed (fine (commit_needs_none g last end there e failed))

  -- it wants memory alone
  pub commit_wants : {Commits : Trees → Type 0} → IsTrue (state g last).in_transaction → Survives (state g begun) (state g last) (λ _. ⊥) → Survives (state g last) (state g end) Commits → FailsToCommit (state g last) (state g end) e
      → HasCleanDisk (state g end) → IsFaultless g old end → IfErr r IsWant
  commit_wants there inside ended failed clean good =
      let was : HasCleanDisk (state g last) = omega (arith, ended.clean) in
      let whole = faultless_next (state g begun) (state g last) (state g end) (faultless_begun g old begun end begins good) inside was ended.counts in
      handed_on IsWant r e handed (elim failed [ inl fails ↦ failed_wants (state g last) (state g end) whole e fails | inr late ↦ absurd (let x = there in let y = late.1 in cc) ])

-- ---- rowids

-- for fewer of them
rowids_among : (j k : ℕ) (rows : List Row) → j ≤ k → HasRowids k rows → HasRowids j rows
rowids_among j k rows few h = record { ascend = h.ascend; keyed = h.keyed; room = λ i low. h.room i (omega (arith, low, few)) }

-- after so many of them are taken
pub rowids_after : (old new : State) (d after : Tables) (j k m : ℕ) → Changes old new d after → length after.revisions ≡ length d.revisions + j → j + k ≤ m → HasRevisionRowids old m → HasRevisionRowids new k
rowids_after old new d after j k m made taken few h =
    let n = length d.revisions + m in
    let before : n - length d.revisions ≡ m = omega arith in
    let left : k ≤ n - length after.revisions = omega (arith, taken, few) in
    rowids_among k (n - length after.revisions) (new.now.trees 5) left (made.rowids n (subst (HasRevisionRowids old) (sym before) h))

pub rowids_begun : {S : Type 0} (g : Ghosts S) (old begun : Held S) (n : ℕ) → begun ≡ record old { in_transaction = true } → HasRevisionRowids (state g old) n → HasRevisionRowids (state g begun) n
rowids_begun g old begun n begins h = rw begins h

-- each item has one revision
pub revisions_of : (batch : ℕ) (who : List ℕ) (d : Tables) (items : List NewSentenceRecord) → length (with_items batch who d items).revisions ≡ length d.revisions + length items
revisions_of batch who d [] = omega arith
revisions_of batch who d (item ∷ items) =
    let rest = revisions_of batch who (with_item batch who d item) items in
    let one : length (with_item batch who d item).revisions ≡ length d.revisions + 1 = length-append d.revisions _ in
    omega (arith, rest, one)
