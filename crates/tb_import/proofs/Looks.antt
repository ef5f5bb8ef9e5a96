-- How a look at a desk is made: of a read, of looks in a row, and of what is computed from them.
use Rattle.std.proofs.Common.{◌≡◌, ◌≢◌, Result, Ok, Err, IfErr, IsErrAnd, sym, subst, ap, ◌∙◌, arith}
use Rattle.sqlite.specs.Store.{Ghosts}
use Rattle.sqlite.specs.Held.{Held, state}
use Rattle.sqlite.specs.State.{HasCleanDisk}
use Rattle.tb_core.specs.declared.refusals.Fault.{Fault}
use Rattle.tb_core.specs.declared.refusals.Fault.TheVariants.{NotADesk, Output, Refused}
use Rattle.tb_core.specs.declared.refusals.Refusal.{Refusal}
use Rattle.tb_core.specs.Machine.{Machine}
use Rattle.tb_refine.specs.Calls.{KnowsDeskWhere}
use Rattle.tb_refine.specs.DeskReads.{IsReadWhere}
use Rattle.tb_refine.specs.DeskTables.{IsDeskOf}
use Rattle.tb_refine.specs.Faults.{IsNoDevice}
use Rattle.tb_refine.proofs.DeskReads.{IsKnown}
use Rattle.tb_import.specs.Leaving.{IsLeft, IsLook, Stays}
use Rattle.tb_import.proofs.Left.{desk_stays, left_from, left_then, next_clear, on_ok, stays_from, stays_if, stays_then}

module _ {S : Type 0} {g : Ghosts S} where
  -- a read
  pub look_of : {X : Type 0} {a b : Held S} {IsSo : Machine → Type 0 → Type 0} (r : Result X Fault) → IsReadWhere g a b r IsSo → IsLook g a b r IsSo
  look_of (Ok x) read = record { never_refuses = read.never_refuses; output = read.output; fails = read.fails; cause = read.cause; stays = stays_from read.read_only; left = left_from read.read_only }
  look_of (Err e) read = record { never_refuses = read.never_refuses; output = read.output; fails = read.fails; cause = read.cause; stays = tt; left = left_from read.read_only }

  -- at what the desks of other states have
  pub look_where : {X : Type 0} {a b : Held S} {IsOld IsSo : Machine → Type 0 → Type 0} {r : Result X Fault} → IsLook g a b r IsOld → (HasCleanDisk (state g b) → (s : Machine) → IsDeskOf g a s → IsOld s (IsKnown r) → IsSo s (IsKnown r)) → IsLook g a b r IsSo
  look_where one so = record {
    never_refuses = one.never_refuses;
    output = one.output;
    fails = λ clean unlimited s desk. so clean s desk (one.fails clean unlimited s desk);
    cause = one.cause;
    stays = one.stays;
    left = one.left;
  }

  -- one more look
  pub look_next : {X : Type 0} {a b c : Held S} {IsNext IsSo : Machine → Type 0 → Type 0} {r : Result X Fault} → IsLeft g a b → Stays g a b → IsLook g b c r IsNext
      → (HasCleanDisk (state g b) → (s : Machine) → IsDeskOf g a s → IsNext s (IsKnown r) → IsSo s (IsKnown r)) → IsLook g a c r IsSo
  look_next {a = a} {b = b} {c = c} {r = r} left stays two so = record {
    never_refuses = two.never_refuses;
    output = two.output;
    fails = λ clean unlimited s desk.
        let mid : HasCleanDisk (state g b) = omega (arith, clean, two.left.commits_nothing.clean) in
        so mid s desk (two.fails clean (left.commits_nothing.limit ∙ unlimited) s (desk_stays g a b stays mid s desk));
    cause = next_clear g a b c (IfErr r IsNoDevice) left stays two.left two.cause;
    stays = stays_if r (stays_then g a b c stays two.left) two.stays;
    left = left_then g a b c left stays two.left;
  }

  -- the error of a look is handed on
  pub look_stopped : {T X : Type 0} {a b : Held S} {IsFirst IsSo : Machine → Type 0 → Type 0} (r : Result X Fault) (e : Fault) → IsErrAnd r (λ x. x ≡ e) → IsLook {X = T} g a b (Err e) IsFirst
      → (HasCleanDisk (state g b) → (s : Machine) → IsDeskOf g a s → IsFirst s (IsKnown {X = T} (Err e)) → (IsKnown {X = T} (Err e) → IsKnown r) → IsSo s (IsKnown r)) → IsLook g a b r IsSo
  look_stopped (Ok x) e failed one so = absurd failed
  look_stopped (Err y) e failed one so = record {
    never_refuses = λ q bad. one.never_refuses q (let same : y ≡ Refused q = cc in ap Err (sym failed ∙ same));
    output = λ bad. one.output (let same : y ≡ Output = cc in ap Err (sym failed ∙ same));
    fails = λ clean unlimited s desk. so clean s desk (one.fails clean unlimited s desk) (λ known bad. known (let same : y ≡ NotADesk = cc in ap Err (sym failed ∙ same)));
    cause = λ good clean unlimited has. subst IsNoDevice (sym failed) (one.cause good clean unlimited has);
    stays = tt;
    left = one.left;
  }

  -- that of one more look
  pub look_ended : {T X : Type 0} {a b c : Held S} {IsNext IsSo : Machine → Type 0 → Type 0} (r : Result X Fault) (e : Fault) → IsErrAnd r (λ x. x ≡ e) → IsLeft g a b → Stays g a b → IsLook {X = T} g b c (Err e) IsNext
      → (HasCleanDisk (state g b) → (s : Machine) → IsDeskOf g a s → IsNext s (IsKnown {X = T} (Err e)) → (IsKnown {X = T} (Err e) → IsKnown r) → IsSo s (IsKnown r)) → IsLook g a c r IsSo
  look_ended {T = T} {b = b} {IsNext = IsNext} r e failed left stays two so =
      look_stopped {T = T} {IsFirst = IsNext} r e failed (look_next {X = T} {IsSo = IsNext} left stays two (λ mid s desk fails. fails)) (λ clean s desk fails on.
      let mid : HasCleanDisk (state g b) = omega (arith, clean, two.left.commits_nothing.clean) in
      so mid s desk fails on)

  -- what is made of looks
  pub look_made : {X : Type 0} {a b : Held S} {IsSo : Machine → Type 0 → Type 0} (r : Result X Fault) → IsLeft g a b → Stays g a b → ((q : Refusal) → r ≢ Err (Refused q)) → r ≢ Err Output → IfErr r IsNoDevice
      → KnowsDeskWhere g a b r IsSo → IsLook g a b r IsSo
  look_made r left stays never output cause fails = record {
    never_refuses = never;
    output = output;
    fails = fails;
    cause = λ good clean unlimited has. cause;
    stays = on_ok r stays;
    left = left;
  }

  -- what cannot be made of them is no desk's
  pub look_unmade : {X : Type 0} {a b : Held S} {IsSo : Machine → Type 0 → Type 0} (r : Result X Fault) (e : Fault) → IsErrAnd r (λ x. x ≡ e) → e ≡ NotADesk → IsLeft g a b → KnowsDeskWhere g a b r IsSo → IsLook g a b r IsSo
  look_unmade (Ok x) e failed is left fails = absurd failed
  look_unmade (Err y) e failed is left fails = record {
    never_refuses = λ q bad. absurd cc;
    output = λ bad. absurd cc;
    fails = fails;
    cause = λ good clean unlimited has bad. absurd cc;
    stays = tt;
    left = left;
  }

  -- nothing fails
  pub look_well : {X : Type 0} {a b : Held S} {IsSo : Machine → Type 0 → Type 0} {x : X} → IsLeft g a b → Stays g a b → ((s : Machine) → IsKnown (Ok x) → IsSo s (IsKnown (Ok x))) → IsLook g a b (Ok x) IsSo
  look_well left stays so = record {
    never_refuses = λ q bad. absurd cc;
    output = λ bad. absurd cc;
    fails = λ clean unlimited s desk. so s (λ bad. absurd cc);
    cause = λ good clean unlimited has. tt;
    stays = stays;
    left = left;
  }
