-- One call that only reads after another.
use Rattle.std.proofs.Common.{◌≡◌, Bool, true, ◌∙◌, None, Result, Ok, Err, OnOk, OnErr, IfErr, IsErrAnd, refl, inl, arith}
use Rattle.sqlite.specs.Store.{Ghosts}
use Rattle.sqlite.specs.Tree.{Trees}
use Rattle.sqlite.specs.Held.{Held, state}
use Rattle.sqlite.specs.State.{HasCleanDisk, Survives}
use Rattle.sqlite.proofs.StateLemmas.{survives_then, survives_weaker}
use Rattle.tb_core.specs.declared.refusals.Fault.{Fault}
use Rattle.tb_core.specs.Machine.{Machine}
use Rattle.tb_tables.specs.Layout.{desk_schema}
use Rattle.tb_tables.specs.Leaving.{IsFaultless}
use Rattle.tb_tables.proofs.Commands.{same_holds}
use Rattle.tb_tables.proofs.Causes.{handed_on, faultless_next}
use Rattle.tb_refine.specs.DeskTables.{tables_of, IsDeskOf}
use Rattle.tb_refine.specs.Faults.{IsNoDevice}
use Rattle.tb_reads.specs.ReadOnly.{IsReadOnly}
use Rattle.tb_reads.proofs.ReadOnly.{schema_stays}
use Rattle.tb_import.specs.Leaving.{IsLeft, Stays}

module _ {S : Type 0} (g : Ghosts S) where
  -- none at all
  pub left_same : (c : Held S) → IsLeft g c c
  left_same c = record {
    mode = λ h. h;
    kept = λ clean opened d h. h;
    commits_nothing = record { clean = omega arith; shield = λ h. h; counts = omega arith; limit = refl; closes = λ clean h. inl h; crash = λ clean db h. inl h };
  }

  pub stays_same : (c : Held S) → Stays g c c
  stays_same c = record { schema = λ clean has. has; holds = λ clean d holds. holds; sees = λ clean has. refl }

  module _ (a b : Held S) where
    pub desk_stays : Stays g a b → HasCleanDisk (state g b) → (s : Machine) → IsDeskOf g a s → IsDeskOf g b s
    desk_stays stays clean s desk = record { reachable = desk.reachable; holds = stays.holds clean (tables_of s) desk.holds }

  module _ (a b c : Held S) where
    pub left_then : IsLeft g a b → Stays g a b → IsLeft g b c → IsLeft g a c
    left_then one stays two = record {
      mode = λ h. two.mode (one.mode h);
      kept = λ clean opened d holds. two.kept clean opened d (stays.holds (omega (arith, clean, two.commits_nothing.clean)) d holds);
      commits_nothing = survives_then (state g a) (state g b) (state g c) _ _ _ (λ _ _ none. none) (λ clean _ none d holds. none d (stays.holds (omega (arith, clean, two.commits_nothing.clean)) d holds)) one.commits_nothing two.commits_nothing;
    }

    pub stays_then : Stays g a b → IsLeft g b c → Stays g b c → Stays g a c
    stays_then one two more = record {
      schema = λ clean has. more.schema clean (one.schema (omega (arith, clean, two.commits_nothing.clean)) has);
      holds = λ clean d holds. more.holds clean d (one.holds (omega (arith, clean, two.commits_nothing.clean)) d holds);
      sees = λ clean has. let mid : HasCleanDisk (state g b) = omega (arith, clean, two.commits_nothing.clean) in more.sees clean (one.schema mid has) ∙ one.sees mid has;
    }

    -- where the disk fails at nothing in both, it does not in the second
    pub next_clear : (P : Type 0) → IsLeft g a b → Stays g a b → IsLeft g b c
        → (IsFaultless g b c → HasCleanDisk (state g c) → (state g b).step_limit ≡ None → (state g b).now.schema ≡ desk_schema → P)
        → IsFaultless g a c → HasCleanDisk (state g c) → (state g a).step_limit ≡ None → (state g a).now.schema ≡ desk_schema → P
    next_clear P one stays two fine good clean unlimited has =
        let mid : HasCleanDisk (state g b) = omega (arith, clean, two.commits_nothing.clean) in
        let here = faultless_next (state g a) (state g b) (state g c) good one.commits_nothing mid two.commits_nothing.counts in
        fine here clean (one.commits_nothing.limit ∙ unlimited) (stays.schema mid has)

    -- and its error is handed on
    pub left_clear : {T : Type 0} (r : Result T Fault) (e : Fault) → IsErrAnd r (λ x. x ≡ e) → IsLeft g a b → Stays g a b → IsLeft g b c
        → (IsFaultless g b c → HasCleanDisk (state g c) → (state g b).step_limit ≡ None → (state g b).now.schema ≡ desk_schema → IsNoDevice e)
        → IsFaultless g a c → HasCleanDisk (state g c) → (state g a).step_limit ≡ None → (state g a).now.schema ≡ desk_schema → IfErr r IsNoDevice
    left_clear r e handed one stays two fine good clean unlimited has = handed_on IsNoDevice r e handed (next_clear (IsNoDevice e) one stays two fine good clean unlimited has)

-- a read of the tables
pub left_from : {S : Type 0} {g : Ghosts S} {a b : Held S} {s : Bool} → IsReadOnly g a b s → IsLeft g a b
left_from {g = g} {a = a} {b = b} read = record {
  mode = read.autocommit;
  kept = read.keeps_records;
  commits_nothing = survives_weaker (state g a) (state g b) _ _ (λ _ _ other d holds. other holds.schema) read.commits_nothing;
}

pub stays_from : {S : Type 0} {g : Ghosts S} {a b : Held S} → IsReadOnly g a b true → Stays g a b
stays_from {g = g} {a = a} {b = b} read = record {
  schema = λ clean has. schema_stays g a b (read.unchanged clean has) has;
  holds = λ clean d holds. same_holds g a b d holds (read.unchanged clean holds.schema);
  sees = λ clean has. (read.unchanged clean has).0.now_is;
}

pub stays_if : {T E : Type 0} {X Y : Type 0} (r : Result T E) → (X → Y) → OnOk r X → OnOk r Y
stays_if (Ok x) f h = f h
stays_if (Err e) f h = tt

pub on_ok : {T E : Type 0} {X : Type 0} (r : Result T E) → X → OnOk r X
on_ok (Ok x) h = h
on_ok (Err e) h = tt

pub kept_if : {T E : Type 0} {X Y : Type 0} (r : Result T E) → (X → Y) → OnErr r X → OnErr r Y
kept_if (Ok x) f h = tt
kept_if (Err e) f h = f h

-- nothing is done
pub survives_none : {S : Type 0} (g : Ghosts S) (c : Held S) (P : Trees → Type 0) → Survives (state g c) (state g c) P
survives_none g c P = record { clean = omega arith; shield = λ h. h; counts = omega arith; limit = refl; closes = λ clean h. inl h; crash = λ clean db h. inl h }
