-- What a read leaves of the connection.
use Rattle.std.proofs.Common.{◌≡◌, ℕ, List, Result, Ok, Err, IfOk, OnOk, subst, sym}
use Rattle.sqlite.specs.Order.{Row}
use Rattle.sqlite.specs.Listing.{understood}
use Rattle.sqlite.specs.Clock.{timed}
use Rattle.sqlite.specs.Schema.{Schema}
use Rattle.sqlite.specs.State.{State, Shown, ShowsRows, IsUnchanged}
use Rattle.sqlite.proofs.Callers.{IsPlain}

pub if_ok : {T E : Type 0} {P Q : T → Type 0} (r : Result T E) → IfOk r P → ((x : T) → P x → Q x) → IfOk r Q
if_ok (Ok x) h f = f x h
if_ok (Err e) h f = tt

pub on_ok : {T E X : Type 0} (r : Result T E) → X → OnOk r X
on_ok (Ok t) x = x
on_ok (Err e) x = tt

pub when_ok : {T E X : Type 0} {P : T → Type 0} (r : Result T E) → IfOk r P → ((x : T) → P x → X) → OnOk r X
when_ok (Ok x) h f = f x h
when_ok (Err e) h f = tt

pub shown_same : (sql : List ℕ) (params : Row) (old new : State) (schema : Schema) (rows : List Row) → IsPlain (understood schema sql) → old.now.schema ≡ schema → Shown sql params old new rows → IsUnchanged old new
unfolding Shown
shown_same sql params old new schema rows plain has h =
    let here = subst (λ s. IsPlain (understood s sql)) (sym has) plain in
    let none = (subst IsPlain h.1.is here).0 in
    (subst (ShowsRows old new sql h.0 (timed params h.0.formats h.1.now) rows) none h.2).3

-- what was shown, at the parameters as values
pub shown_at : (sql : List ℕ) (old new : State) (rows : List Row) (params given : Row) → Shown sql given old new rows → given ≡ params → Shown sql params old new rows
shown_at sql old new rows params given h same = subst (λ ps. Shown sql ps old new rows) same h
