-- What a result is of which a fault or a value is known.
use Rattle.std.proofs.Common.{◌≡◌, Result, Ok, Err, OnOk, IfOk}
use Rattle.tb_core.specs.declared.refusals.Fault.{Fault}

pub ok_is_no_err : {X Y : Type 0} {E : Type 0} (x : X) (e : E) → let r : Result X E = Ok x in r ≡ Err e → Y
ok_is_no_err x e h = absurd (cc)

pub err_is : (X : Type 0) (e f : Fault) → let r : Result X Fault = Err e in r ≡ Err f → e ≡ f
err_is X e f h = cc

pub both_shown : {Y : Type 0} {A : Type 0} {P Q : Y → Type 0} (r : Result Y Fault) → A → IfOk r (λ y. A → P y) → ((y : Y) → P y → Q y) → IfOk r Q
both_shown (Ok y) a h f = f y (h a)
both_shown (Err e) a h f = tt

pub if_ok_under : {Y A : Type 0} (P : Y → Type 0) (r : Result Y Fault) → (A → IfOk r P) → IfOk r (λ y. A → P y)
if_ok_under P (Ok y) h = h
if_ok_under P (Err e) h = tt

pub on_ok_under : {Y A B : Type 0} (r : Result Y Fault) → OnOk r B → (B → A) → OnOk r A
on_ok_under (Ok y) b f = f b
on_ok_under (Err e) b f = tt
