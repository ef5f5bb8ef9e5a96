-- What an answer that is no desk says of the fault that it comes from.
use Rattle.std.proofs.Common.{◌≡◌, Bool, true, false, Result, Ok, Err, sym, ◌∙◌, ap}
use Rattle.tb_conllu.specs.declared.fault.ReadFault.{ReadFault}
use Rattle.tb_conllu.specs.declared.fault.ReadFault.TheVariants as reading
use Rattle.tb_rules.specs.declared.fault.RuleFault.{RuleFault}
use Rattle.tb_rules.specs.declared.fault.RuleFault.TheVariants as rules
use Rattle.tb_verify.specs.Unfit.{unfit_of_reading, unfit_of_rules}
use Rattle.tb_verify.specs.declared.unfit.Unfit.{Unfit}
use Rattle.tb_verify.specs.declared.unfit.Unfit.TheVariants.{NotADesk, Memory}

abbrev pub unreported : {X : Type 0} → Result X Unfit → Unfit
unreported (Ok x) = Memory
unreported (Err e) = e

abbrev pub is_form : Unfit → Bool
is_form NotADesk = true
is_form Memory = false

memory_is_no_form : Memory ≡ NotADesk → ⊥
memory_is_no_form e = let t : false ≡ true = ap is_form e in cc

-- the fault that was passed on
pub passed_on : {X : Type 0} (r : Result X Unfit) (e f : Unfit) → r ≡ Err e → e ≡ f → r ≡ Err NotADesk → f ≡ NotADesk
passed_on r e f p g q = sym g ∙ ap unreported (sym p ∙ q)

pub passed_on_as : {X Y : Type 0} (r : Result X Unfit) (e f : Unfit) → r ≡ Err e → e ≡ f → r ≡ Err NotADesk → let w : Result Y Unfit = Err f in w ≡ Err NotADesk
passed_on_as {X} {Y} r e f p g q = ap (λ (u : Unfit). let w : Result Y Unfit = Err u in w) (passed_on r e f p g q)

-- what was passed on is want of memory where the answer is
wanted : {X : Type 0} (r : Result X Unfit) (e f : Unfit) → r ≡ Err e → e ≡ f → r ≡ Err Memory → f ≡ Memory
wanted r e f p g q = sym g ∙ ap unreported (sym p ∙ q)

pub wanted_as : {X Y : Type 0} (r : Result X Unfit) (e f : Unfit) → r ≡ Err e → e ≡ f → r ≡ Err Memory → let w : Result Y Unfit = Err f in w ≡ Err Memory
wanted_as {X} {Y} r e f p g q = ap (λ (u : Unfit). let w : Result Y Unfit = Err u in w) (wanted r e f p g q)

pub no_want : {X : Type 0} (r : Result X Unfit) (e f : Unfit) → r ≡ Err e → e ≡ f → f ≡ NotADesk → r ≡ Err Memory → ⊥
no_want r e f p g n q = memory_is_no_form (sym (wanted r e f p g q) ∙ n)

-- rows that are unfit are told so
pub unfit_as : {X : Type 0} (r : Result X Unfit) (e f : Unfit) → r ≡ Err e → e ≡ f → f ≡ NotADesk → r ≡ Err NotADesk
unfit_as r e f p g n = p ∙ ap (λ (u : Unfit). Err u) (g ∙ n)

pub no_read_fault : {X : Type 0} (r : Result X Unfit) (e : Unfit) (f : ReadFault) → r ≡ Err e → e ≡ unfit_of_reading f → f ≡ reading.Memory → r ≡ Err NotADesk → ⊥
no_read_fault r e f p g m q = memory_is_no_form (sym (ap unfit_of_reading m) ∙ passed_on r e (unfit_of_reading f) p g q)

pub no_rule_fault : {X : Type 0} (r : Result X Unfit) (e : Unfit) (f : RuleFault) → r ≡ Err e → e ≡ unfit_of_rules f → f ≡ rules.Memory → r ≡ Err NotADesk → ⊥
no_rule_fault r e f p g m q = memory_is_no_form (sym (ap unfit_of_rules m) ∙ passed_on r e (unfit_of_rules f) p g q)
