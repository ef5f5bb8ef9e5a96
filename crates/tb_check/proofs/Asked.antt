-- How far the rules were asked of the sentences of a file.
use Rattle.std.proofs.Common.{◌≡◌, ℕ, List, [], ◌∷◌, ◌++◌, true, false, refl, ◌∙◌, ap, append_assoc, Option, Some, None, is_some}
use Rattle.std.specs.Prelude.{Result, Ok, Err, OnOk, IfErr}
use Rattle.std.specs.Result.{result_err}
use Rattle.tb_conllu.specs.Text.{BlockText}
use Rattle.tb_rules.specs.File.{IsValid, IsFaultAt, IsFileFault, HasTaken}
use Rattle.tb_rules.specs.Rules.{KeepsTo6}
use Rattle.tb_rules.specs.declared.filefault.FileFault.{FileFault}
use Rattle.tb_rules.specs.declared.filefault.FileFault.TheVariants.{At, Memory}
use Rattle.tb_check.specs.Check.{IsAsked, IsReportedFault}

-- a fault of the first sentences is the fault of more
abbrev pub FaultStays : Type 0
FaultStays = (bs more : List BlockText) (sentence rule row : ℕ) → IsFaultAt bs sentence rule row → IsFaultAt (bs ++ more) sentence rule row

fault_stays : FaultStays → (bs more : List BlockText) (e : FileFault) → IsReportedFault bs e → IsReportedFault (bs ++ more) e
fault_stays law bs more (At sentence rule row) f = law bs more sentence rule row f
fault_stays law bs more Memory f = record {
  before = f.before;
  next = f.next;
  after = f.after ++ more;
  whole = ap (λ l. l ++ more) f.whole ∙ append_assoc f.before (f.next ∷ f.after) more;
  valid = f.valid;
  kept = f.kept;
}

-- a fault was told before
pub asked_before : FaultStays → (old new : List (List ℕ)) (reported : Option FileFault) (before : List BlockText) (b : BlockText) → is_some reported ≡ true → IsAsked old reported before
    → IsAsked new reported (before ++ b ∷ [])
asked_before law old new None before b e h = let d : false ≡ true = e in absurd (cc)
asked_before law old new (Some fault) before b e h = fault_stays law before (b ∷ []) fault h

-- no fault was told before
pub none_before : (old : List (List ℕ)) (reported : Option FileFault) (before : List BlockText) → is_some reported ≡ false → IsAsked old reported before → HasTaken old before
none_before old None before e h = h
none_before old (Some fault) before e h = let d : true ≡ false = e in absurd (cc)

-- the fault of one more sentence
reported_next : (before : List BlockText) (b : BlockText) (e : FileFault) → IsValid before → IsFileFault (before ++ b ∷ []) e → (e ≡ Memory → KeepsTo6 b) → IsReportedFault (before ++ b ∷ []) e
reported_next before b (At sentence rule row) valid f kept = f
reported_next before b Memory valid f kept = record { before = before; next = b; after = []; whole = refl; valid = valid; kept = kept refl }

-- the next sentence was asked
pub asked_next : {X : Type 0} (old new : List (List ℕ)) (before : List BlockText) (b : BlockText) (r : Result X FileFault) → HasTaken old before → OnOk r (HasTaken new (before ++ b ∷ []))
    → IfErr r (IsFileFault (before ++ b ∷ [])) → IfErr r (λ e. e ≡ Memory → KeepsTo6 b) → IsAsked new (result_err r) (before ++ b ∷ [])
asked_next old new before b (Ok x) taken h k m = h
asked_next old new before b (Err e) taken h k m = reported_next before b e taken.valid k m
