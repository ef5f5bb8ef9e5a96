-- What was read of a desk, told as an answer or as a reply.
use Rattle.std.proofs.Common.{◌≡◌, ◌≢◌, ◌↔◌, ℕ, List, Option, None, Some, false, refl, sym, ap, subst, inl, inr, Result, Ok, Err, IfOk, IfErr, MatchResult, OnOk}
use Rattle.tb_core.specs.declared.refusals.Refusal.{Refusal}
use Rattle.tb_core.specs.declared.refusals.Refusal.TheVariants.{BadName, NoSuchSentence}
use Rattle.tb_core.specs.declared.refusals.Fault.{Fault}
use Rattle.tb_core.specs.declared.refusals.Fault.TheVariants.{Refused, Memory, Device, NotADesk, Output}
use Rattle.tb_core.specs.Machine.{Machine}
use Rattle.tb_core.specs.Names.{is_name}
use Rattle.tb_http.specs.declared.replies.Reply.{Reply}
use Rattle.tb_http.specs.declared.replies.Reply.TheVariants as reply
use Rattle.tb_cli.specs.View.{find}
use Rattle.tb_refine.specs.Faults.{IsNoDevice}
use Rattle.tb_store.specs.Answers.{HasNoSentence, RefusesId, RefusesRevision}
use Rattle.tb_store.specs.Exports.{RefusesBatch}
use Rattle.tb_answer.specs.declared.questions.Body.{Body}
use Rattle.tb_answer.specs.declared.questions.Question.TheVariants as question
use Rattle.tb_answer.specs.Commanded.{reply_for_fault, reply_for_export, IsFailure, IsStoreFailure}
use Rattle.tb_answer.specs.Asked.{or_reply, IsMadeOf, IsReportedOf}
use Rattle.tb_answer.specs.Exported.{IsNamedBadly, IsReportedOfExport, RefusesExport}
use Rattle.tb_answer.specs.Viewed.{IsReportedAs, IsViewReported}

-- ---- what holds of a read, said of what is told

pub or_reply_ok : {X : Type 0} (P : X → Type 0) (read : Result X Fault) → IfOk read P → IfOk (or_reply read) P
or_reply_ok P (Ok x) h = h
or_reply_ok P (Err e) h = tt

pub or_reply_as_ok : {X : Type 0} (P : X → Type 0) (read : Result X Fault) (made : Result X Reply) → made ≡ or_reply read → IfOk read P → IfOk made P
or_reply_as_ok P read made is h = subst (λ m. IfOk m P) (sym is) (or_reply_ok P read h)

pub or_reply_as_err : {X : Type 0} (Q : Reply → Type 0) (read : Result X Fault) (made : Result X Reply) → made ≡ or_reply read → IfErr (or_reply read) Q → IfErr made Q
or_reply_as_err Q read made is h = subst (λ m. IfErr m Q) (sym is) h

-- the reply for a fault is handed on, and Z holds then
pub handed : {X V : Type 0} (Z : Type 0) (read : Result X Fault) (made : Result V Reply) → IfErr read (λ e. (made ≡ Err (reply_for_fault e)) × Z) → IfErr (or_reply read) (λ r. (made ≡ Err r) × Z)
handed Z (Ok x) made h = tt
handed Z (Err e) made h = h

pub made_ok : {X V : Type 0} {StandsFor : X → V → Type 0} {P : X → Type 0} {Q : V → Type 0} (read : Result X Fault) (made : Result V Reply) → IsMadeOf read made StandsFor → IfOk read P
    → ((x : X) (v : V) → P x → StandsFor x v → Q v) → IfOk made Q
made_ok (Ok x) (Ok v) is h f = f x v h is
made_ok (Ok x) (Err r) is h f = tt
made_ok {Q = Q} (Err e) made is h f = subst (λ m. IfOk m Q) (sym is) tt

-- a read that succeeded may still want memory for its text
pub made_err : {X V : Type 0} (StandsFor : X → V → Type 0) (Q : Reply → Type 0) (read : Result X Fault) (made : Result V Reply) → IsMadeOf read made StandsFor → IfErr (or_reply read) Q
    → ((x : X) → read ≡ Ok x → Q reply.Memory) → IfErr made Q
made_err StandsFor Q (Ok x) (Ok v) is h wants = tt
made_err StandsFor Q (Ok x) (Err r) is h wants = subst Q (sym is) (wants x refl)
made_err StandsFor Q (Err e) made is h wants = subst (λ m. IfErr m Q) (sym is) h

-- a refusal of the read is what was made of it
pub made_refused : {X V : Type 0} (StandsFor : X → V → Type 0) (read : Result X Fault) (made : Result V Reply) (r : Refusal) → IsMadeOf read made StandsFor → read ≡ Err (Refused r) → made ≡ Err (reply.Refused r)
made_refused {X} {V} StandsFor read made r is refused =
    let told_so : IsMadeOf {X = X} (Err (Refused r)) made StandsFor = subst (λ (x : Result X Fault). IsMadeOf x made StandsFor) refused is in
    told_so

-- what holds of a text that was put into memory holds of what was made of it
pub text_made : {U V E : Type 0} (P : V → Type 0) (put : Result U E) (made : Result V Reply) (x : V) → MatchResult put (λ _. made ≡ Ok x) (λ _. made ≡ Err reply.Memory) → OnOk put (P x) → IfOk made P
text_made P (Ok u) made x is h = subst (λ m. IfOk m P) (sym is) h
text_made P (Err e) made x is h = subst (λ m. IfOk m P) (sym is) tt

pub text_unmade : {U V E : Type 0} (put : Result U E) (made : Result V Reply) (x : V) → MatchResult put (λ _. made ≡ Ok x) (λ _. made ≡ Err reply.Memory) → IfErr made (λ r. r ≡ reply.Memory)
text_unmade (Ok u) made x is = subst (λ m. IfErr m (λ r. r ≡ reply.Memory)) (sym is) tt
text_unmade (Err e) made x is = subst (λ m. IfErr m (λ r. r ≡ reply.Memory)) (sym is) refl

-- what holds of an error in each state
pub err_each : {V A : Type 0} (Stands : A → Type 0) (P : A → Reply → Type 0) (made : Result V Reply) → ((a : A) → Stands a → IfErr made (P a)) → IfErr made (λ r. (a : A) → Stands a → P a r)
err_each Stands P (Ok v) h = tt
err_each Stands P (Err r) h = h

-- ---- two results that differ

abbrev no_fault : {X : Type 0} → Result X Fault → Fault → Type 0
no_fault (Ok x) e = ⊥
no_fault (Err d) e = d ≡ e

same_fault : {X : Type 0} (read : Result X Fault) (e : Fault) → read ≡ Err e → no_fault read e
same_fault {X} read e is = subst (λ (x : Result X Fault). no_fault x e) (sym is) refl

same_refusal : {X : Type 0} (r q : Refusal) → r ≡ q → ◌≡◌ {A = Result X Fault} (Err (Refused r)) (Err (Refused q))
same_refusal {X} r q is = subst (λ (w : Refusal). ◌≡◌ {A = Result X Fault} (Err (Refused r)) (Err (Refused w))) is refl

-- ---- a read that is never refused

pub failure_told : {X good : Type 0} (read : Result X Fault) → ((r : Refusal) → read ≢ Err (Refused r)) → read ≢ Err NotADesk → (good → IfErr read IsNoDevice) → read ≢ Err Output
    → IfErr (or_reply read) (IsFailure (good → ⊥))
failure_told (Ok x) never knows cause quiet = tt
failure_told (Err (Refused r)) never knows cause quiet = absurd (never r refl)
failure_told (Err Memory) never knows cause quiet = inl refl
failure_told (Err Device) never knows cause quiet = inr (refl, λ good. cause good refl)
failure_told (Err NotADesk) never knows cause quiet = absurd (knows refl)
failure_told (Err Output) never knows cause quiet = absurd (quiet refl)

pub store_failure_told : {X : Type 0} (read : Result X Fault) → ((r : Refusal) → read ≢ Err (Refused r)) → IfErr (or_reply read) IsStoreFailure
store_failure_told (Ok x) never = tt
store_failure_told (Err (Refused r)) never = absurd (never r refl)
store_failure_told (Err Memory) never = inl (inl refl)
store_failure_told (Err Device) never = inl (inr (refl, tt))
store_failure_told (Err NotADesk) never = inr refl
store_failure_told (Err Output) never = inl (inr (refl, tt))

-- ---- a sentence, and one of its revisions

pub sentence_told : {X good : Type 0} (s : Machine) (n : ℕ) (read : Result X Fault) → ((r : Refusal) → read ≡ Err (Refused r) → r ≡ NoSuchSentence) → ((read ≡ Err (Refused NoSuchSentence)) ↔ HasNoSentence s n)
    → read ≢ Err NotADesk → (good → IfErr read IsNoDevice) → read ≢ Err Output → IfErr (or_reply read) (IsReportedOf (good → ⊥) s (question.Sentence n))
sentence_told s n (Ok x) alone refused knows cause quiet = tt
sentence_told {X} s n (Err (Refused r)) alone refused knows cause quiet =
    let is = alone r refl in
    inl (r, refl, (is, refused.0 (same_refusal {X = X} r NoSuchSentence is)))
sentence_told s n (Err Memory) alone refused knows cause quiet = inr (inl refl, λ none. let is : Memory ≡ Refused NoSuchSentence = same_fault (Err Memory) (Refused NoSuchSentence) (refused.1 none) in absurd cc)
sentence_told s n (Err Device) alone refused knows cause quiet = inr (inr (refl, λ good. cause good refl), λ none. let is : Device ≡ Refused NoSuchSentence = same_fault (Err Device) (Refused NoSuchSentence) (refused.1 none) in absurd cc)
sentence_told s n (Err NotADesk) alone refused knows cause quiet = absurd (knows refl)
sentence_told s n (Err Output) alone refused knows cause quiet = absurd (quiet refl)

-- a text that is made of a sentence wants memory only where there is one
pub sentence_there : {X : Type 0} (s : Machine) (n : ℕ) (read : Result X Fault) (x : X) → read ≡ Ok x → ((read ≡ Err (Refused NoSuchSentence)) ↔ HasNoSentence s n) → HasNoSentence s n → ⊥
sentence_there {X} s n read x is refused none = subst (λ (y : Result X Fault). no_fault y (Refused NoSuchSentence)) is (same_fault read (Refused NoSuchSentence) (refused.1 none))

pub revision_told : {X good : Type 0} (s : Machine) (n k : ℕ) (read : Result X Fault) → IfErr read (RefusesRevision s n k) → (HasNoSentence s n → read ≡ Err (Refused NoSuchSentence))
    → read ≢ Err NotADesk → (good → IfErr read IsNoDevice) → read ≢ Err Output → IfErr (or_reply read) (IsReportedOf (good → ⊥) s (question.Revision n k))
revision_told s n k (Ok x) refuses missing knows cause quiet = tt
revision_told s n k (Err (Refused r)) refuses missing knows cause quiet = inl (r, refl, refuses)
revision_told s n k (Err Memory) refuses missing knows cause quiet = inr (inl refl, λ none. let is : Memory ≡ Refused NoSuchSentence = same_fault (Err Memory) (Refused NoSuchSentence) (missing none) in absurd cc)
revision_told s n k (Err Device) refuses missing knows cause quiet = inr (inr (refl, λ good. cause good refl), λ none. let is : Device ≡ Refused NoSuchSentence = same_fault (Err Device) (Refused NoSuchSentence) (missing none) in absurd cc)
revision_told s n k (Err NotADesk) refuses missing knows cause quiet = absurd (knows refl)
revision_told s n k (Err Output) refuses missing knows cause quiet = absurd (quiet refl)

-- ---- a sentence by its `sent_id`

pub id_told : {X good : Type 0} (s : Machine) (id : List ℕ) (read : Result X Fault) → IfErr read (RefusesId s id) → read ≢ Err NotADesk → (good → IfErr read IsNoDevice) → read ≢ Err Output
    → IfErr (or_reply read) (IsReportedAs (good → ⊥) (λ r. RefusesId s id (Refused r)))
id_told s id (Ok x) refuses knows cause quiet = tt
id_told s id (Err (Refused r)) refuses knows cause quiet = inl (r, refl, refuses)
id_told s id (Err Memory) refuses knows cause quiet = inr (inl refl)
id_told s id (Err Device) refuses knows cause quiet = inr (inr (refl, λ good. cause good refl))
id_told s id (Err NotADesk) refuses knows cause quiet = absurd (knows refl)
id_told s id (Err Output) refuses knows cause quiet = absurd (quiet refl)

pub found_viewed : {cause : Type 0} (s : Machine) (id : List ℕ) (r : Reply) → IsReportedAs cause (λ why. RefusesId s id (Refused why)) r → IsViewReported cause s (find id) r
found_viewed s id r (inl refused) = inl refused
found_viewed s id r (inr failed) = inr (failed, λ none. none)

-- ---- the sentences of a batch, and its export

pub batch_told : {X good : Type 0} (s : Machine) (name : List ℕ) (read : Result X Fault) → IfErr read (RefusesBatch s name) → (is_name name ≡ false → read ≡ Err (Refused BadName))
    → read ≢ Err NotADesk → (good → IfErr read IsNoDevice) → read ≢ Err Output → IfErr (or_reply read) (IsReportedOfExport (good → ⊥) s (Some name))
batch_told s name (Ok x) refuses bad knows cause quiet = tt
batch_told s name (Err (Refused r)) refuses bad knows cause quiet = inl (r, refl, refuses)
batch_told s name (Err Memory) refuses bad knows cause quiet = inr (inl refl, λ wrong. let is : Memory ≡ Refused BadName = same_fault (Err Memory) (Refused BadName) (bad wrong) in absurd cc)
batch_told s name (Err Device) refuses bad knows cause quiet = inr (inr (refl, λ good. cause good refl), λ wrong. let is : Device ≡ Refused BadName = same_fault (Err Device) (Refused BadName) (bad wrong) in absurd cc)
batch_told s name (Err NotADesk) refuses bad knows cause quiet = absurd (knows refl)
batch_told s name (Err Output) refuses bad knows cause quiet = absurd (quiet refl)

-- a text that is made of the sentences of a batch wants memory only where its name is one
pub batch_there : {X : Type 0} (name : List ℕ) (read : Result X Fault) (x : X) → read ≡ Ok x → (is_name name ≡ false → read ≡ Err (Refused BadName)) → is_name name ≡ false → ⊥
batch_there {X} name read x is bad wrong = subst (λ (y : Result X Fault). no_fault y (Refused BadName)) is (same_fault read (Refused BadName) (bad wrong))

-- an export into memory that ended so, and the body that was made of its text
abbrev pub IsExportBody : {U : Type 0} → Result U Fault → Result Body Reply → List ℕ → Type 0
IsExportBody ended made text =
    MatchResult ended (λ _. MatchResult made (λ b. (b.text.items ≡ text) × (b.rev ≡ None)) (λ _. ⊥)) (λ e. made ≡ Err (reply_for_export e))

pub export_made : {U : Type 0} (Q : List ℕ → Type 0) (ended : Result U Fault) (made : Result Body Reply) (text : List ℕ) → IsExportBody ended made text → OnOk ended (Q text) → IfOk made (λ b. Q b.text.items)
export_made Q (Ok u) (Ok b) text is h = subst Q (sym is.0) h
export_made Q (Ok u) (Err r) text is h = tt
export_made Q (Err e) made text is h = subst (λ m. IfOk m (λ b. Q b.text.items)) (sym is) tt

pub export_plain : {U : Type 0} (ended : Result U Fault) (made : Result Body Reply) (text : List ℕ) → IsExportBody ended made text → IfOk made (λ b. b.rev ≡ None)
export_plain (Ok u) (Ok b) text is = is.1
export_plain (Ok u) (Err r) text is = tt
export_plain (Err e) made text is = subst (λ m. IfOk m (λ b. b.rev ≡ None)) (sym is) tt

export_failed : {U good : Type 0} (s : Machine) (name : Option (List ℕ)) (e : Fault) → ((r : Refusal) → ◌≡◌ {A = Result U Fault} (Err e) (Err (Refused r)) → RefusesExport s name r)
    → (IsNamedBadly name → ◌≡◌ {A = Result U Fault} (Err e) (Err (Refused BadName))) → (◌≡◌ {A = Result U Fault} (Err e) (Err NotADesk) → ⊥) → (good → IsNoDevice e) → IsReportedOfExport (good → ⊥) s name (reply_for_export e)
export_failed s name (Refused r) refuses bad knows cause = inl (r, refl, refuses r refl)
export_failed s name Memory refuses bad knows cause = inr (inl refl, λ wrong. let is : Memory ≡ Refused BadName = same_fault (Err Memory) (Refused BadName) (bad wrong) in absurd cc)
export_failed s name Device refuses bad knows cause = inr (inr (refl, λ good. cause good refl), λ wrong. let is : Device ≡ Refused BadName = same_fault (Err Device) (Refused BadName) (bad wrong) in absurd cc)
export_failed s name NotADesk refuses bad knows cause = absurd (knows refl)
export_failed s name Output refuses bad knows cause = inr (inl refl, λ wrong. let is : Output ≡ Refused BadName = same_fault (Err Output) (Refused BadName) (bad wrong) in absurd cc)

pub export_told : {U good : Type 0} (s : Machine) (name : Option (List ℕ)) (ended : Result U Fault) (made : Result Body Reply) (text : List ℕ) → IsExportBody ended made text
    → ((r : Refusal) → ended ≡ Err (Refused r) → RefusesExport s name r) → (IsNamedBadly name → ended ≡ Err (Refused BadName)) → ended ≢ Err NotADesk → (good → IfErr ended IsNoDevice)
    → IfErr made (IsReportedOfExport (good → ⊥) s name)
export_told s name (Ok u) (Ok b) text is refuses bad knows cause = tt
export_told s name (Ok u) (Err r) text is refuses bad knows cause = absurd is
export_told {good = good} s name (Err e) made text is refuses bad knows cause = subst (λ m. IfErr m (IsReportedOfExport (good → ⊥) s name)) (sym is) (export_failed s name e refuses bad knows cause)

-- ---- a body, or the reply in its place

pub body_ok : {X : Type 0} {StandsFor : X → Body → Type 0} {P : X → Type 0} {Q : Body → Type 0} (read : Result X Reply) (made : Result Body Reply)
    → MatchResult read (λ x. MatchResult made (StandsFor x) (λ _. ⊥)) (λ r. made ≡ Err r) → IfOk read P → ((x : X) (b : Body) → P x → StandsFor x b → Q b) → IfOk made Q
body_ok (Ok x) (Ok b) is h f = f x b h is
body_ok (Ok x) (Err r) is h f = tt
body_ok {Q = Q} (Err r) made is h f = subst (λ m. IfOk m Q) (sym is) tt

module _ {X : Type 0} (StandsFor : X → Body → Type 0) where
  pub body_err : (Q : Reply → Type 0) (read : Result X Reply) (made : Result Body Reply) → MatchResult read (λ x. MatchResult made (StandsFor x) (λ _. ⊥)) (λ r. made ≡ Err r) → IfErr read Q → IfErr made Q
  body_err Q (Ok x) (Ok b) is h = tt
  body_err Q (Ok x) (Err r) is h = absurd is
  body_err Q (Err r) made is h = subst (λ m. IfErr m Q) (sym is) h

  pub body_refused : (read : Result X Reply) (made : Result Body Reply) (r : Reply) → MatchResult read (λ x. MatchResult made (StandsFor x) (λ _. ⊥)) (λ q. made ≡ Err q) → read ≡ Err r → made ≡ Err r
  body_refused read made r is refused =
      subst (λ (a : Result X Reply). MatchResult a (λ x. MatchResult made (StandsFor x) (λ _. ⊥)) (λ q. made ≡ Err q)) refused is
