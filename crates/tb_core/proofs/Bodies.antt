-- A body that is read and checked one sentence after another.
use Rattle.std.proofs.Common.{◌≡◌, ℕ, ◌<◌, ◌≤◌, ◌⊎◌, inl, inr, List, [], ◌∷◌, ◌++◌, length, map, refl, sym, ◌∙◌, ap, subst, arith}
use Rattle.std.specs.Prelude.{Result, Ok, Err, MatchResult, IfOk, IfErr}
use Rattle.std.proofs.lemmas.List.{map-append, length-map}
use Rattle.tb_conllu.specs.Left.{Left, IsNext, IsReadTo}
use Rattle.tb_conllu.proofs.Reading.{sentence_some}
use Rattle.tb_conllu.specs.Text.{BlockText, text_of}
use Rattle.tb_conllu.specs.Shape.{AllShaped}
use Rattle.tb_conllu.specs.Reported.{IsFile, IsNoFile, IsReported}
use Rattle.tb_conllu.specs.Fault.{IsFaultAfter, IsReadFault, MayWantMemory}
use Rattle.tb_conllu.proofs.Shortage.{file_wants, next_wants, rest_wants}
use Rattle.tb_conllu.specs.declared.fault.ReadFault.{ReadFault}
use Rattle.tb_conllu.specs.declared.fault.ReadFault.TheVariants as reading
use Rattle.tb_rules.specs.File.{IsValid, IsFaultAt, IsFileFault}
use Rattle.tb_rules.specs.declared.filefault.FileFault.{FileFault}
use Rattle.tb_rules.specs.declared.filefault.FileFault.TheVariants as rules
use Rattle.tb_core.specs.Taking.{IsBody, IsBodyRefused, unread, broken, empty, IsCorrection, IsUnfit, other_name, other_text, nothing_new, IsCorrectionRefused, as_body, not_one, unfit, IsTakingFault, fault_of_reading, fault_of_rules, NewSentenceText, taken_of}
use Rattle.tb_core.specs.declared.refusals.Refusal.{Refusal}
use Rattle.tb_core.specs.declared.refusals.Refusal.TheVariants.{NotOne}
use Rattle.tb_core.specs.declared.refusals.Fault.{Fault}
use Rattle.tb_core.specs.declared.refusals.Fault.TheVariants.{Refused, Memory, Device, NotADesk, Output}
use Rattle.tb_core.proofs.Lists.{head_is}

-- what the crates below promise
pub record Reading : Type 0 where
  pub next : (f : List ℕ) (bs : List BlockText) (old new : Left) (b : BlockText) → IsReadTo f bs old → IsNext old new b → IsReadTo f (bs ++ b ∷ []) new
  pub end : (f : List ℕ) (bs : List BlockText) (left : Left) → IsReadTo f bs left → left.rest ≡ [] → IsFile f bs
  pub rest : (f : List ℕ) (bs more : List BlockText) (left : Left) → IsReadTo f bs left → IsFile left.rest more → IsFile f (bs ++ more)
  pub fault : (f : List ℕ) (bs : List BlockText) (left : Left) (e : ReadFault) → IsReadTo f bs left → IsFaultAfter left.line left.rest e → IsReadFault f e

abbrev pub FaultStays : Type 0
FaultStays = (bs more : List BlockText) (sentence rule row : ℕ) → IsFaultAt bs sentence rule row → IsFaultAt (bs ++ more) sentence rule row

-- a fault of reading
pub read_refused : (body : List ℕ) (e : ReadFault) → IsReadFault body e → IsTakingFault (IsBodyRefused body) (fault_of_reading e)
read_refused body (reading.At line code) reported = unread (line, code, reported, refl)
read_refused body reading.Memory reported = tt

-- a fault of the rules in a file
pub rules_refused : (body : List ℕ) (bs : List BlockText) (e : FileFault) → IsFile body bs → IsFileFault bs e → IsTakingFault (IsBodyRefused body) (fault_of_rules e)
rules_refused body bs (rules.At sentence rule row) file at = broken (bs, sentence, rule, row, file, at, refl)
rules_refused body bs rules.Memory file at = tt

fault_stays : FaultStays → (bs more : List BlockText) (e : FileFault) → IsFileFault bs e → IsFileFault (bs ++ more) e
fault_stays law bs more (rules.At sentence rule row) at = law bs more sentence rule row at
fault_stays law bs more rules.Memory at = tt

-- a sentence breaks a rule, and what is left was read
pub reported_refused : Reading → FaultStays → (body : List ℕ) (bs : List BlockText) (old new : Left) (b : BlockText) (e : FileFault) (reported : Fault) → IsReadTo body bs old → IsNext old new b
    → IsFileFault (bs ++ b ∷ []) e
    → (((more : List BlockText) × IsFile new.rest more × (reported ≡ fault_of_rules e)) ⊎ ((f : ReadFault) × IsFaultAfter new.line new.rest f × (reported ≡ fault_of_reading f)))
    → IsTakingFault (IsBodyRefused body) reported
reported_refused law stays body bs old new b e reported read next at (inl (more, file, is)) =
    let here = law.next body bs old new b read next in
    subst (IsTakingFault (IsBodyRefused body)) (sym is) (rules_refused body ((bs ++ b ∷ []) ++ more) e (law.rest body (bs ++ b ∷ []) more new here file) (fault_stays stays (bs ++ b ∷ []) more e at))
reported_refused law stays body bs old new b e reported read next at (inr (f, fault, is)) =
    let here = law.next body bs old new b read next in
    subst (IsTakingFault (IsBodyRefused body)) (sym is) (read_refused body f (law.fault body (bs ++ b ∷ []) new f here fault))

-- one more sentence is kept
pub kept_more : (xs ys : List NewSentenceText) (bs : List BlockText) (b : BlockText) (t : NewSentenceText) → xs ≡ map taken_of bs → t ≡ taken_of b → ys ≡ xs ++ t ∷ [] → ys ≡ map taken_of (bs ++ b ∷ [])
kept_more xs ys bs b t before is more = more ∙ ap (λ (x : NewSentenceText). xs ++ x ∷ []) is ∙ ap (λ (l : List NewSentenceText). l ++ taken_of b ∷ []) before ∙ sym (map-append taken_of bs (b ∷ []))

-- ---- a body is answered one way

pub record Laws : Type 0 where
  pub one_list : (f : List ℕ) (bs cs : List BlockText) → IsFile f bs → IsFile f cs → bs ≡ cs
  pub no_file : (f : List ℕ) (line code : ℕ) → IsReported f line code → IsNoFile f
  pub not_valid : (bs : List BlockText) (sentence rule row : ℕ) → IsFaultAt bs sentence rule row → IsValid bs → ⊥

pub not_refused : Laws → (body : List ℕ) (bs : List BlockText) (r : Refusal) → IsBody body bs → IsBodyRefused body r → ⊥
not_refused laws body bs r good (unread (line, code, reported, is)) = laws.no_file body line code reported bs good.file.shaped good.file.text
not_refused laws body bs r good (broken (cs, sentence, rule, row, file, at, is)) =
    laws.not_valid bs sentence rule row (subst (λ l. IsFaultAt l sentence rule row) (laws.one_list body cs bs file good.file) at) good.valid
not_refused laws body bs r good (empty (file, is)) = omega (arith, good.some, ap length (laws.one_list body [] bs file good.file))

-- where a body is good, no other sentences are taken, and it is not refused
pub only_these : {X : Type 0} → Laws → (items : X → List NewSentenceText) (body : List ℕ) (r : Result X Fault) → IfOk r (λ v. (cs : List BlockText) × IsBody body cs × (items v ≡ map taken_of cs))
    → IfErr r (IsTakingFault (IsBodyRefused body)) → (bs : List BlockText) → IsBody body bs → MatchResult r (λ v. items v ≡ map taken_of bs) (λ e. e ≡ Memory)
only_these laws items body (Ok v) (cs, good, same) refused bs h = same ∙ ap (map taken_of) (laws.one_list body cs bs good.file h.file)
only_these laws items body (Err (Refused r)) taken refused bs h = absurd (not_refused laws body bs r h refused)
only_these laws items body (Err Memory) taken refused bs h = refl
only_these laws items body (Err Device) taken refused bs h = absurd refused
only_these laws items body (Err NotADesk) taken refused bs h = absurd refused
only_these laws items body (Err Output) taken refused bs h = absurd refused

-- ---- the one sentence of a correction

pub correction_read_refused : (body : List ℕ) (current : BlockText) (e : ReadFault) → IsReadFault body e → IsTakingFault (IsCorrectionRefused body current) (fault_of_reading e)
correction_read_refused body current (reading.At line code) reported = as_body (unread (line, code, reported, refl))
correction_read_refused body current reading.Memory reported = tt

two_at_least : (body : List ℕ) (bs : List BlockText) → 1 < length bs → IsFile body bs → (a : BlockText) × (b : BlockText) × (more : List BlockText) × IsFile body (a ∷ b ∷ more)
two_at_least body [] many file = absurd (omega (arith, many))
two_at_least body (a ∷ []) many file = absurd (omega (arith, many))
two_at_least body (a ∷ b ∷ more) many file = (a, b, more, file)

-- more than one sentence was kept
pub many_refused : (body : List ℕ) (current : BlockText) (bs : List BlockText) (xs : List NewSentenceText) (reported : Fault) → IsBody body bs → xs ≡ map taken_of bs → 1 < length xs → reported ≡ Refused NotOne
    → IsTakingFault (IsCorrectionRefused body current) reported
many_refused body current bs xs reported good same many is =
    let n = ap length same ∙ length-map bs taken_of in
    let more = two_at_least body bs (omega (arith, n, many)) good.file in
    subst (IsTakingFault (IsCorrectionRefused body current)) (sym is) (not_one bs good (more.0, more.1, more.2, more.3, refl))

abbrev pub BeginsOneWay : Type 0
BeginsOneWay = (bs cs : List BlockText) (rest : List ℕ) → AllShaped bs → AllShaped cs → text_of cs ≡ text_of bs ++ rest → (more : List BlockText) × (cs ≡ bs ++ more) × IsFile rest more

-- one list begins the other, which is no longer
all_of_it : (b : BlockText) (bs more : List BlockText) → bs ≡ (b ∷ []) ++ more → length bs ≤ 1 → bs ≡ b ∷ []
all_of_it b bs [] same few = same
all_of_it b bs (c ∷ more) same few = absurd (omega (arith, ap length same))

-- the sentence that is read first is the one that was checked
pub one_is : BeginsOneWay → (body : List ℕ) (bs : List BlockText) (xs : List NewSentenceText) (old new : Left) (b : BlockText) → IsBody body bs → xs ≡ map taken_of bs
    → old ≡ record { rest = body; line = 0 } → IsNext old new b → length xs ≤ 1 → IsBody body (b ∷ [])
one_is law body bs xs old new b good same begun next few =
    let n = ap length same ∙ length-map bs taken_of in
    let whole : text_of bs ≡ text_of (b ∷ []) ++ new.rest = sym good.file.text ∙ sym (ap (λ (l : Left). l.rest) begun) ∙ next.text in
    let found = law (b ∷ []) bs new.rest (next.shaped, tt) good.file.shaped whole in
    subst (IsBody body) (all_of_it b bs found.0 found.1 (omega (arith, n, few))) good

-- ---- the body of a correction is answered one way

sentence_is : Laws → (body : List ℕ) (b c : BlockText) → IsBody body (b ∷ []) → IsBody body (c ∷ []) → b ≡ c
sentence_is laws body b c one other = head_is b c [] [] (laws.one_list body (b ∷ []) (c ∷ []) one.file other.file)

no_fault_of_it : (body : List ℕ) (current b : BlockText) (r : Refusal) → IsCorrection body current b → IsUnfit b current r → ⊥
no_fault_of_it body current b _ good (other_name differs) = differs good.named
no_fault_of_it body current b _ good (other_text named differs) = differs good.spelled
no_fault_of_it body current b _ good (nothing_new same) = good.new same

correction_not_refused : Laws → (body : List ℕ) (current b : BlockText) (r : Refusal) → IsCorrection body current b → IsCorrectionRefused body current r → ⊥
correction_not_refused laws body current b r good (as_body refused) = not_refused laws body (b ∷ []) r good.taken refused
correction_not_refused laws body current b r good (not_one bs taken (first, second, more, file, is)) =
    omega (arith, ap length (laws.one_list body (first ∷ second ∷ more) (b ∷ []) file good.taken.file))
correction_not_refused laws body current b r good (unfit c taken fault) =
    no_fault_of_it body current b r good (subst (λ x. IsUnfit x current r) (sentence_is laws body c b taken good.taken) fault)

-- where a body is a correction, no other sentence is taken, and it is not refused
pub only_this : {X : Type 0} → Laws → (block : X → BlockText) (body : List ℕ) (current : BlockText) (r : Result X Fault) → IfOk r (λ v. IsCorrection body current (block v))
    → IfErr r (IsTakingFault (IsCorrectionRefused body current)) → (b : BlockText) → IsCorrection body current b → MatchResult r (λ v. block v ≡ b) (λ e. e ≡ Memory)
only_this laws block body current (Ok v) good refused b h = sentence_is laws body (block v) b good.taken h.taken
only_this laws block body current (Err (Refused r)) taken refused b h = absurd (correction_not_refused laws body current b r h refused)
only_this laws block body current (Err Memory) taken refused b h = refl
only_this laws block body current (Err Device) taken refused b h = absurd refused
only_this laws block body current (Err NotADesk) taken refused b h = absurd refused
only_this laws block body current (Err Output) taken refused b h = absurd refused

-- a fault of reading that is handed on is want of memory only where memory is wanted
pub fault_wants : {P : Type 0} → (e : ReadFault) (reported : Fault) → (e ≡ reading.Memory → P) → reported ≡ fault_of_reading e → reported ≡ Memory → P
fault_wants (reading.At line code) reported h is memory = cc
fault_wants reading.Memory reported h is memory = h refl

-- the same, where some sentences were read
pub reading_wants : (body : List ℕ) (bs : List BlockText) (left : Left) (e : ReadFault) (reported : Fault) → IsReadTo body bs left → (e ≡ reading.Memory → MayWantMemory left.rest) → reported ≡ fault_of_reading e
    → reported ≡ Memory → MayWantMemory body
reading_wants body bs left e reported read h is memory = rest_wants body bs left.rest read.shaped read.whole (fault_wants e reported h is memory)

-- reading on may want memory in a body from which a sentence was read
pub some_read : (body : List ℕ) (bs : List BlockText) (old new : Left) (b : BlockText) → IsReadTo body bs old → IsNext old new b → MayWantMemory body
some_read body bs old new b read next = rest_wants body bs old.rest read.shaped read.whole (next_wants old new b next)

-- a body of one sentence
pub one_wants : (body : List ℕ) (b : BlockText) → IsFile body (b ∷ []) → MayWantMemory body
one_wants body b file = file_wants body (b ∷ []) file.shaped file.text (omega (arith, sentence_some b, ap length file.text))
