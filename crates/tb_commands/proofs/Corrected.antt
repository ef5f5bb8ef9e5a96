-- What a correction reads, plans and writes.
use Rattle.std.proofs.Common.{◌≡◌, Result, Ok, Err, IfErr, ℕ, ◌+◌, ◌-◌, ◌<◌, List, [], ◌∷◌, ◌++◌, length, map, get_or, None, Some, slice_get, sym, ap, subst, ◌∙◌, arith}
use Rattle.std.specs.List.{AllByRecursion}
use Rattle.tb_conllu.specs.Text.{BlockText, text_of}
use Rattle.tb_conllu.specs.Words.{words_of}
use Rattle.tb_conllu.specs.Reported.{IsFile}
use Rattle.tb_core.specs.declared.kinds.Kind.TheVariants.{Correct}
use Rattle.tb_core.specs.declared.refusals.Fault.{Fault}
use Rattle.tb_core.specs.declared.refusals.Fault.TheVariants.{Refused, Memory, Device, NotADesk, Output}
use Rattle.tb_core.specs.declared.refusals.Refusal.{Refusal}
use Rattle.tb_core.specs.Taking.{IsTakingFault}
use Rattle.tb_core.specs.declared.limits.Limits.{Limits}
use Rattle.tb_core.specs.Machine as machine
use Rattle.tb_core.specs.Machine.{Machine, bodies_of, one, words, change_at, rev}
use Rattle.tb_core.specs.Acts.{Act, correcting, corrected, after, state_at, batch_at}
use Rattle.tb_core.specs.Acts.{move_of as move_made}
use Rattle.tb_core.specs.Commands.{replied, correct, corrected_to, HasSentence, Ending, ending, Means, reply_to}
use Rattle.tb_core.specs.Tests.{RepeatsCorrection}
use Rattle.tb_core.specs.Steps.{Steps}
use Rattle.tb_core.proofs.Chains.{Replied, replied_repeat, replied_new, correct_replied}
use Rattle.tb_core.proofs.Weights.{weight_there, weight_changed, changed_there, all_there}
use Rattle.tb_commands.specs.declared.correcting.CurrentRead.{CurrentRead}
use Rattle.tb_commands.specs.Correcting.{IsMadeRevision, IsCurrentRead, current_seen, correction_move}
use Rattle.tb_core.specs.Found.{FindsCurrent}
use Rattle.tb_refine.specs.Faults.{IsNoDevice}
use Rattle.tb_refine.proofs.RowsOfState.{ReadsBack}
use Rattle.tb_refine.proofs.Finds.{own_state}

-- ---- the text that stands reads back

last_body : (P : BlockText → Type 0) (rs : List machine.Revision) (r : machine.Revision) → AllByRecursion P (map (λ (q : machine.Revision). q.body) (rs ++ r ∷ [])) → P r.body
last_body P [] r h = h.0
last_body P (q ∷ rs) r h = last_body P rs r h.1

pub stored_alone : (s : Machine) (place : ℕ) (x : machine.Sentence) (text : List ℕ) (bs : List BlockText) → AllByRecursion (λ (y : machine.Sentence). AllByRecursion ReadsBack (bodies_of y)) s.sentences
    → slice_get s.sentences place ≡ Some x → text ≡ text_of (x.current.body ∷ []) → IsFile text bs → bs ≡ x.current.body ∷ []
stored_alone s place x text bs all there is file =
    let back = last_body ReadsBack x.before x.current (all_there (λ (y : machine.Sentence). AllByRecursion ReadsBack (bodies_of y)) s.sentences place x there all) in
    back.2 bs (subst (λ t. IsFile t bs) is file)

pub stored_file : (s : Machine) (place : ℕ) (x : machine.Sentence) (text : List ℕ) → AllByRecursion (λ (y : machine.Sentence). AllByRecursion ReadsBack (bodies_of y)) s.sentences
    → slice_get s.sentences place ≡ Some x → text ≡ text_of (x.current.body ∷ []) → IsFile text (x.current.body ∷ [])
stored_file s place x text all there is =
    let back = last_body ReadsBack x.before x.current (all_there (λ (y : machine.Sentence). AllByRecursion ReadsBack (bodies_of y)) s.sentences place x there all) in
    subst (λ t. IsFile t (x.current.body ∷ [])) (sym is) back.1

pub none_first : {X : Type 0} (x : X) (xs : List X) → None ≡ slice_get xs 0 → xs ≡ x ∷ [] → ⊥
none_first x xs none is =
    let gone : None ≡ Some x = none ∙ ap (λ l. slice_get l 0) is in
    absurd cc

pub first_is : {X : Type 0} (x b : X) (xs : List X) → slice_get xs 0 ≡ Some b → xs ≡ x ∷ [] → b ≡ x
first_is x b xs first is =
    let here : Some b ≡ Some x = sym first ∙ ap (λ l. slice_get l 0) is in
    cc

-- ---- the body of an accepted correction is the text of its sentence

pub body_is_text : (l : Limits) (s : Machine) (n base : ℕ) (user body : List ℕ) (place : ℕ) (x : machine.Sentence) (b : BlockText) → ((e : Ending) → RepeatsCorrection s n base user body e → ⊥) → HasSentence s n place x
    → Steps l s (correct n base user body) (replied (reply_to s (correcting place user b))) (after s (correcting place user b)) → body ≡ text_of (b ∷ [])
body_is_text l s n base user body place x b fresh has steps = by (correct_replied l s n base user body (reply_to s (correcting place user b)) (after s (correcting place user b)) steps).1
  where
    same_body : (place2 : ℕ) (d : BlockText) → place2 ≡ place → (after s (correcting place user b)).sentences ≡ (after s (correcting place2 user d)).sentences → b ≡ d
    same_body place2 d at e =
        let moved : change_at (corrected user d) s.sentences place2 ≡ change_at (corrected user d) s.sentences place = ap (change_at (corrected user d) s.sentences) at in
        let both : corrected user b x ≡ corrected user d x =
        sym (changed_there (corrected user b) s.sentences place x x has.there) ∙ ap (λ l. get_or l place x) (e ∙ moved) ∙ changed_there (corrected user d) s.sentences place x x has.there in
        ap (λ (y : machine.Sentence). y.current.body) both

    taken : (a : Act) → Means s (correct n base user body) a → ending (replied (reply_to s (correcting place user b))) (after s (correcting place user b)) ≡ ending (replied (reply_to s a)) (after s a) → body ≡ text_of (b ∷ [])
    taken a (place2, y, d, found, now, file, is) e =
        let at : place2 ≡ place = omega (arith, found.counted, has.counted) in
        let rows : (after s (correcting place user b)).sentences ≡ (after s (correcting place2 user d)).sentences = ap (λ (z : Ending). z.state.sentences) e ∙ ap (λ c. (after s c).sentences) is in
        file.text ∙ ap (λ c. text_of (c ∷ [])) (sym (same_body place2 d at rows))

    by : Replied s (correct n base user body) (RepeatsCorrection s n base user body) (ending (replied (reply_to s (correcting place user b))) (after s (correcting place user b))) → body ≡ text_of (b ∷ [])
    by (replied_repeat h) = absurd (fresh _ h)
    by (replied_new h) = taken h.0 h.1 h.3

-- ---- the move

pub correction_is : (s : Machine) (place : ℕ) (x : machine.Sentence) (f : CurrentRead) (counted number new : ℕ) (user : List ℕ) (b : BlockText) → counted ≡ length s.moves + 1 → number ≡ place + 1 → slice_get s.sentences place ≡ Some x
    → IsCurrentRead s x f → new ≡ words_of b → correction_move counted number f new user ≡ move_made s (correcting place user b)
correction_is s place x f counted number new user b next at there read sized =
    let in_batch : f.sentence.batch ≡ batch_at s.sentences place = read.sentence.batch ∙ sym (weight_there (λ (y : machine.Sentence). y.batch) s.sentences place x there) in
    let st : f.sentence.state ≡ state_at s place = read.sentence.state ∙ own_state s place x there in
    let single : 1 ≡ (move_made s (correcting place user b)).sentences = sym (weight_changed one (corrected user b) s.sentences place x there) in
    let before : f.sentence.words ≡ (move_made s (correcting place user b)).words_out = read.sentence.words ∙ sym (weight_there words s.sentences place x there) in
    let now : new ≡ (move_made s (correcting place user b)).words_in = sized ∙ sym (weight_changed words (corrected user b) s.sentences place x there) in
    λ j. record { no = next j; kind = Correct; batch = in_batch j; sent = at j; from = Some (st j); to = st j; sentences = single j; words_out = before j; words_in = now j; who = user }

-- the reply to the correction
pub reply_is : (s : Machine) (number : ℕ) (x : machine.Sentence) (user : List ℕ) (b : BlockText) (r words : ℕ) (text : List ℕ) → 0 < number → IsMadeRevision s number b x r words text
    → corrected_to (record { sentence = number; rev = r; words = words }) ≡ reply_to s (correcting (number - 1) user b)
reply_is s number x user b r count text above made =
    let at : number ≡ (number - 1) + 1 = omega (arith, above) in
    let revised = made.next ∙ ap (λ n. n + 1) (sym (weight_there rev s.sentences (number - 1) x made.there)) in
    λ j. corrected_to (record { sentence = at j; rev = revised j; words = made.counted j })

-- ---- what was read, as it is judged

pub numbered : (s : Machine) (n : ℕ) (x : machine.Sentence) → 0 < n → slice_get s.sentences (n - 1) ≡ Some x → HasSentence s n (n - 1) x
numbered s n x above there = record { counted = omega (arith, above); there = there }

pub current_found : (s : Machine) (n : ℕ) (x : machine.Sentence) (f : CurrentRead) → 0 < n → slice_get s.sentences (n - 1) ≡ Some x → IsCurrentRead s x f → FindsCurrent s n (Some (current_seen f))
current_found s n x f above there read = (
  n - 1,
  x,
  numbered s n x above there,
  record {
    state = read.sentence.state;
    worker = read.sentence.worker;
    pulled = read.sentence.pulled;
    rev = read.sentence.rev;
    who = read.who;
    body = read.body;
    words = read.sentence.words;
  },
)

-- ---- a body that is taken is refused, or memory is wanting

clear : (P : Refusal → Type 0) (e : Fault) → IsTakingFault P e → IsNoDevice e
clear P (Refused r) h is = absurd cc
clear P Memory h is = absurd cc
clear P Device h is = h
clear P NotADesk h is = h
clear P Output h is = h

pub taking_clear : {X : Type 0} (P : Refusal → Type 0) (r : Result X Fault) → IfErr r (IsTakingFault P) → IfErr r IsNoDevice
taking_clear P (Ok x) h = tt
taking_clear P (Err e) h = clear P e h
