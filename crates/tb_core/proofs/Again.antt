-- A correction sent again is a repeat while its revision is current, with the reply that it had.
use Rattle.std.proofs.Common.{◌≡◌, ℕ, zero, suc, ◌+◌, List, [], ◌∷◌, ◌++◌, length, get_or, None, Some, refl, sym, ◌∙◌, ap, subst, arith, append-nil, length-append}
use Rattle.std.specs.Prelude.{slice_get}
use Rattle.tb_conllu.specs.Text.{BlockText, text_of}
use Rattle.tb_conllu.specs.Words.{words_of}
use Rattle.tb_core.specs.declared.limits.Limits.{Limits}
use Rattle.tb_core.specs.Names.{is_name}
use Rattle.tb_core.specs.Machine.{Revision, Sentence, Machine, revisions, rev, words, change_at}
use Rattle.tb_core.specs.Acts.{correcting, after, corrected}
use Rattle.tb_core.specs.Reaching.{Later}
use Rattle.tb_core.specs.Keeping.{Continues}
use Rattle.tb_core.specs.Commands.{correct, Reply, corrected_to, replied, ending, HasSentence, reply_to}
use Rattle.tb_core.specs.Tests.{RepeatsCorrection, reported, passed}
use Rattle.tb_core.specs.Steps.{Steps}
use Rattle.tb_core.proofs.Weights.{weight_there, got}
use Rattle.tb_core.proofs.Lists.{get_within, nothing_more, snoc_last}
use Rattle.tb_core.proofs.Extending.{later_extends, continue_at}
use Rattle.tb_core.proofs.Chains.{Replied, replied_repeat, replied_new, reply_of, state_of, correct_replied, not_bad_name}

changed_get : {X : Type 0} (f : X → X) (xs : List X) (i : ℕ) (x : X) → slice_get xs i ≡ Some x → slice_get (change_at f xs i) i ≡ Some (f x)
changed_get f [] i x e = let d : None ≡ Some x = e in absurd (cc)
changed_get f (y ∷ ys) zero x e = let same : y ≡ x = let one : Some y ≡ Some x = e in cc in ap (λ z. Some (f z)) same
changed_get f (y ∷ ys) (suc i) x e = changed_get f ys i x e

-- where no revision came since, the current one is the same
still_current : (x y : Sentence) → Continues x y → rev y ≡ rev x → y.current ≡ x.current
still_current x y h e =
    let sizes = ap length h.revised ∙ length-append (revisions x) h.more in
    let old = length-append x.before (x.current ∷ []) in
    let new = length-append y.before (y.current ∷ []) in
    let none = nothing_more h.more (omega (arith, sizes, old, new, e)) in
    snoc_last y.before y.current x.before x.current (h.revised ∙ (ap (λ l. revisions x ++ l) none ∙ append-nil (revisions x)))

abbrev pub the_reply : ℕ → ℕ → ℕ → Reply
the_reply n k w = corrected_to (record { sentence = n; rev = k; words = w })

reply_is : (n m a b v w : ℕ) → n ≡ m → a ≡ b → v ≡ w → the_reply n a v ≡ the_reply m b w
reply_is n m a b v w p q r = ap (λ z. the_reply z a v) p ∙ (ap (λ z. the_reply m z v) q ∙ ap (λ z. the_reply m b z) r)

pub same_place : (n i j : ℕ) → n ≡ i + 1 → n ≡ j + 1 → i ≡ j
same_place n i j a b = omega (arith, a, b)

-- an accepted correction is a repeat in the state that it leaves
accepted_repeat : (s : Machine) (n base : ℕ) (user body : List ℕ) (place : ℕ) (x : Sentence) (b : BlockText) → HasSentence s n place x → base ≡ rev x → body ≡ text_of (b ∷ [])
    → RepeatsCorrection (after s (correcting place user b)) n base user body (ending (replied (reply_to s (correcting place user b))) (after s (correcting place user b)))
accepted_repeat s n base user body place x b has current text =
    let t = after s (correcting place user b) in
    let z = corrected user b x in
    let there : HasSentence t n place z = record { counted = has.counted; there = changed_get (corrected user b) s.sentences place x has.there } in
    let size = length-append x.before (x.current ∷ []) in
    let number = weight_there rev s.sentences place x has.there in (
      place,
      z,
      there,
      omega (arith, current),
      omega (arith, current, size),
      refl,
      text,
      ap (λ r. ending (replied r) t) (reply_is (place + 1) n _ (base + 1) (words_of b) (words z) (sym has.counted) (omega (arith, number, current)) refl),
    )

-- a repeat stays one while the revision is current
repeat_later : (t u : Machine) (n base : ℕ) (user body : List ℕ) (r : Reply) → RepeatsCorrection t n base user body (ending (replied r) t) → Later t u → (place : ℕ) (y : Sentence) → HasSentence u n place y → rev y ≡ base + 1
    → RepeatsCorrection u n base user body (ending (replied r) u)
repeat_later t u n base user body r h on other y there is =
    let place = h.0 in
    let x = h.1 in
    let i = same_place n other place there.counted h.2.counted in
    let below = get_within t.sentences place x h.2.there in
    let next = continue_at t.sentences u.sentences place x (later_extends t u on).sentences below in
    let was = got t.sentences place x x h.2.there in
    let now_is = got u.sentences place y x (subst (λ j. slice_get u.sentences j ≡ Some y) i there.there) in
    let c = subst (λ z. Continues x z) now_is (subst (λ z. Continues z (get_or u.sentences place x)) was next) in
    let own = still_current x y c (is ∙ sym h.4) in
    let reply = reply_of r (the_reply n (base + 1) (words x)) t t h.7 in (
      other,
      y,
      there,
      h.3,
      is,
      ap (λ (q : Revision). q.who) own ∙ h.5,
      h.6 ∙ ap (λ (q : Revision). text_of (q.body ∷ [])) (sym own),
      ap (λ q. ending (replied q) u) (reply ∙ reply_is n n (base + 1) (base + 1) (words x) (words y) refl refl (ap (λ (q : Revision). words_of q.body) (sym own))),
    )

repeat_after : (s : Machine) (n base : ℕ) (user body : List ℕ) (r : Reply) (t : Machine) → Replied s (correct n base user body) (RepeatsCorrection s n base user body) (ending (replied r) t)
    → RepeatsCorrection t n base user body (ending (replied r) t)
repeat_after s n base user body r t (replied_repeat h) =
    let same = state_of (replied r) (replied (the_reply n (base + 1) (words h.1))) t s h.7 in
    subst (λ v. RepeatsCorrection v n base user body (ending (replied r) v)) (sym same) (subst (λ v. RepeatsCorrection s n base user body (ending (replied r) v)) same h)
repeat_after s n base user body r t (replied_new h) =
    let act = h.1.6 in
    let place = h.1.0 in
    let b = h.1.2 in
    let here = accepted_repeat s n base user body place h.1.1 b h.1.3 h.1.4 h.1.5.text in
    let reply : reply_to s (correcting place user b) ≡ r = ap (reply_to s) (sym act) ∙ sym (reply_of r (reply_to s h.0) t (after s h.0) h.3) in
    let next : after s (correcting place user b) ≡ t = ap (after s) (sym act) ∙ sym (state_of (replied r) (replied (reply_to s h.0)) t (after s h.0) h.3) in
    subst (λ q. RepeatsCorrection t n base user body (ending (replied q) t)) reply
    (subst (λ v. RepeatsCorrection v n base user body (ending (replied (reply_to s (correcting place user b))) v)) next here)

pub correction_repeats : (l k : Limits) (s t u : Machine) (n base : ℕ) (user body : List ℕ) (r : Reply) (place : ℕ) (y : Sentence) → Steps l s (correct n base user body) (replied r) t → Later t u
    → HasSentence u n place y → rev y ≡ base + 1 → Steps k u (correct n base user body) (replied r) u
correction_repeats l k s t u n base user body r place y steps on there is =
    let answered = correct_replied l s n base user body r t steps in
    let again = repeat_later t u n base user body r (repeat_after s n base user body r t answered.1) on place y there is in
    passed (not_bad_name u (is_name user) answered.0) (passed (λ d h. h.1.0 place y there) (reported again))
