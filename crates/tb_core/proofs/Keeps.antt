-- Each accepted command keeps what every reached state keeps.
use Rattle.std.proofs.Common.{◌≡◌, inl, inr, ℕ, ◌+◌, ◌≤◌, List, [], ◌∷◌, ◌++◌, length, refl, sym, ◌∙◌, ap, subst, arith, Bool, true, false, length-append}
use Rattle.std.specs.List.{AllByRecursion}
use Rattle.tb_conllu.specs.Text.{BlockText}
use Rattle.tb_core.specs.declared.kinds.Event.{Event}
use Rattle.tb_core.specs.declared.kinds.Event.TheVariants.{Assign, Unassign, Submit, SendBack, Adjudicate, Release, Withdraw, Reopen}
use Rattle.tb_core.specs.Names.{is_name, Lacks, AreApart}
use Rattle.tb_core.specs.Machine.{sent_id_of, text_value_of, IsLawful, Batch, Revision, Sentence, Machine, empty_machine, revisions, bodies_of}
use Rattle.tb_core.specs.Acts.{Act, importing, stepping, correcting, pulling, restoring, IsAllowed, after, names_of, ids_of, ids_in, new_batch, new_sentences, moved, corrected, flagged}
use Rattle.tb_core.specs.Reaching.{Reached, begun, further}
use Rattle.tb_core.specs.Keeping.{IsPlaced, IsIdle, IsFine, IsWell}
use Rattle.tb_core.proofs.Weights.{all_append, all_mapped, all_changed, all_changed_at, length-changed, map_changed}
use Rattle.tb_core.proofs.Lists.{snoc_cases, snoc_last, map-joined}
use Rattle.tb_core.proofs.Named.{lawful_all, valid_apart}

pub apart_append : (xs ys : List (List ℕ)) → AreApart xs → AreApart ys → AllByRecursion (Lacks xs) ys → AreApart (xs ++ ys)
apart_append [] ys a b h = b
apart_append (x ∷ xs) ys a b h = (
  all_append (λ y. x ≡ y → ⊥) xs ys a.0 (all_mapped (Lacks (x ∷ xs)) (λ y. x ≡ y → ⊥) (λ y k e. k.0 (sym e)) ys h),
  apart_append xs ys a.1 b (all_mapped (Lacks (x ∷ xs)) (Lacks xs) (λ y k. k.1) ys h),
)

new_ids : (n : ℕ) (user : List ℕ) (bodies : List BlockText) → ids_of (new_sentences n user bodies) ≡ ids_in bodies
new_ids n user [] = refl
new_ids n user (b ∷ bs) = ap (λ l. sent_id_of b ∷ l) (new_ids n user bs)

new_placed : (n k : ℕ) (user : List ℕ) (bodies : List BlockText) → 1 ≤ n → n ≤ k → AllByRecursion (IsPlaced k) (new_sentences n user bodies)
new_placed n k user [] l h = tt
new_placed n k user (b ∷ bs) l h = ((l, h), new_placed n k user bs l h)

moved_idle : (e : Event) (user : List ℕ) (b : Batch) → IsIdle (moved e user b)
moved_idle Assign user b = record { opened = λ h. absurd (cc); withdrawn = λ h. absurd (cc) }
moved_idle Unassign user b = record { opened = λ h. refl; withdrawn = λ h. refl }
moved_idle Submit user b = record { opened = λ h. absurd (cc); withdrawn = λ h. absurd (cc) }
moved_idle SendBack user b = record { opened = λ h. absurd (cc); withdrawn = λ h. absurd (cc) }
moved_idle Adjudicate user b = record { opened = λ h. absurd (cc); withdrawn = λ h. absurd (cc) }
moved_idle Release user b = record { opened = λ h. absurd (cc); withdrawn = λ h. absurd (cc) }
moved_idle Withdraw user b = record { opened = λ h. refl; withdrawn = λ h. refl }
moved_idle Reopen user b = record { opened = λ h. refl; withdrawn = λ h. refl }

-- ---- the revisions of a sentence

fine_corrected : (user : List ℕ) (body : BlockText) (x : Sentence) → IsLawful body → sent_id_of body ≡ x.sent_id → text_value_of body ≡ text_value_of x.current.body → (body ≡ x.current.body → ⊥) → IsFine x
    → IsFine (corrected user body x)
fine_corrected user body x lawful id text new h =
    let z : Revision = record { who = user; body = body } in
    let parts = map-joined (λ (r : Revision). r.body) (revisions x) (z ∷ []) in
    let spelled = all_mapped (λ (b : BlockText). text_value_of b ≡ text_value_of x.current.body) (λ (b : BlockText). text_value_of b ≡ text_value_of body) (λ b e. e ∙ sym text) (bodies_of x) h.spelled in
    record {
      lawful = subst (AllByRecursion IsLawful) (sym parts) (all_append IsLawful (bodies_of x) (body ∷ []) h.lawful (lawful, tt));
      titled = subst (AllByRecursion (λ (b : BlockText). sent_id_of b ≡ x.sent_id)) (sym parts) (all_append (λ (b : BlockText). sent_id_of b ≡ x.sent_id) (bodies_of x) (body ∷ []) h.titled (id, tt));
      spelled = subst (AllByRecursion (λ (b : BlockText). text_value_of b ≡ text_value_of body)) (sym parts) (all_append (λ (b : BlockText). text_value_of b ≡ text_value_of body) (bodies_of x) (body ∷ []) spelled (refl, tt));
      new = λ before r q more e. elim (snoc_cases (revisions x) z before r q more e) [
        | inl w ↦ h.new before r q w.0 w.1
        | inr w ↦
            let last : x.current ≡ r = snoc_last x.before x.current before r w.1 in
            λ y. new (sym (ap (λ (v : Revision). v.body) w.0) ∙ (y ∙ sym (ap (λ (v : Revision). v.body) last)))
      ];
    }

fine_flagged : (p : Bool) (x : Sentence) → IsFine x → IsFine (flagged p x)
fine_flagged p x h = record { lawful = h.lawful; titled = h.titled; spelled = h.spelled; new = h.new }

fine_new : (n : ℕ) (user : List ℕ) (bodies : List BlockText) → AllByRecursion IsLawful bodies → AllByRecursion IsFine (new_sentences n user bodies)
fine_new n user [] h = tt
fine_new n user (b ∷ bs) h = (
  record {
    lawful = (h.0, tt);
    titled = (refl, tt);
    spelled = (refl, tt);
    new = λ before r q more e. let c = ap length e in let d = length-append before (r ∷ q ∷ more) in absurd (omega (arith, c, d));
  },
  fine_new n user bs h.1,
)

-- ---- the state

abbrev IsNamedBatch : Batch → Type 0
IsNamedBatch b = is_name b.name ≡ true

pub well_empty : IsWell empty_machine
well_empty = record { placed = tt; named = tt; names = tt; ids = tt; idle = tt; fine = tt }

pub well_after : (s : Machine) (a : Act) → IsWell s → IsAllowed s a → IsWell (after s a)
well_after s (importing name user bodies) h k =
    let b = new_batch name in
    let n = length s.batches in
    let count : length (s.batches ++ b ∷ []) ≡ n + 1 = length-append s.batches (b ∷ []) in
    let old = all_mapped (IsPlaced n) (IsPlaced (length (s.batches ++ b ∷ []))) (λ x p. (p.0, omega (arith, p.1, count))) s.sentences h.placed in
    let new = new_placed (n + 1) (length (s.batches ++ b ∷ [])) user bodies (omega arith) (omega (arith, count)) in
    record {
      placed = all_append (IsPlaced (length (s.batches ++ b ∷ []))) s.sentences (new_sentences (n + 1) user bodies) old new;
      named = all_append IsNamedBatch s.batches (b ∷ []) h.named (k.named, tt);
      names = subst AreApart (sym (map-joined (λ (c : Batch). c.name) s.batches (b ∷ []))) (apart_append (names_of s.batches) (name ∷ []) h.names (tt, tt) (k.new, tt));
      ids = subst AreApart (sym (map-joined (λ (x : Sentence). x.sent_id) s.sentences (new_sentences (n + 1) user bodies)))
          (subst (λ l. AreApart (ids_of s.sentences ++ l)) (sym (new_ids (n + 1) user bodies)) (apart_append (ids_of s.sentences) (ids_in bodies) h.ids (valid_apart bodies k.valid) k.free));
      idle = all_append IsIdle s.batches (b ∷ []) h.idle (record { opened = λ e. refl; withdrawn = λ e. refl }, tt);
      fine = all_append IsFine s.sentences (new_sentences (n + 1) user bodies) h.fine (fine_new (n + 1) user bodies (lawful_all bodies k.shaped k.valid.rules));
    }
well_after s (stepping place event user) h k = record {
  placed = subst (λ n. AllByRecursion (IsPlaced n) s.sentences) (sym (length-changed (moved event user) s.batches place)) h.placed;
  named = all_changed IsNamedBatch (moved event user) (λ x p. p) s.batches place h.named;
  names = subst AreApart (sym (map_changed (λ (c : Batch). c.name) (moved event user) (λ x. refl) s.batches place)) h.names;
  ids = h.ids;
  idle = all_changed IsIdle (moved event user) (λ x p. moved_idle event user x) s.batches place h.idle;
  fine = h.fine;
}
well_after s (correcting place user body) h k = record {
  placed = all_changed (IsPlaced (length s.batches)) (corrected user body) (λ x p. p) s.sentences place h.placed;
  named = h.named;
  names = h.names;
  ids = subst AreApart (sym (map_changed (λ (x : Sentence). x.sent_id) (corrected user body) (λ x. refl) s.sentences place)) h.ids;
  idle = h.idle;
  fine = all_changed_at IsFine (corrected user body) s.sentences place k.sentence k.there (fine_corrected user body k.sentence k.lawful k.same_id k.same_text k.new) h.fine;
}
well_after s (pulling place user) h k = record {
  placed = all_changed (IsPlaced (length s.batches)) (flagged true) (λ x p. p) s.sentences place h.placed;
  named = h.named;
  names = h.names;
  ids = subst AreApart (sym (map_changed (λ (x : Sentence). x.sent_id) (flagged true) (λ x. refl) s.sentences place)) h.ids;
  idle = h.idle;
  fine = all_changed IsFine (flagged true) (fine_flagged true) s.sentences place h.fine;
}
well_after s (restoring place user) h k = record {
  placed = all_changed (IsPlaced (length s.batches)) (flagged false) (λ x p. p) s.sentences place h.placed;
  named = h.named;
  names = h.names;
  ids = subst AreApart (sym (map_changed (λ (x : Sentence). x.sent_id) (flagged false) (λ x. refl) s.sentences place)) h.ids;
  idle = h.idle;
  fine = all_changed IsFine (flagged false) (fine_flagged false) s.sentences place h.fine;
}

pub well : (s : Machine) → Reached s → IsWell s
well s begun = well_empty
well s (further t a r k) = well_after t a (well t r) k
