-- What the rows of a desk tell of its state.
use Rattle.std.proofs.Common.{◌≡◌, ℕ, suc, ◌+◌, ◌-◌, ◌<◌, List, [], ◌∷◌, ◌++◌, map, length, Some, slice_get, refl, sym, ap, subst, ◌∙◌, arith, inl, inr, Contains}
use Rattle.std.proofs.lemmas.List.Elements.{Contains-append_cases}
use Rattle.std.proofs.lemmas.List.{map-append}
use Rattle.tb_conllu.specs.Text.{BlockText, text_of}
use Rattle.tb_conllu.specs.Reported.{IsFile}
use Rattle.tb_rules.specs.File.{IsValid}
use Rattle.tb_core.specs.Machine as machine
use Rattle.tb_core.specs.Machine.{Machine, revisions, rev}
use Rattle.tb_core.specs.Rows.{revision_rows, revisions_from}
use Rattle.tb_tables.specs.Records.{Revision}
use Rattle.tb_refine.specs.DeskTables.{revision_record}
use Rattle.tb_reads.specs.Found.{IsRevisionAt}
use Rattle.tb_reads.proofs.Order.{contains_cases}
use Rattle.tb_refine.specs.Revisions.{HasRevision}

-- the text of a stored sentence reads back as it, and as nothing else
abbrev pub ReadsBack : BlockText → Type 0
ReadsBack b = IsValid (b ∷ []) × IsFile (text_of (b ∷ [])) (b ∷ []) × ((bs : List BlockText) → IsFile (text_of (b ∷ [])) bs → bs ≡ b ∷ [])

-- the row has the text of the revision, and who gave it
abbrev Tells : Revision → machine.Revision → Type 0
Tells r q = (r.body ≡ text_of (q.body ∷ [])) × (r.who ≡ q.who)

in_rows : (n k : ℕ) (rs : List machine.Revision) (r : Revision) → Contains (map revision_record (revision_rows n k rs)) r
    → (j : ℕ) × (q : machine.Revision) × (r.sent ≡ n) × (r.rev ≡ k + j) × (slice_get rs j ≡ Some q) × Tells r q
in_rows n k [] r h = absurd (omega (arith, h.1))
in_rows n k (q ∷ rs) r h = elim (contains_cases _ _ r h) [
  | inl is ↦ (0, q, sym (ap (λ (x : Revision). x.sent) is), sym (ap (λ (x : Revision). x.rev) is) ∙ (let same : k ≡ k + 0 = omega arith in same), refl, (sym (ap (λ (x : Revision). x.body) is), sym (ap (λ (x : Revision). x.who) is)))
  | inr more ↦ further (in_rows n (k + 1) rs r more)
]
  where
    further : (j : ℕ) × (p : machine.Revision) × (r.sent ≡ n) × (r.rev ≡ (k + 1) + j) × (slice_get rs j ≡ Some p) × Tells r p
        → (j : ℕ) × (p : machine.Revision) × (r.sent ≡ n) × (r.rev ≡ k + j) × (slice_get (q ∷ rs) j ≡ Some p) × Tells r p
    further (j, p, sent, at, there, text) = (suc j, p, sent, (let same : (k + 1) + j ≡ k + suc j = omega arith in at ∙ same), there, text)

-- what a row of the revisions says: the sentence and the revision
pub in_revisions : (n : ℕ) (xs : List machine.Sentence) (r : Revision) → Contains (map revision_record (revisions_from n xs)) r
    → (i : ℕ) × (x : machine.Sentence) × (j : ℕ) × (q : machine.Revision) × (r.sent ≡ n + i) × (slice_get xs i ≡ Some x) × (r.rev ≡ 1 + j) × (slice_get (revisions x) j ≡ Some q) × Tells r q
in_revisions n [] r h = absurd (omega (arith, h.1))
in_revisions n (x ∷ xs) r h = elim (Contains-append_cases (map revision_record (revision_rows n 1 (revisions x))) (map revision_record (revisions_from (n + 1) xs)) r (subst (λ l. Contains l r) (map-append revision_record (revision_rows n 1 (revisions x)) (revisions_from (n + 1) xs)) h)) [
  | inl here ↦ first (in_rows n 1 (revisions x) r here)
  | inr more ↦ further (in_revisions (n + 1) xs r more)
]
  where
    first : (j : ℕ) × (q : machine.Revision) × (r.sent ≡ n) × (r.rev ≡ 1 + j) × (slice_get (revisions x) j ≡ Some q) × Tells r q
        → (i : ℕ) × (y : machine.Sentence) × (j : ℕ) × (q : machine.Revision) × (r.sent ≡ n + i) × (slice_get (x ∷ xs) i ≡ Some y) × (r.rev ≡ 1 + j) × (slice_get (revisions y) j ≡ Some q) × Tells r q
    first (j, q, sent, at, there, text) = (0, x, j, q, (let same : n ≡ n + 0 = omega arith in sent ∙ same), refl, at, there, text)

    further : (i : ℕ) × (y : machine.Sentence) × (j : ℕ) × (q : machine.Revision) × (r.sent ≡ (n + 1) + i) × (slice_get xs i ≡ Some y) × (r.rev ≡ 1 + j) × (slice_get (revisions y) j ≡ Some q) × Tells r q
        → (i : ℕ) × (y : machine.Sentence) × (j : ℕ) × (q : machine.Revision) × (r.sent ≡ n + i) × (slice_get (x ∷ xs) i ≡ Some y) × (r.rev ≡ 1 + j) × (slice_get (revisions y) j ≡ Some q) × Tells r q
    further (i, y, j, q, sent, there, at, given, text) = (suc i, y, j, q, (let same : (n + 1) + i ≡ n + suc i = omega arith in sent ∙ same), there, at, given, text)

-- the revision that a row tells
pub revision_reported : (s : Machine) (x : machine.Sentence) (number k : ℕ) (r : Revision) → 0 < number → slice_get s.sentences (number - 1) ≡ Some x
    → IsRevisionAt number k (map revision_record (revisions_from 1 s.sentences)) (Some r) → (q : machine.Revision) × HasRevision x k q × Tells r q
revision_reported s x number k r above there at = reported (in_revisions 1 s.sentences r at.0)
  where
    reported : (i : ℕ) × (y : machine.Sentence) × (j : ℕ) × (q : machine.Revision) × (r.sent ≡ 1 + i) × (slice_get s.sentences i ≡ Some y) × (r.rev ≡ 1 + j) × (slice_get (revisions y) j ≡ Some q) × Tells r q
        → (q : machine.Revision) × HasRevision x k q × Tells r q
    reported (i, y, j, q, sent, found, counted, given, text) =
        let place : i ≡ number - 1 = omega (arith, sent, at.1, above) in
        let both : Some y ≡ Some x = sym found ∙ ap (slice_get s.sentences) place ∙ there in
        let same : y ≡ x = cc in
        let turn : j ≡ k - 1 = omega (arith, counted, at.2) in (
          q,
          record { counted = omega (arith, counted, at.2); there = subst (λ m. slice_get (revisions x) m ≡ Some q) turn (subst (λ z. slice_get (revisions z) j ≡ Some q) same given) },
          text,
        )

last_got : {R : Type 0} (rs : List R) (r q : R) → slice_get (rs ++ r ∷ []) (length rs) ≡ Some q → q ≡ r
last_got [] r q e = let same : Some r ≡ Some q = e in cc
last_got (p ∷ rs) r q e = last_got rs r q e

pub current_is : (x : machine.Sentence) (n : ℕ) (q : machine.Revision) → n ≡ rev x → HasRevision x n q → q ≡ x.current
current_is x n q is has =
    let at : n - 1 ≡ length x.before = omega (arith, is) in
    last_got x.before x.current q (subst (λ m. slice_get (revisions x) m ≡ Some q) at has.there)
