-- What a desk that stands for a state knows, and what a read leaves of it.
use Rattle.std.proofs.Common.{◌≡◌, ℕ, List, Bool, ◌<◌, ◌≤◌, ◌⊎◌, length, refl, sym, subst, arith, inl, inr, Result, Ok, Err, IfErr}
use Rattle.std.proofs.lemmas.Option.{slice_get_within}
use Rattle.sqlite.specs.Store.{Ghosts}
use Rattle.sqlite.specs.Held.{Held}
use Rattle.tb_core.specs.declared.refusals.Refusal.{Refusal}
use Rattle.tb_core.specs.declared.refusals.Refusal.TheVariants.{NoSuchRevision, NoSuchSentence}
use Rattle.tb_core.specs.declared.refusals.Fault.{Fault}
use Rattle.tb_core.specs.declared.refusals.Fault.TheVariants.{Refused, Memory, Device, NotADesk, Output}
use Rattle.tb_core.specs.Names.{Lacks}
use Rattle.tb_core.specs.Machine.{Machine, Sentence}
use Rattle.tb_core.specs.Acts.{ids_of}
use Rattle.tb_core.specs.declared.limits.Limits.{Limits}
use Rattle.tb_core.specs.Commands.{HasSentence, Command, Answer}
use Rattle.tb_core.specs.Steps.{Steps}
use Rattle.tb_refine.specs.DeskTables.{IsDeskOf}
use Rattle.tb_import.specs.declared.counters.ImportCounters.{ImportCounters}
use Rattle.tb_import.specs.Planned.{IsKnown}
use Rattle.tb_store.specs.Kept.{Kept, known_of}
use Rattle.tb_store.specs.Represents.{Represents}
use Rattle.tb_store.specs.Answers.{HasNoRevision, RefusesId, RefusesRevision}

-- a number that a sentence has is neither 0 nor above all numbers
pub is_within : (n number many : ℕ) → n ≡ number → 0 < n → n ≤ many → (number ≡ 0) ⊎ (many < number) → ⊥
is_within n number many same above below lacks = elim lacks [ inl zero ↦ omega (arith, same, above, zero) | inr over ↦ omega (arith, same, below, over) ]

module _ {S : Type 0} (g : Ghosts S) where
  pub still_stands : (d : Kept S) (conn : Held S) (s : Machine) → IsDeskOf g conn s → Represents g d s → Represents g (record d { conn = conn }) s
  still_stands d conn s desk stands = record { desk = desk; batches = stands.batches; sentences = stands.sentences; moves = stands.moves; totals = stands.totals }

  -- and in doubt or not, it is the same desk
  pub stands_in_doubt : (d : Kept S) (conn : Held S) (doubt : Bool) (s : Machine) → IsDeskOf g conn s → Represents g d s
      → Represents g (record d { conn = conn; in_doubt = doubt }) s
  stands_in_doubt d conn doubt s desk stands = record { desk = desk; batches = stands.batches; sentences = stands.sentences; moves = stands.moves; totals = stands.totals }

pub sentence_within : (s : Machine) (number place : ℕ) (x : Sentence) → HasSentence s number place x → (0 < number) × (number ≤ length s.sentences)
sentence_within s number place x has =
    let low = slice_get_within s.sentences place x has.there in
    (omega (arith, has.counted), omega (arith, has.counted, low))

pub err_is : {T E : Type 0} {Q : E → Type 0} (r : Result T E) → ((e : E) → r ≡ Err e → Q e) → IfErr r Q
err_is (Ok x) h = tt
err_is (Err e) h = h e refl

pub refuses_revision : (s : Machine) (n k : ℕ) (e : Fault) → ((r : Refusal) → e ≡ Refused r → (r ≡ NoSuchRevision) × HasNoRevision s n k) → RefusesRevision s n k e
refuses_revision s n k (Refused r) h = inr (h r refl)
refuses_revision s n k Memory h = tt
refuses_revision s n k Device h = tt
refuses_revision s n k NotADesk h = tt
refuses_revision s n k Output h = tt

-- what is no refusal may come
pub refuses_id : (s : Machine) (id : List ℕ) (e : Fault) → ((r : Refusal) → e ≡ Refused r → ⊥) → RefusesId s id e
refuses_id s id (Refused r) none = absurd (none r refl)
refuses_id s id Memory none = tt
refuses_id s id Device none = tt
refuses_id s id NotADesk none = tt
refuses_id s id Output none = tt

pub lacks_id : (s : Machine) (id : List ℕ) (e : Fault) → e ≡ Refused NoSuchSentence → Lacks (ids_of s.sentences) id → RefusesId s id e
lacks_id s id e is lacks = subst (RefusesId s id) (sym is) (refl, lacks)

-- the same limits, and the same number
pub same_numbered : (command : ℕ → Command) (l k : Limits) (s : Machine) (m n : ℕ) (a : Answer) (t : Machine) → l ≡ k → m ≡ n → Steps l s (command m) a t → Steps k s (command n) a t
same_numbered command l k s m n a t same is h =
    subst (λ (j : Limits). Steps j s (command n) a t) same (subst (λ i. Steps l s (command i) a t) is h)

-- what it knows for an import is that of the state
pub is_known : {S : Type 0} (g : Ghosts S) (d : Kept S) (k : ImportCounters) (s : Machine) → k ≡ known_of d → Represents g d s → IsKnown k s
is_known g d k s is stands = subst (λ (j : ImportCounters). IsKnown j s) (sym is) (record { counted = record { moves = stands.moves; totals = stands.totals }; batches = stands.batches; sentences = stands.sentences })
