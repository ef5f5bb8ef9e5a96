-- Between crates: no contract of a front door cites a definition of this module.
-- What is known of a command after the first part of its tests refused nothing.
use Rattle.std.specs.Prelude.{◌≡◌, ℕ, ◌+◌, ◌≤◌, List, ◌&&◌, true, Ok}
use Rattle.tb_conllu.specs.Text.{BlockText}
use Rattle.tb_core.specs.Names.{is_name, Lacks}
use Rattle.tb_core.specs.Deciding.{correct_decision}
use Rattle.tb_core.specs.Machine.{Sentence, Machine, batch_with, state_in, rev}
use Rattle.tb_core.specs.Acts.{names_of}
use Rattle.tb_core.specs.Commands.{Ending, HasSentence}
use Rattle.tb_core.specs.Tests.{RepeatsImport, RepeatsCorrection}
use Rattle.tb_core.specs.Taking.{IsBody}
use Rattle.tb_core.specs.declared.judged.Judged.{Judged}
use Rattle.tb_core.specs.declared.judged.Judged.TheVariants.{Repeat, Continue}
use Rattle.tb_core.specs.Found.{CurrentSeen}

-- ---- the outcome of the first part

-- for a repeat, and for a command that goes on
abbrev pub IfRepeat : {R : Type 0} → (R → Type 0) → Judged R → Type 0
IfRepeat says (Repeat reply) = says reply
IfRepeat says Continue = Unit {0}

abbrev pub IfGoes : {R : Type 0} → Type 0 → Judged R → Type 0
IfGoes says (Repeat reply) = Unit {0}
IfGoes says Continue = says

-- ---- an import

-- the names are good, and it is no repeat
pub record IsNamedImport (s : Machine) (name user body : List ℕ) : Type 0 where
  pub named : (is_name name && is_name user) ≡ true
  pub fresh : (e : Ending) → RepeatsImport s name body e → ⊥

-- and the body is a file of these valid sentences, under a new name
pub record IsTakenImport (s : Machine) (name user body : List ℕ) (bs : List BlockText) : Type 0 where
  pub begun : IsNamedImport s name user body
  pub taken : IsBody body bs
  pub new : Lacks (names_of s.batches) name

-- ---- a correction

-- The current revision is the one after the base, by this user, and its text is the body.
pub record IsResent (f : CurrentSeen) (base : ℕ) (user body : List ℕ) : Type 0 where
  pub made : 1 ≤ base
  pub next : f.rev ≡ base + 1
  pub who : f.who ≡ user
  pub same : f.body ≡ body

-- the name is good, the sentence is at this place, it is no repeat, and this user may correct this revision
pub record IsNamedCorrection (s : Machine) (n base : ℕ) (user body : List ℕ) (place : ℕ) (x : Sentence) : Type 0 where
  pub by : is_name user ≡ true
  pub has : HasSentence s n place x
  pub fresh : (e : Ending) → RepeatsCorrection s n base user body e → ⊥
  pub decided : correct_decision (state_in s.batches x) (batch_with s.batches x.batch).worker user base (rev x)
      ≡ Ok tt
