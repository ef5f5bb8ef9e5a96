-- The sentences of one file: each keeps the rules of a sentence by itself, and has a unique name.
-- CoNLL-U format page, "Sentence Boundaries and Comments": the sentence-level comment `sent_id` is the sentence's
-- identifier, and it is unique. That it is unique within a file is this project's own reading.
use Rattle.std.specs.Prelude.{◌≡◌, ℕ, ◌+◌, List, [], ◌∷◌, ◌++◌, length, bytes_eq}
use Rattle.std.specs.List.{AllByRecursion, flat_map, list_any}
use Rattle.tb_conllu.specs.Text.{BlockText}
use Rattle.tb_rules.specs.declared.filefault.FileFault.{FileFault}
use Rattle.tb_rules.specs.declared.filefault.FileFault.TheVariants.{At, Memory}
use Rattle.tb_rules.specs.Comments.{sent_ids}
use Rattle.tb_rules.specs.Rules.{KeepsTo6, KeepsRules, IsBroken}

-- The sentence has this name: the value of its only comment with the key sent_id.
abbrev pub IsNamed : BlockText → List ℕ → Type 0
IsNamed b name = sent_ids b ≡ name ∷ []

-- No sentence of these has the name.
abbrev pub IsFree : List BlockText → List ℕ → Type 0
IsFree bs name = AllByRecursion (λ b. IsNamed b name → ⊥) bs

-- Rule 12: no sentence before has its name.
abbrev pub HasNewName : List BlockText → BlockText → Type 0
HasNewName before b = (name : List ℕ) → IsNamed b name → IsFree before name

-- Each sentence keeps rules 1 to 11, and has a name that none before it has.
pub record IsValid (bs : List BlockText) : Type 0 where
  pub rules : AllByRecursion KeepsRules bs
  pub names : (before : List BlockText) (b : BlockText) (after : List BlockText) → bs ≡ before ++ b ∷ after
      → HasNewName before b

-- The rule that a sentence breaks after these, with its row: the least of rules 1 to 11; rule 12 where those are kept.
pub data IsBrokenAfter (before : List BlockText) (b : BlockText) : ℕ → ℕ → Type 0 where
  broken : (rule row : ℕ) → IsBroken b rule row → IsBrokenAfter before b rule row
  name_twice : KeepsRules b → (HasNewName before b → ⊥) → IsBrokenAfter before b 12 0

-- The first sentence at fault, counted from 1: those before it are valid.
pub record IsFaultAt (bs : List BlockText) (sentence rule row : ℕ) : Type 0 where
  pub before : List BlockText
  pub reported : BlockText
  pub after : List BlockText
  pub whole : bs ≡ before ++ reported ∷ after
  pub counted : sentence ≡ length before + 1
  pub valid : IsValid before
  pub fault : IsBrokenAfter before reported rule row

-- What is known where memory ran out: one of the sentences keeps rules 1 to 6, and those before it are valid.
pub record IsCutShort (bs : List BlockText) : Type 0 where
  pub before : List BlockText
  pub next : BlockText
  pub after : List BlockText
  pub whole : bs ≡ before ++ next ∷ after
  pub valid : IsValid before
  pub kept : KeepsTo6 next

-- want of memory is no fault of the sentences
abbrev pub IsFileFault : List BlockText → FileFault → Type 0
IsFileFault bs (At sentence rule row) = IsFaultAt bs sentence rule row
IsFileFault bs Memory = Unit {0}

-- ---- sentences that come one after another

-- the fault of the sentence with this number by itself
abbrev pub IsSentenceFault : ℕ → BlockText → FileFault → Type 0
IsSentenceFault n b (At sentence rule row) = (sentence ≡ n) × IsBroken b rule row
IsSentenceFault n b Memory = Unit {0}

-- the names of sentences, in order
abbrev pub names_of : List BlockText → List (List ℕ)
names_of bs = flat_map sent_ids bs

-- These sentences were taken: they are valid, and these are their names, in any order.
pub record HasTaken (names : List (List ℕ)) (bs : List BlockText) : Type 0 where
  pub valid : IsValid bs
  pub counted : length names ≡ length bs
  pub known : (name : List ℕ) → list_any (bytes_eq name) names ≡ list_any (bytes_eq name) (names_of bs)
