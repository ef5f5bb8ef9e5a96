-- Inner: no contract beyond this crate cites a definition of this module.
-- A walk over a file: the lines, the sentences, and the first sentence of each name.
use denote.Ref.{Bor}
use Rattle.std.specs.Prelude.{◌≡◌, ℕ, ◌-◌, ◌<◌, ◌⊎◌, List, MatchOption, Option}
use Rattle.std.specs.BTreeMap.{BTreeMap, get_by}
use Rattle.std.specs.Cmp.Lexicographic.{slice_cmp}
use Rattle.std.specs.Ordering.{nat_cmp}
use Rattle.tb_conllu.specs.Left.{BeginsNoSentence, Left}
use Rattle.tb_words.specs.FileLines.{IsAtLine}
use Rattle.tb_words.specs.FileSentences.{HasRead, IsSentenceAfter}
use Rattle.tb_words.specs.Named.{IsFirstNamed, NoneIsNamed}
use Rattle.tb_words.specs.declared.places.Placed.{Placed}
use Rattle.tb_words.specs.declared.telling.Walk.{Walk}

-- the number and the first line that names keep for a name
abbrev pub first_of : BTreeMap (Bor (List ℕ)) (ℕ × ℕ) → (name : List ℕ) → Option (ℕ × ℕ)
first_of names name = get_by (λ k. slice_cmp nat_cmp name k.now) names

-- Of the first sentences of a file, so many, the first with each name is known.
abbrev pub KnowsNames : (file : List ℕ) → (count : ℕ) → BTreeMap (Bor (List ℕ)) (ℕ × ℕ) → Type 0
KnowsNames file count names =
    (name : List ℕ) → MatchOption (first_of names name) (NoneIsNamed file name count) (λ first.
    IsFirstNamed file name first.0 first.1)

-- The sentence with this number was read last. There is none before the first, and none after the end.
abbrev pub IsLast : (file : List ℕ) → (count number : ℕ) → Left → Option Placed → Type 0
IsLast file count number left here =
    MatchOption here (((number ≡ 0) × (count ≡ 0)) ⊎ ((count < number) × BeginsNoSentence left.rest)) (λ placed.
    (count ≡ number) × (0 < number) × IsSentenceAfter file (number - 1) placed)

-- the sentences that a walk has read
pub record HasWalked (file : List ℕ) (walk : Walk) : Type 0 where
  pub count : ℕ
  pub read : HasRead file count walk.places
  pub last : IsLast file count walk.number walk.places.unread walk.here
  pub names : KnowsNames file count walk.names

abbrev pub IsWalk : (file : List ℕ) → Walk → Type 0
IsWalk file walk = IsAtLine file walk.lines × HasWalked file walk
