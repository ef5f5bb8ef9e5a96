-- Inner: no contract beyond this crate cites a definition of this module.
-- First revisions of sentences, found by their numbers.
use Rattle.std.specs.Prelude.{◌≡◌, ◌≢◌, ℕ, ◌-◌, ◌<◌, List, [], ◌∷◌, Some, slice_get, Bool}
use Rattle.std.specs.Prelude.{MatchBool}
use Rattle.tb_conllu.specs.Text.{BlockText, text_of}
use Rattle.tb_core.specs.Machine.{Machine, Sentence}
use Rattle.tb_core.specs.Machine.{rev as rev_of}
use Rattle.tb_core.specs.Machine.{words as words_now}
use Rattle.tb_core.specs.Tests.{first_body}
use Rattle.tb_reads.specs.declared.work.BatchSentence.{BatchSentence}

-- the first revision of the sentence with this number
pub record IsFirst (s : Machine) (number : ℕ) (b : BlockText) : Type 0 where
  pub counted : 0 < number
  pub sentence : Sentence
  pub there : slice_get s.sentences (number - 1) ≡ Some sentence
  pub body : b ≡ first_body sentence

-- and the current revision of its sentence has this number and these words
pub record IsWorkOf (s : Machine) (w : BatchSentence) (b : BlockText) : Type 0 where
  pub first : IsFirst s w.number b
  pub rev : w.rev ≡ rev_of first.sentence
  pub words : w.words ≡ words_now first.sentence

-- its first revision is the current one
abbrev pub IsAtFirst : BatchSentence → Type 0
IsAtFirst w = w.rev ≡ 1

-- the first revisions of these sentences, in order
abbrev pub AreFirsts : Machine → List BatchSentence → List BlockText → Type 0
AreFirsts s [] [] = Unit {0}
AreFirsts s [] (b ∷ bs) = ⊥
AreFirsts s (w ∷ ws) [] = ⊥
AreFirsts s (w ∷ ws) (b ∷ bs) = IsWorkOf s w b × AreFirsts s ws bs

-- `same` is whether the text is that of these sentences
abbrev pub DecidesSame : Bool → List ℕ → List BlockText → Type 0
DecidesSame same text bs = MatchBool same (text ≡ text_of bs) (text ≢ text_of bs)
