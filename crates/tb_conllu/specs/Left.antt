-- Between crates: no contract of a front door cites a definition of this module.
-- The rest of a file that is read one sentence after another.
use Rattle.std.specs.Prelude.{◌≡◌, ℕ, ◌+◌, List, [], ◌∷◌, ◌++◌, length}
use Rattle.tb_conllu.specs.Text.{BlockText, block_lines, lines_of, text_of}
use Rattle.tb_conllu.specs.Shape.{IsShaped, AllShaped}

-- the bytes of the rest, and how many lines came before them
pub record Left : Type 0 where
  pub rest : List ℕ
  pub line : ℕ

-- the next sentence, and the rest after it
pub record IsNext (old new : Left) (block : BlockText) : Type 0 where
  pub shaped : IsShaped block
  pub text : old.rest ≡ text_of (block ∷ []) ++ new.rest
  pub place : new.line ≡ old.line + length (block_lines block)

-- these sentences of the file were read, and this is the rest
pub record IsReadTo (file : List ℕ) (bs : List BlockText) (left : Left) : Type 0 where
  pub shaped : AllShaped bs
  pub whole : file ≡ text_of bs ++ left.rest
  pub place : left.line ≡ length (lines_of bs)

-- these sentences of the rest were read, and this is what is left
pub record IsReadFrom (old : Left) (bs : List BlockText) (now : Left) : Type 0 where
  pub shaped : AllShaped bs
  pub whole : old.rest ≡ text_of bs ++ now.rest
  pub place : now.line ≡ old.line + length (lines_of bs)

-- no sentence stands at the beginning of the bytes
abbrev pub BeginsNoSentence : List ℕ → Type 0
BeginsNoSentence f = (b : BlockText) (rest : List ℕ) → IsShaped b → f ≡ text_of (b ∷ []) ++ rest → ⊥
