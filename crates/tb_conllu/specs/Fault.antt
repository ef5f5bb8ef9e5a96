-- What a refusal to read says of the bytes.
use Rattle.std.specs.Prelude.{◌≡◌, ◌<◌, ◌⊎◌, ℕ, ◌+◌, List, ◌∷◌, ◌++◌, length, true, false}
use Rattle.std.specs.List.{list_any}
use Rattle.tb_conllu.specs.declared.fault.ReadFault.{ReadFault}
use Rattle.tb_conllu.specs.declared.fault.ReadFault.TheVariants.{At, Memory}
use Rattle.tb_conllu.specs.Lines.{line_code}
use Rattle.tb_conllu.specs.Plain.{is_beyond_latin}
use Rattle.tb_conllu.specs.Reported.{IsLine, IsReported}

-- the fault of bytes that come after `lines` lines; memory runs out only where there is a byte
abbrev pub IsFaultAfter : ℕ → List ℕ → ReadFault → Type 0
IsFaultAfter lines f (At line code) = (n : ℕ) × (line ≡ lines + n) × IsReported f n code
IsFaultAfter lines f Memory = 0 < length f

-- the fault of a whole file
abbrev pub IsReadFault : List ℕ → ReadFault → Type 0
IsReadFault f (At line code) = IsReported f line code
IsReadFault f Memory = 0 < length f

-- Reading may want memory: the first line has no fault by itself, or a character from U+0300 on, for which its
-- normalization form is tested.
pub record MayWantMemory (f : List ℕ) : Type 0 where
  pub first : List ℕ
  pub rest : List ℕ
  pub whole : f ≡ first ++ 10 ∷ rest
  pub cut : IsLine first
  pub kept : (line_code false first ≡ 0) ⊎ (list_any is_beyond_latin first ≡ true)
