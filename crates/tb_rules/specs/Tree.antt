-- The words of a sentence depend on one root.
-- UD v2 guidelines, "Syntax: General Principles": one word has the head 0, and all others depend on it, directly or
-- through other words.
use Rattle.std.specs.Prelude.{◌≡◌, ℕ, zero, suc, ◌-◌, ◌≤◌, ◌==◌, List, length, map, filter}
use Rattle.std.specs.Prelude.{Option, Some, None, Bool, ◌&&◌, slice_index, if◌then◌else◌, count_by}
use Rattle.tb_conllu.specs.Text.{RowText, BlockText}
use Rattle.tb_conllu.specs.Words.{is_word}
use Rattle.tb_rules.specs.Words.{is_root_head}

-- a word with the head 0
abbrev pub is_root : RowText → Bool
is_root r = is_word r && is_root_head r.head

abbrev pub HasOneRoot : BlockText → Type 0
HasOneRoot b = count_by is_root b.rows ≡ 1

abbrev pub head_number : Option ℕ → ℕ
head_number None = 0
head_number (Some h) = h

-- the heads of the words, in order
abbrev pub heads_of : BlockText → List ℕ
heads_of b = map (λ r. head_number r.head) (filter is_word b.rows)

-- the head of word k
abbrev pub head_at : List ℕ → ℕ → ℕ
head_at heads k = if k == 0 then 0 else slice_index heads (k - 1)

-- the word that n steps along the heads lead to from k
abbrev pub walk : List ℕ → ℕ → ℕ → ℕ
walk heads zero k = k
walk heads (suc n) k = head_at heads (walk heads n k)

-- at most as many steps as there are words lead to 0
abbrev pub ReachesRoot : List ℕ → ℕ → Type 0
ReachesRoot heads k = (n : ℕ) × (n ≤ length heads) × (walk heads n k ≡ 0)

-- from each word, steps along the heads lead to 0
abbrev pub IsTree : List ℕ → Type 0
IsTree heads = (k : ℕ) → 1 ≤ k → k ≤ length heads → ReachesRoot heads k

abbrev pub HasTree : BlockText → Type 0
HasTree b = IsTree (heads_of b)
