-- Between crates: no contract of a front door cites a definition of this module.
-- The replay of a desk: the commands that its moves name, with the texts that it holds, one after another.
use Rattle.std.specs.Prelude.{◌≡◌, ℕ, ◌-◌, List, [], ◌∷◌, map, length, take, drop, slice_index_or}
use Rattle.std.specs.List.{flat_map}
use Rattle.tb_conllu.specs.Text.{BlockText}
use Rattle.tb_core.specs.declared.kinds.Kind.{Kind}
use Rattle.tb_core.specs.declared.kinds.Kind.TheVariants.{Import, Step, Correct, Pull, Restore}
use Rattle.tb_core.specs.Moves.{MoveText}
use Rattle.tb_core.specs.Machine.{Machine, bodies_of}
use Rattle.tb_core.specs.Acts.{Act, importing, stepping, correcting, pulling, restoring, IsAllowed, after, move_of}
use Rattle.tb_core.specs.Acts.{names_of}

-- the texts of each sentence, oldest first
abbrev pub bodies_in : Machine → List (List BlockText)
bodies_in s = map bodies_of s.sentences

-- the text at a place that has none
abbrev pub no_body : BlockText
no_body = record { comments = []; rows = [] }

-- the first text of each of k sentences from place n on
abbrev pub firsts : List (List BlockText) → ℕ → ℕ → List BlockText
firsts f n k = flat_map (λ (bs : List BlockText). take 1 bs) (take k (drop n f))

-- text r of sentence i, both from 0
abbrev pub body_at : List (List BlockText) → ℕ → ℕ → BlockText
body_at f i r = slice_index_or (slice_index_or f i []) r no_body

-- how many revisions the sentence at this place has
abbrev pub rev_count : Machine → ℕ → ℕ
rev_count s i = length (slice_index_or (bodies_in s) i [])

-- The command that a move of this kind names in the state s. An import brings the next name and the first texts of the
-- next sentences of f; a correction brings the next text of its sentence.
abbrev pub act_by : Kind → Machine → Machine → MoveText → Act
act_by Import f s m = importing (slice_index_or (names_of f.batches) (length s.batches) []) m.who (firsts (bodies_in f)
    (length s.sentences) m.sentences)
act_by (Step event) f s m = stepping (m.batch - 1) event m.who
act_by Correct f s m = correcting (m.sent - 1) m.who (body_at (bodies_in f) (m.sent - 1) (rev_count s (m.sent - 1)))
act_by Pull f s m = pulling (m.sent - 1) m.who
act_by Restore f s m = restoring (m.sent - 1) m.who

abbrev pub act_of : Machine → Machine → MoveText → Act
act_of f s m = act_by m.kind f s m

-- The moves lead from s to f: each names a command that is accepted, and is the move of that command.
abbrev pub Plays : Machine → Machine → List MoveText → Type 0
Plays f s [] = s ≡ f
Plays f s (m ∷ ms) = IsAllowed s (act_of f s m) × (move_of s (act_of f s m) ≡ m)
    × Plays f (after s (act_of f s m)) ms
