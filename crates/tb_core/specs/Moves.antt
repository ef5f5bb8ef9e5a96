-- A move as plain data.
use Rattle.std.specs.Prelude.{ℕ, List, Option}
use Rattle.tb_core.specs.declared.kinds.State.{State}
use Rattle.tb_core.specs.declared.kinds.Kind.{Kind}

-- Numbers count from 1; `sent` is 0 where a whole batch moves. `sentences` sentences left the state `from` with
-- `words_out` words, and came to the state `to` with `words_in`. An import has no state before it.
pub record MoveText : Type 0 where
  pub no : ℕ
  pub kind : Kind
  pub batch : ℕ
  pub sent : ℕ
  pub from : Option State
  pub to : State
  pub sentences : ℕ
  pub words_out : ℕ
  pub words_in : ℕ
  pub who : List ℕ
