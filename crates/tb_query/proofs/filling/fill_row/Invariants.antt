use Rattle.std.proofs.Common.{◌≡◌, ◌↔◌, ◌⊎◌, ℕ, length, take, filter}
use Rattle.tb_conllu.specs.Words.{is_word}
use Rattle.tb_match.specs.Facts.{Holds}
use Rattle.tb_query.specs.PreparedExprs.{asked}
use Rattle.tb_query.specs.Meaning.{HoldsAtWord}
use Rattle.tb_query.proofs.filling.fill_row.Given as goal

abbrev pub invariant-loop-row : goal.invariant-loop-row
invariant-loop-row g l = record {
  word : l.word ≡ length (filter is_word (take l.row-index l.rows));
  same : asked l.prepared_expr ≡ asked l.fn.prepared_expr;
  words : l.truth.words ≡ l.fn.truth.words;
  exprs : l.truth.exprs ≡ l.fn.truth.exprs;
  held : (e w : ℕ) → (Holds l.truth e w
      ↔ (Holds l.fn.truth e w ⊎ ((e ≡ l.expr) × HoldsAtWord (asked l.fn.prepared_expr) (filter is_word (take l.row-index l.rows)) w)));
}
