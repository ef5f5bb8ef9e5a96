use Rattle.std.proofs.Common.{◌≡◌, ◌<◌, ◌↔◌, ℕ, map, filter}
use Rattle.tb_conllu.specs.Words.{is_word}
use Rattle.tb_match.specs.Facts.{Holds}
use Rattle.tb_query.specs.PreparedExprs.{asked}
use Rattle.tb_query.specs.Meaning.{HoldsOf}
use Rattle.tb_query.proofs.filling.fill.Given as goal

abbrev pub invariant-loop-expr : goal.invariant-loop-expr
invariant-loop-expr g l = record {
  same : map asked l.prepared_exprs ≡ map asked l.fn.prepared_exprs;
  words : l.truth.words ≡ l.fn.truth.words;
  exprs : l.truth.exprs ≡ l.fn.truth.exprs;
  held : (e w : ℕ) → (Holds l.truth e w ↔ ((e < l.expr) × HoldsOf (map asked l.fn.prepared_exprs) (filter is_word l.rows) e w));
}
