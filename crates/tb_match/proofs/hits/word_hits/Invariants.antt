use Rattle.std.proofs.Common.{ℕ, ◌<◌, ◌↔◌}
use Rattle.std.specs.List.{AllPairs, Contains}
use Rattle.tb_match.specs.Hits.{ComesBefore, IsWord}
use Rattle.tb_match.proofs.hits.word_hits.Given as goal

abbrev pub invariant-loop-place : goal.invariant-loop-place
invariant-loop-place l = record {
  ascending : AllPairs ComesBefore l.hits.items;
  words : (i j : ℕ) → (Contains l.hits.items (i, j) ↔ ((i < l.place) × IsWord l.truth l.expr i j));
}
