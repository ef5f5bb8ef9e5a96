-- Patterns as plain data.
use Rattle.std.specs.Prelude.{ℕ, Option, List, [], ◌∷◌, map}
use Rattle.tb_match.specs.declared.pattern.Pat.{Pat}
use Rattle.tb_match.specs.declared.pattern.Pat.TheOpen.{Pat-F}
use Rattle.tb_match.specs.declared.pattern.Pat.TheFolds.{fold-Pat}

-- A pattern over the words of a sentence, which names expressions by number. It is one word, parts one after another,
-- one of the parts, or a repeated pattern with a least number and perhaps a greatest one.
mutual
  pub data Tree : Type 0 where
    tok : ℕ → Tree
    cat : Forest → Tree
    alt : Forest → Tree
    rep : Tree → ℕ → Option ℕ → Tree

  -- the parts of a pattern
  pub data Forest : Type 0 where
    no_more : Forest
    and_more : Tree → Forest → Forest

abbrev pub forest : List Tree → Forest
forest [] = no_more
forest (t ∷ ts) = and_more t (forest ts)

abbrev pub tree_step : Pat-F Tree → Tree
tree_step (Pat-F.Tok e) = tok e
tree_step (Pat-F.Cat ps) = cat (forest ps.items)
tree_step (Pat-F.Alt ps) = alt (forest ps.items)
tree_step (Pat-F.Rep p a b) = rep p.value a b

-- the plain data of a pattern
abbrev pub tree : Pat → Tree
tree = fold-Pat Tree tree_step

abbrev pub trees : List Pat → Forest
trees ps = forest (map tree ps)
