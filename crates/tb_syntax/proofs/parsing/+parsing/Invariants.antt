use Rattle.std.proofs.Common.{◌+◌, ◌*◌, length}
use Rattle.tb_syntax.proofs.parsing.+parsing.Given as goal

abbrev pub decreases-atom_at : goal.decreases-atom_at
decreases-atom_at l = 7 * length l.lexemes.now + 1

abbrev pub decreases-item_at : goal.decreases-item_at
decreases-item_at l = 7 * length l.lexemes.now + 2

abbrev pub decreases-items_at : goal.decreases-items_at
decreases-items_at l = 7 * length l.lexemes.now + 3

abbrev pub decreases-cat_at : goal.decreases-cat_at
decreases-cat_at l = 7 * length l.lexemes.now + 4

abbrev pub decreases-cats_at : goal.decreases-cats_at
decreases-cats_at l = 7 * length l.lexemes.now + 5

abbrev pub decreases-alt_at : goal.decreases-alt_at
decreases-alt_at l = 7 * length l.lexemes.now + 6
