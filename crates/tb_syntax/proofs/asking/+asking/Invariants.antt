use Rattle.std.proofs.Common.{◌+◌, ◌*◌, length}
use Rattle.tb_syntax.proofs.asking.+asking.Given as goal

abbrev pub decreases-test_at : goal.decreases-test_at
decreases-test_at l = 6 * length l.lexemes.now + 5

abbrev pub decreases-conjs_at : goal.decreases-conjs_at
decreases-conjs_at l = 6 * length l.lexemes.now + 4

abbrev pub decreases-conj_at : goal.decreases-conj_at
decreases-conj_at l = 6 * length l.lexemes.now + 3

abbrev pub decreases-units_at : goal.decreases-units_at
decreases-units_at l = 6 * length l.lexemes.now + 2

abbrev pub decreases-unit_at : goal.decreases-unit_at
decreases-unit_at l = 6 * length l.lexemes.now + 1

abbrev pub decreases-plain_unit_at : goal.decreases-plain_unit_at
decreases-plain_unit_at l = 6 * length l.lexemes.now
