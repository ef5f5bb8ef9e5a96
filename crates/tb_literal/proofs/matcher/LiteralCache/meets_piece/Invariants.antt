use Rattle.std.proofs.Common.{◌≡◌, length}
use denote.Text.{Utf8}
use denote.Shadow.{shadow}
use Rattle.std.specs.List.{list_any}
use Rattle.tb_literal.specs.Literals.{meets}
use Rattle.tb_literal.specs.Items.{pieces}
use Rattle.tb_literal.proofs.matcher.LiteralCache.meets_piece.Given as goal

abbrev pub invariant-pieces : goal.invariant-pieces
invariant-pieces l =
    shadow (Utf8 l.rest) × (l.self ≡ l.fn.self)
    × (list_any (meets l.fn.self) (pieces l.list) ≡ list_any (meets l.self) (pieces l.rest))

abbrev pub decreases-pieces : goal.decreases-pieces
decreases-pieces l = length l.rest
