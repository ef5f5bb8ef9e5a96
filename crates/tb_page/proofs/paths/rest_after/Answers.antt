use Rattle.std.proofs.Common.{◌≡◌, ◌+◌, ℕ, List, Bool, true, false, Option, Some, None, MatchOption, Bor, refl, ap, take, drop, length}
use Rattle.std.specs.Prelude.{bytes_eq}
use Rattle.std.specs.Option.{option_copied}
use Rattle.tb_page.specs.Paths.{rest_after}
use Rattle.tb_page.proofs.paths.rest_after.Goals as goal

found : (front text : List ℕ) (r : Option (Bor (List ℕ))) → MatchOption r (bytes_eq (take (length front) text) front ≡ false)
    (λ x. (bytes_eq (take (length front) text) front ≡ true) × (x.now ≡ drop (length front) text) × (length x.now + length front ≡ length text))
    → option_copied r ≡ rest_after front text
found front text (Some x) (same, rest, long) = rw same (ap Some rest)
found front text None other = rw other refl

pub returns : goal.returns
returns c = found c.args.front.now c.args.text.now c.strip_prefix.result c.strip_prefix.ensures.cases
