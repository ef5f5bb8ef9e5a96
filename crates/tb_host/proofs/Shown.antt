-- What a search of bytes says of a text in them.
use Rattle.std.proofs.Common.{◌≡◌, ℕ, true, List, Option, Some, None, is_some, refl, arith}
use Rattle.std.proofs.lemmas.Bool.{false≢true}
use Rattle.memchr.specs.Find.{FindsNeedle}
use Rattle.tb_host.specs.Contents.{Has}

pub found_is_there : (hay needle : List ℕ) → (r : Option ℕ) → FindsNeedle hay needle 0 r → (is_some r ≡ true → Has hay needle) × (Has hay needle → is_some r ≡ true)
found_is_there hay needle None h = (λ no. absurd (false≢true no), λ there. absurd (h there.at (omega arith) (omega (arith, there.occurs.fits)) there.occurs))
found_is_there hay needle (Some k) h = (λ _. record { at = k; occurs = h.1 }, λ _. refl)
