-- Inner: no contract beyond this crate cites a definition of this module.
-- The two halves of a code that is a pair.
use base.Stored.{Gv, gnil, gnum, gcons}

abbrev pub first : Gv → Gv
first gnil = gnil
first (gnum n) = gnil
first (gcons a b) = a

abbrev pub second : Gv → Gv
second gnil = gnil
second (gnum n) = gnil
second (gcons a b) = b

abbrev pub IsPair : Gv → Type 0
IsPair gnil = ⊥
IsPair (gnum n) = ⊥
IsPair (gcons a b) = Unit {0}
