-- What follows of a result that a call gave.
use Rattle.std.proofs.Common.{Result, Ok, Err, OnOk}

pub on_weaker : {A E P Q : Type 0} (r : Result A E) → OnOk r P → (P → Q) → OnOk r Q
on_weaker (Ok a) p f = f p
on_weaker (Err e) p f = tt
