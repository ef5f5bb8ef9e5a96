use Rattle.std.proofs.Common.{◌≡◌, ◌∷◌, [], List, ℕ, map, string_bytes, refl, sym, subst}
use Rattle.tb_literal.specs.Literals.{IsAccepted}
use Rattle.tb_literal.specs.declared.pattern.PatternFault.{PatternFault}
use Rattle.tb_literal.specs.declared.pattern.PatternFault.TheVariants as pattern
use Rattle.tb_syntax.specs.declared.expr.Literal.{Literal}
use Rattle.tb_query.specs.Reading.{text_of}
use Rattle.tb_query.specs.Refusing.{IsRefusalAmong, fault_of_literal}
use Rattle.tb_query.proofs.attaching.needle_of.Goals as goal

refused_so : (said : List (List ℕ)) (l : Literal) (e : PatternFault) → (e ≡ pattern.Syntax → IsAccepted l.flag (text_of said l.number) → ⊥)
    → IsRefusalAmong said (l ∷ []) (fault_of_literal l e)
refused_so said l pattern.Syntax refuses = ([], l, [], refl, refl, tt, refuses refl)
refused_so said l pattern.Memory refuses = tt

pub returns-in-Err-clause-refused : goal.returns-in-Err-clause-refused
returns-in-Err-clause-refused c =
    rw c.fault_of.ensures (refused_so (map string_bytes c.args.texts.now) c.args.literal c.in-Err.fault (λ syntax h.
    c.in-Err.ensures.refused syntax (subst (IsAccepted c.args.literal.flag) (sym c.in_ok-text.ensures.value) h)))
