use Rattle.std.proofs.Common.{◌↔◌, sym, subst, IsTrue}
use Rattle.tb_match.specs.Weight.{IsProper}
use Rattle.tb_match.proofs.Parts.{is_cat, is_alt}
use Rattle.tb_match.proofs.weights.+is_proper.Goals as goal

pub is_proper-returns-in-Cat : goal.is_proper-returns-in-Cat
is_proper-returns-in-Cat t c =
    let shown = is_cat c.args.pat.now c.in-Cat.parts c.deref.result.now c.in-Cat.is c.deref.ensures.value in
    subst (λ p. IsTrue c.are_proper.result ↔ IsProper c.args.exprs p) (sym shown) c.are_proper.ensures

pub is_proper-returns-in-Alt : goal.is_proper-returns-in-Alt
is_proper-returns-in-Alt t c =
    let shown = is_alt c.args.pat.now c.in-Alt.parts c.deref-in-Alt.result.now c.in-Alt.is c.deref-in-Alt.ensures.value in
    subst (λ p. IsTrue c.are_proper-in-Alt.result ↔ IsProper c.args.exprs p) (sym shown) c.are_proper-in-Alt.ensures
