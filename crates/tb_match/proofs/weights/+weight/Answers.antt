use Rattle.std.proofs.Common.{◌≤◌, sym, subst, SomeIff}
use Rattle.tb_match.specs.Weight.{weight_of}
use Rattle.tb_match.proofs.Parts.{is_cat, is_alt}
use Rattle.tb_match.proofs.weights.+weight.Goals as goal

pub weight-returns-in-Cat : goal.weight-returns-in-Cat
weight-returns-in-Cat t c =
    let shown = is_cat c.args.pat.now c.in-Cat.parts c.deref.result.now c.in-Cat.is c.deref.ensures.value in
    subst (λ p. SomeIff c.weight_of_parts.result (weight_of p ≤ 1000000) (weight_of p)) (sym shown) c.weight_of_parts.ensures

pub weight-returns-in-Alt : goal.weight-returns-in-Alt
weight-returns-in-Alt t c =
    let shown = is_alt c.args.pat.now c.in-Alt.parts c.deref-in-Alt.result.now c.in-Alt.is c.deref-in-Alt.ensures.value in
    subst (λ p. SomeIff c.weight_of_parts-in-Alt.result (weight_of p ≤ 1000000) (weight_of p)) (sym shown) c.weight_of_parts-in-Alt.ensures
