use Rattle.std.proofs.Common.{ap, inl, inr, List, subst, sym, ℕ}
use Rattle.tb_words.specs.QueryPlaces.{IsFirstWrong}
use Rattle.tb_words.specs.declared.words.Words.{Words}
use Rattle.tb_words.proofs.queries.repeated.Goals as goal

pub returns-in-Some : goal.returns-in-Some
returns-in-Some c =
    let found = c.in-Some.ensures in
    inl (
      c.in-Some.at,
      subst (λ (said : List ℕ). IsFirstWrong c.args.text.now c.args.literals.now c.in-Some.at said)
          (sym c.at_byte.ensures.says.sentence) found.0,
      (c.at_byte.ensures.place found.1, c.at_byte.ensures.picture found.1),
    )

pub returns-in-None : goal.returns-in-None
returns-in-None c =
    inr (
      c.in-None.ensures,
      (
        ap (λ (w : Words). w.sentence.now) c.alone.ensures,
        ap (λ (w : Words). w.place) c.alone.ensures,
        ap (λ (w : Words). w.picture) c.alone.ensures,
      ),
    )
