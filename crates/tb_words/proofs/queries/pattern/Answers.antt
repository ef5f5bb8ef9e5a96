use Rattle.std.proofs.Common.{ap, sym}
use Rattle.tb_words.proofs.QueryCuts.{literal_cut}
use Rattle.tb_words.proofs.QueryFaults.{literal_said, none_said}
use Rattle.tb_words.specs.declared.words.Words.{Words}
use Rattle.tb_words.proofs.queries.pattern.Goals as goal

pub returns-in-Some : goal.returns-in-Some
returns-in-Some c = λ known.
    let is = sym c.in-Some.ensures in
    literal_said c.args.text.now c.args.literals.now c.args.number c.in-Some.literal c.literal_fault.result is
    (c.literal_fault.ensures (literal_cut c.args.text.now c.args.literals.now c.args.number c.in-Some.literal c.utf8.text known is))

pub returns-in-None : goal.returns-in-None
returns-in-None c = λ known.
    none_said c.args.text.now c.args.literals.now c.args.number c.alone.result (sym c.in-None.ensures) (
      ap (λ (w : Words). w.sentence.now) c.alone.ensures,
      ap (λ (w : Words). w.place) c.alone.ensures,
      ap (λ (w : Words). w.picture) c.alone.ensures,
    )
