use Rattle.std.proofs.Common.{ap, List, Some, subst, sym}
use Rattle.tb_words.proofs.QueryFaults.{paged}
use Rattle.tb_words.specs.Explained.{SaysFault}
use Rattle.tb_words.specs.QueryLiterals.{KnowsLiterals}
use Rattle.tb_words.specs.declared.literals.Literal.{Literal}
use Rattle.tb_words.specs.declared.words.Page.TheVariants.{Queries}
use Rattle.tb_words.specs.declared.words.Words.{Words}
use Rattle.tb_words.proofs.queries.words_of_query.Goals as goal

pub returns : goal.returns
returns c =
    let known = subst (λ (ls : List Literal). KnowsLiterals c.args.text.now ls) (sym c.as_slice.ensures.value) c.known_literals-literals.ensures in (
      ap (λ (w : Words). w.page) c.on.ensures,
      (
        c.as_slice.result.now,
        known,
        subst (λ (w : Words). SaysFault c.args.text.now c.as_slice.result.now c.args.fault w) (sym c.on.ensures)
            (paged c.args.text.now c.as_slice.result.now c.args.fault c.explained.result (Some Queries) (c.explained.ensures known)),
      ),
    )
