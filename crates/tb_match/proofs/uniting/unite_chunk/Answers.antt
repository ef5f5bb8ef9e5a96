use Rattle.tb_match.proofs.Words.{united_before, united_within, united_after}
use Rattle.tb_match.proofs.uniting.unite_chunk.Goals as goal

pub returns-clause-before : goal.returns-clause-before
returns-clause-before c = united_before c.args.to.now c.args.from.now c.args.at c.requires.same c.requires.room

pub returns-clause-within : goal.returns-clause-within
returns-clause-within c = united_within c.args.to.now c.args.from.now c.args.at c.requires.same c.requires.room

pub returns-clause-after : goal.returns-clause-after
returns-clause-after c = united_after c.args.to.now c.args.from.now c.args.at c.requires.same c.requires.room
