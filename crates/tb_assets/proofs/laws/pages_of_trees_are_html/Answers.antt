use Rattle.tb_assets.proofs.Pages.{begins, sentences, ends}
use Rattle.tb_assets.proofs.laws.pages_of_trees_are_html.Goals as goal

pub returns-clause-begins : goal.returns-clause-begins
returns-clause-begins c = begins

pub returns-clause-sentences : goal.returns-clause-sentences
returns-clause-sentences c = sentences

pub returns-clause-ends : goal.returns-clause-ends
returns-clause-ends c = ends
