use Rattle.std.proofs.Common.{◌≡◌, List, ℕ, [], ◌∷◌, refl}
use Rattle.tb_conllu.specs.FaultyLines.{AreFaultyLines}
use Rattle.tb_conllu.specs.Reported.{IsFile}
use Rattle.tb_conllu.specs.Text.{BlockText}
use Rattle.tb_conllu.specs.declared.faulty.FaultyLine.{FaultyLine}
use Rattle.tb_conllu.proofs.Files.{reported_no_file}
use Rattle.tb_conllu.proofs.Grown.{first_reported, no_fault_file}
use Rattle.tb_conllu.proofs.laws.faulty_lines_are_reported.Goals as goal

pub returns-clause-none : goal.returns-clause-none
returns-clause-none c = no_fault_file

pub returns-clause-first : goal.returns-clause-first
returns-clause-first c = first_reported

no_faults : (f : List ℕ) (bs : List BlockText) (faults : List FaultyLine) → IsFile f bs → AreFaultyLines f faults → faults ≡ []
no_faults f bs [] file h = refl
no_faults f bs (x ∷ more) file h = absurd (reported_no_file f x.line x.code (first_reported f x more h) bs file.shaped file.text)

pub returns-clause-file : goal.returns-clause-file
returns-clause-file c = no_faults
