use Rattle.std.proofs.Common.{◌≡◌, List, Bool, false, refl, subst, sym}
use Rattle.std.specs.Prelude.{slice_index_or}
use Rattle.tb_match.proofs.Cells.{unset}
use Rattle.tb_match.proofs.truth.no_cells.Goals as goal

pub returns-then-count-eq0-clause-none : goal.returns-then-count-eq0-clause-none
returns-then-count-eq0-clause-none c = λ i. subst (λ (bs : List Bool). slice_index_or bs i false ≡ false) (sym c.new.ensures.items) refl

pub returns-clause-none : goal.returns-clause-none
returns-clause-none c = λ i.
    subst (λ (bs : List Bool). slice_index_or bs i false ≡ false) (sym (c.in_ok-from_elem.ensures.items_if_clones_equal (λ y h. h))) (unset c.args.count i)
