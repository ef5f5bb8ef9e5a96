use Rattle.std.proofs.Common.{refl, arith}
use Rattle.std.proofs.lemmas.Bool.{iff_false}
use Rattle.std.proofs.lemmas.Result.{err_from_is_err_and}
use Rattle.tb_rules.specs.Rules.{ids, features, dependencies, one_root, tree, restored}
use Rattle.tb_rules.proofs.Kept.{passes}
use Rattle.tb_rules.proofs.ByNumber.{one_kept, all_kept, broken_next}
use Rattle.tb_rules.proofs.checking.check_whole.Goals as goal

pub returns-in-Some-clause-fault : goal.returns-in-Some-clause-fault
returns-in-Some-clause-fault g c =
    let b = c.args.block.now in
    let first = rw c.in-Some.is at c.in_ok-row.ensures.value in
    broken_next b features 6 c.in-Some.row refl c.requires.kept (λ k. passes _ b.rows c.in-Some.row first k) first

pub dependency_row-requires-clause-ids : goal.dependency_row-requires-clause-ids
dependency_row-requires-clause-ids g c = c.requires.kept ids (omega arith)

pub returns-in-Some-2-clause-fault : goal.returns-in-Some-2-clause-fault
returns-in-Some-2-clause-fault g c =
    let b = c.args.block.now in
    let seven = one_kept b features 6 refl c.requires.kept (rw c.in_default.is at c.in_ok-row.ensures.value) in
    let first = rw c.in-Some-2.is at c.in_ok-row-2.ensures.value in
    broken_next b dependencies 7 c.in-Some-2.row refl seven (λ k. passes _ b.rows c.in-Some-2.row first k) first

pub returns-then-not-has_one_root-clause-fault : goal.returns-then-not-has_one_root-clause-fault
returns-then-not-has_one_root-clause-fault g c =
    let b = c.args.block.now in
    let seven = one_kept b features 6 refl c.requires.kept (rw c.in_default.is at c.in_ok-row.ensures.value) in
    let eight = one_kept b dependencies 7 refl seven (rw c.in_default-2.is at c.in_ok-row-2.ensures.value) in
    broken_next b one_root 8 0 refl eight (iff_false c.has_one_root.ensures c.if-not-has_one_root.true) refl

pub returns-then-not-branch-clause-fault : goal.returns-then-not-branch-clause-fault
returns-then-not-branch-clause-fault g c =
    let b = c.args.block.now in
    let seven = one_kept b features 6 refl c.requires.kept (rw c.in_default.is at c.in_ok-row.ensures.value) in
    let eight = one_kept b dependencies 7 refl seven (rw c.in_default-2.is at c.in_ok-row-2.ensures.value) in
    let nine = one_kept b one_root 8 refl eight (c.has_one_root.ensures.0 c.if-not-has_one_root.false) in
    broken_next b tree 9 0 refl nine (iff_false c.in_ok-has_tree.ensures c.if-not-branch.true) refl

pub returns-then-not-branch-2-clause-fault : goal.returns-then-not-branch-2-clause-fault
returns-then-not-branch-2-clause-fault g c =
    let b = c.args.block.now in
    let seven = one_kept b features 6 refl c.requires.kept (rw c.in_default.is at c.in_ok-row.ensures.value) in
    let eight = one_kept b dependencies 7 refl seven (rw c.in_default-2.is at c.in_ok-row-2.ensures.value) in
    let nine = one_kept b one_root 8 refl eight (c.has_one_root.ensures.0 c.if-not-has_one_root.false) in
    let ten = one_kept b tree 9 refl nine (c.in_ok-has_tree.ensures.0 c.if-not-branch.false) in
    broken_next b restored 10 0 refl ten (iff_false c.in_ok-is_restored.ensures.value c.if-not-branch-2.true) refl

pub returns-clause-valid : goal.returns-clause-valid
returns-clause-valid g c =
    let b = c.args.block.now in
    let seven = one_kept b features 6 refl c.requires.kept (rw c.in_default.is at c.in_ok-row.ensures.value) in
    let eight = one_kept b dependencies 7 refl seven (rw c.in_default-2.is at c.in_ok-row-2.ensures.value) in
    let nine = one_kept b one_root 8 refl eight (c.has_one_root.ensures.0 c.if-not-has_one_root.false) in
    let ten = one_kept b tree 9 refl nine (c.in_ok-has_tree.ensures.0 c.if-not-branch.false) in
    all_kept b (one_kept b restored 10 refl ten (c.in_ok-is_restored.ensures.value.0 c.if-not-branch-2.false))

pub returns-in_err-row-clause-lists : goal.returns-in_err-row-clause-lists
returns-in_err-row-clause-lists g c =
    let p = err_from_is_err_and c.from_residual.result c.from_residual.ensures.1 in
    rw p.1 (λ _ short. let never = c.in_err-row.ensures.sure short.0 in absurd cc)

pub returns-in_err-row-2-clause-lists : goal.returns-in_err-row-2-clause-lists
returns-in_err-row-2-clause-lists g c =
    let p = err_from_is_err_and c.from_residual-in_err-row-2.result c.from_residual-in_err-row-2.ensures.1 in
    rw p.1 (λ _ short. let never = c.in_err-row-2.ensures.sure short.1 in absurd cc)

pub returns-in_err-has_tree-clause-lists : goal.returns-in_err-has_tree-clause-lists
returns-in_err-has_tree-clause-lists g c =
    let b = c.args.block.now in
    let seven = one_kept b features 6 refl c.requires.kept (rw c.in_default.is at c.in_ok-row.ensures.value) in
    let eight = one_kept b dependencies 7 refl seven (rw c.in_default-2.is at c.in_ok-row-2.ensures.value) in
    let nine = one_kept b one_root 8 refl eight (c.has_one_root.ensures.0 c.if-not-has_one_root.false) in
    let p = err_from_is_err_and c.from_residual-in_err-has_tree.result c.from_residual-in_err-has_tree.ensures.1 in
    rw p.1 (λ _ _. nine)

pub returns-in_err-is_restored-clause-lists : goal.returns-in_err-is_restored-clause-lists
returns-in_err-is_restored-clause-lists g c =
    let b = c.args.block.now in
    let seven = one_kept b features 6 refl c.requires.kept (rw c.in_default.is at c.in_ok-row.ensures.value) in
    let eight = one_kept b dependencies 7 refl seven (rw c.in_default-2.is at c.in_ok-row-2.ensures.value) in
    let nine = one_kept b one_root 8 refl eight (c.has_one_root.ensures.0 c.if-not-has_one_root.false) in
    let p = err_from_is_err_and c.from_residual-in_err-is_restored.result c.from_residual-in_err-is_restored.ensures.1 in
    rw p.1 (λ _ _. nine)
