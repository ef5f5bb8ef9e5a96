-- The first faults of a file, and one more.
use Rattle.std.proofs.Common.{◌≡◌, ◌+◌, ◌∙◌, ℕ, suc, List, [], ◌∷◌, nat_lt, take, refl, subst, ap, arith}
use Rattle.std.proofs.lemmas.Bool.Decides.{nat_tests}
use Rattle.std.proofs.lemmas.List.{length-take, take-take}
use Rattle.tb_check.specs.declared.fault.Fault.{Fault}
use Rattle.tb_words.specs.FirstFaults.{are_more, exit_with}

exit_of_one : (n : ℕ) (all : List Fault) → exit_with (take (suc n) all) ≡ exit_with all
exit_of_one n [] = refl
exit_of_one n (fault ∷ more) = refl

pub same_exit : (n : ℕ) (all : List Fault) → exit_with (take (n + 1) all) ≡ exit_with all
same_exit n all =
    let next : suc n ≡ n + 1 = omega arith in
    subst (λ k. exit_with (take k all) ≡ exit_with all) next (exit_of_one n all)

pub same_more : (n : ℕ) (all : List Fault) → are_more n (take (n + 1) all) ≡ are_more n all
same_more n all = ap (nat_lt n) (length-take (n + 1) all) ∙ grind (arith, nat_tests)

pub same_first : (n : ℕ) (all : List Fault) → take n (take (n + 1) all) ≡ take n all
same_first n all = take-take n (n + 1) all (omega arith)
