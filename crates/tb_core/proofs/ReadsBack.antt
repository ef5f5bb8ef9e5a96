-- A sentence that keeps the rules, alone in a file, is a valid file that reads back.
use Rattle.std.proofs.Common.{◌≡◌, ℕ, List, [], ◌∷◌, ◌++◌, length, refl, ap, arith, length-append}
use Rattle.std.specs.List.{AllByRecursion}
use Rattle.tb_conllu.specs.Text.{BlockText, text_of}
use Rattle.tb_conllu.specs.Reported.{IsFile}
use Rattle.tb_rules.specs.File.{IsFree, IsValid}
use Rattle.tb_core.specs.Machine.{IsLawful, Sentence, Machine, bodies_of}
use Rattle.tb_core.specs.Keeping.{IsFine}
use Rattle.tb_core.specs.Reaching.{Reached}
use Rattle.tb_core.proofs.Weights.{all_mapped}
use Rattle.tb_core.proofs.Same.{IsOneList}
use Rattle.tb_core.proofs.Keeps.{well}

none_before : (b : BlockText) (before : List BlockText) (c : BlockText) (after : List BlockText) (name : List ℕ) → b ∷ [] ≡ before ++ c ∷ after → IsFree before name
none_before b [] c after name e = tt
none_before b (d ∷ before) c after name e = let n = ap length e in let m = length-append before (c ∷ after) in absurd (omega (arith, n, m))

pub valid_alone : (b : BlockText) → IsLawful b → IsValid (b ∷ [])
valid_alone b h = record { rules = (h.rules, tt); names = λ before c after e name is. none_before b before c after name e }

pub file_alone : (b : BlockText) → IsLawful b → IsFile (text_of (b ∷ [])) (b ∷ [])
file_alone b h = record { shaped = (h.shaped, tt); text = refl }

abbrev ReadsBack : BlockText → Type 0
ReadsBack b = IsValid (b ∷ []) × IsFile (text_of (b ∷ [])) (b ∷ []) × ((bs : List BlockText) → IsFile (text_of (b ∷ [])) bs → bs ≡ b ∷ [])

pub all_read_back : IsOneList → (s : Machine) → Reached s → AllByRecursion (λ (x : Sentence). AllByRecursion ReadsBack (bodies_of x)) s.sentences
all_read_back u s r =
    all_mapped IsFine (λ (x : Sentence). AllByRecursion ReadsBack (bodies_of x))
    (λ x h. all_mapped IsLawful ReadsBack (λ b k. (valid_alone b k, file_alone b k, λ bs f. u (text_of (b ∷ [])) bs (b ∷ []) f (file_alone b k))) (bodies_of x) h.lawful) s.sentences (well s r).fine
