-- The first fault of a file is the one that is reported.
use Rattle.std.proofs.Common.{◌≡◌, inl, inr, ℕ, ◌+◌, List, [], ◌∷◌, ◌++◌, length, map, refl, sym, subst, append_assoc, append-nil}
use Rattle.tb_conllu.specs.FaultyLines.{AreFaultyLines}
use Rattle.tb_conllu.specs.Reported.{IsFile, IsReported}
use Rattle.tb_conllu.specs.Text.{BlockText}
use Rattle.tb_conllu.specs.declared.faulty.FaultyLine.{FaultyLine}
use Rattle.tb_rules.specs.Broken.{AreBrokenAfter}
use Rattle.tb_rules.specs.File.{IsFaultAt, IsValid}
use Rattle.tb_rules.specs.declared.breaking.BrokenRule.{BrokenRule}
use Rattle.tb_check.specs.Faults.{AreFaults, AreSentenceFaults, at_line, in_sentence}
use Rattle.tb_check.specs.declared.fault.Fault.{Fault}
use Rattle.tb_check.specs.declared.fault.Fault.TheVariants.{Line, Rule}

-- laws of the crates below
pub record Laws : Type 0 where
  pub no_line : (f : List ℕ) → AreFaultyLines f [] → (bs : List BlockText) × IsFile f bs
  pub first_line : (f : List ℕ) (x : FaultyLine) (more : List FaultyLine) → AreFaultyLines f (x ∷ more) → IsReported f x.line x.code
  pub one_list : (f : List ℕ) (bs cs : List BlockText) → IsFile f bs → IsFile f cs → bs ≡ cs
  pub begin : IsValid []
  pub no_rule : (before : List BlockText) (b : BlockText) → IsValid before → AreBrokenAfter before b [] → IsValid (before ++ b ∷ [])
  pub first_rule : (before : List BlockText) (b : BlockText) (after : List BlockText) (x : BrokenRule) (more : List BrokenRule) → IsValid before → AreBrokenAfter before b (x ∷ more)
      → IsFaultAt (before ++ b ∷ after) (length before + 1) x.rule x.row
  pub not_valid : (bs : List BlockText) (sentence rule row : ℕ) → IsFaultAt bs sentence rule row → IsValid bs → ⊥

none_here : (n : ℕ) (broken : List BrokenRule) (rest : List Fault) → [] ≡ map (in_sentence n) broken ++ rest → (broken ≡ []) × (rest ≡ [])
none_here n [] rest e = (refl, sym e)
none_here n (x ∷ broken) rest e = absurd cc

-- sentences without a fault are valid
none_told : Laws → (before bs : List BlockText) → IsValid before → AreSentenceFaults before bs [] → IsValid (before ++ bs)
none_told laws before [] v h = subst IsValid (sym (append-nil before)) v
none_told laws before (b ∷ bs) v h =
    let none = none_here (length before + 1) h.0 h.1 h.3 in
    let here : AreBrokenAfter before b [] = subst (AreBrokenAfter before b) none.0 h.2 in
    let rest : AreSentenceFaults (before ++ b ∷ []) bs [] = subst (AreSentenceFaults (before ++ b ∷ []) bs) none.1 h.4 in
    subst IsValid (append_assoc before (b ∷ []) bs) (none_told laws (before ++ b ∷ []) bs (laws.no_rule before b v here) rest)

-- this fault is that of the first sentence at fault
record IsFirst (bs : List BlockText) (x : Fault) : Type 0 where
  pub sentence : ℕ
  pub rule : ℕ
  pub row : ℕ
  pub is : x ≡ Rule sentence rule row
  pub at : IsFaultAt bs sentence rule row

first_told : Laws → (before bs : List BlockText) (x : Fault) (more : List Fault) → IsValid before → AreSentenceFaults before bs (x ∷ more) → IsFirst (before ++ bs) x
first_told laws before [] x more v h = absurd (let none : x ∷ more ≡ [] = h in cc)
first_told laws before (b ∷ bs) x more v ([], rest, here, e, later) =
    let after : AreSentenceFaults (before ++ b ∷ []) bs (x ∷ more) = subst (AreSentenceFaults (before ++ b ∷ []) bs) (sym e) later in
    let P : List BlockText → Type 0 = λ l. IsFirst l x in
    subst P (append_assoc before (b ∷ []) bs) (first_told laws (before ++ b ∷ []) bs x more (laws.no_rule before b v here) after)
first_told laws before (b ∷ bs) x more v (y ∷ ys, rest, here, e, later) =
    let same : x ≡ Rule (length before + 1) y.rule y.row = head_is x (in_sentence (length before + 1) y) more (map (in_sentence (length before + 1)) ys ++ rest) e in
    record { sentence = length before + 1; rule = y.rule; row = y.row; is = same; at = laws.first_rule before b bs y ys v here }
  where
    head_is : (a c : Fault) (xs zs : List Fault) → a ∷ xs ≡ c ∷ zs → a ≡ c
    head_is a c xs zs eq = cc

pub line_first : Laws → (f : List ℕ) (line code : ℕ) (more : List Fault) → AreFaults f (Line line code ∷ more) → IsReported f line code
line_first laws f line code more (inl h) =
    let first = first_told laws [] h.0 (Line line code) more laws.begin h.2 in
    absurd (let never = first.is in cc)
line_first laws f line code more (inr (none, ([], are, e))) = absurd (let never : Line line code ∷ more ≡ [] = e in cc)
line_first laws f line code more (inr (none, (y ∷ ys, are, e))) =
    let whole : Line line code ∷ more ≡ Line y.line y.code ∷ map at_line ys = e in
    let number : y.line ≡ line = cc in
    let least : y.code ≡ code = cc in
    let P : ℕ → Type 0 = λ n. IsReported f n y.code in
    let Q : ℕ → Type 0 = IsReported f line in
    subst Q least (subst P number (laws.first_line f y ys are))

pub rule_first : Laws → (f : List ℕ) (sentence rule row : ℕ) (more : List Fault) → AreFaults f (Rule sentence rule row ∷ more)
    → (bs : List BlockText) × IsFile f bs × IsFaultAt bs sentence rule row
rule_first laws f sentence rule row more (inl h) =
    let first = first_told laws [] h.0 (Rule sentence rule row) more laws.begin h.2 in
    let is = first.is in
    let s : first.sentence ≡ sentence = cc in
    let r : first.rule ≡ rule = cc in
    let w : first.row ≡ row = cc in
    let P : ℕ → Type 0 = λ n. IsFaultAt h.0 n first.rule first.row in
    let Q : ℕ → Type 0 = λ n. IsFaultAt h.0 sentence n first.row in
    let R : ℕ → Type 0 = IsFaultAt h.0 sentence rule in
    (h.0, h.1, subst R w (subst Q r (subst P s first.at)))
rule_first laws f sentence rule row more (inr (none, ([], are, e))) = absurd (let never : Rule sentence rule row ∷ more ≡ [] = e in cc)
rule_first laws f sentence rule row more (inr (none, (y ∷ ys, are, e))) = absurd (let never : Rule sentence rule row ∷ more ≡ Line y.line y.code ∷ map at_line ys = e in cc)

pub none_at_all : Laws → (f : List ℕ) → AreFaults f [] → (bs : List BlockText) × IsFile f bs × IsValid bs
none_at_all laws f (inl h) = (h.0, h.1, none_told laws [] h.0 laws.begin h.2)
none_at_all laws f (inr (none, ([], are, e))) = let file = laws.no_line f are in absurd (none file.0 file.1.shaped file.1.text)
none_at_all laws f (inr (none, (y ∷ ys, are, e))) = absurd (let never : [] ≡ Line y.line y.code ∷ map at_line ys = e in cc)

pub valid_none : Laws → (f : List ℕ) (bs : List BlockText) (faults : List Fault) → IsFile f bs → IsValid bs → AreFaults f faults → faults ≡ []
valid_none laws f bs [] file v h = refl
valid_none laws f bs (x ∷ more) file v (inl h) =
    let first = first_told laws [] h.0 x more laws.begin h.2 in
    absurd (laws.not_valid h.0 first.sentence first.rule first.row first.at (subst IsValid (laws.one_list f bs h.0 file h.1) v))
valid_none laws f bs (x ∷ more) file v (inr h) = absurd (h.0 bs file.shaped file.text)
