-- What a sink holds that took one text and a part of the next.
use Rattle.std.proofs.Common.{◌≡◌, ℕ, zero, suc, ◌+◌, List, [], ◌∷◌, ◌++◌, length, take, Option, refl, ap, sym, subst}
use Rattle.std.specs.Io.KnownBytes.{Appends}
use Rattle.std.proofs.KnownBytes.{Appends-trans}
use Rattle.std.proofs.Math.Seq.{take-append-add}
use Rattle.tb_conllu.specs.Sunk.{AppendsPart}
use Rattle.tb_http.specs.declared.status.Status.{Status}
use Rattle.tb_answer.specs.Responses.{IsSent}

-- a part of the first of two texts is a part of both
in_first : (k : ℕ) (xs ys : List ℕ) → (j : ℕ) × (take j (xs ++ ys) ≡ take k xs)
in_first zero xs ys = (0, refl)
in_first (suc k) [] ys = (0, refl)
in_first (suc k) (x ∷ xs) ys = let rest = in_first k xs ys in (suc rest.0, ap (λ zs. x ∷ zs) rest.1)

pub part_of_first : (old new : Option (List ℕ)) (xs ys : List ℕ) → AppendsPart old new xs → AppendsPart old new (xs ++ ys)
part_of_first old new xs ys part =
    let it = in_first part.0 xs ys in
    (it.0, subst (Appends old new) (sym it.1) part.1)

pub part_of_second : (old mid new : Option (List ℕ)) (xs ys : List ℕ) → Appends old mid xs → AppendsPart mid new ys → AppendsPart old new (xs ++ ys)
part_of_second old mid new xs ys first part =
    (length xs + part.0, subst (Appends old new) (sym (take-append-add xs ys part.0)) (Appends-trans old mid new xs (take part.0 ys) first part.1))

pub same_sent : {Reason : Type 0} (old new : Option (List ℕ)) (a head b body : List ℕ) (k status : Status) (is_refusal : Reason → Type 0) (reported : Option Status)
    → a ≡ head → b ≡ body → k ≡ status → IsSent old new (a ++ b) k is_refusal reported → IsSent old new (head ++ body) status is_refusal reported
same_sent old new a head b body k status is_refusal reported heads bodies codes sent =
    let one = subst (λ (x : List ℕ). IsSent old new (x ++ b) k is_refusal reported) heads sent in
    let two = subst (λ (x : List ℕ). IsSent old new (head ++ x) k is_refusal reported) bodies one in
    subst (λ (x : Status). IsSent old new (head ++ body) x is_refusal reported) codes two
