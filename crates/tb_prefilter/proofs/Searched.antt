-- Bytes that are found nowhere in a text do not stand in it, and those that are found do.
use Rattle.std.proofs.Common.{◌≡◌, ◌+◌, ℕ, List, [], ◌∷◌, ◌++◌, Option, None, Some, true, length, slice_index, is_none, is_some, take, drop, take-append-drop, sym, ap, ◌∙◌, subst, arith, length-append}
use Rattle.std.proofs.lemmas.Bool.{false≢true}
use Rattle.std.proofs.lemmas.Grind.{common_steps}
use Rattle.std.proofs.lemmas.List.{append_assoc}
use Rattle.memchr.specs.Find.{OccursAt, FindsNeedle}
use Rattle.memchr.proofs.lemmas.MatchLemmas.{OccursAt-split}
use Rattle.tb_conllu.specs.Text.{BlockText}
use Rattle.tb_conllu.specs.Reported.{IsFile}
use Rattle.tb_match.specs.declared.strategy.Strategy.{Strategy}
use Rattle.tb_query.specs.Search.{Asked, AreHitsIn, Finds}
use Rattle.tb_prefilter.specs.Needed.{IsSubstring, IsNeeded}
use Rattle.tb_prefilter.proofs.Needed.{none_found}

pub occurs : (n text : List ℕ) → IsSubstring n text → (k : ℕ) × OccursAt text n k
occurs n text s =
    let long = ap length s.cut ∙ length-append (s.before ++ n) s.after in
    let first = length-append s.before n in (
      length s.before,
      record {
        fits = omega (arith, long, first);
        reads = λ j lt. ap (λ t. slice_index t (length s.before + j)) s.cut ∙ grind (arith, common_steps);
      },
    )

pub no_hit : (s : Strategy) (q : Asked) (b : BlockText) (n body : List ℕ) → IsNeeded q n → IsFile body (b ∷ []) → FindsNeedle body n 0 None → AreHitsIn s q b []
no_hit s q b n body needed_here file nowhere =
    none_found s (Finds q b) (λ i j found.
    let (k, at) = occurs n body (subst (IsSubstring n) (sym file.text) (needed_here.there b file.shaped.0.rows i j found)) in
    nowhere k (omega arith) (omega (arith, at.fits)) at)

is_none_none : (r : Option ℕ) → is_none r ≡ true → r ≡ None
is_none_none None h = cc
is_none_none (Some k) h = absurd (cc)

pub no_hit_by : (s : Strategy) (q : Asked) (b : BlockText) (n body : List ℕ) (r : Option ℕ) → is_none r ≡ true → FindsNeedle body n 0 r → IsNeeded q n → IsFile body (b ∷ []) → AreHitsIn s q b []
no_hit_by s q b n body r none found needed_here file = no_hit s q b n body needed_here file (subst (FindsNeedle body n 0) (is_none_none r none) found)

pub found_in : (n body : List ℕ) (r : Option ℕ) → is_some r ≡ true → FindsNeedle body n 0 r → IsSubstring n body
found_in n body None h found = absurd (false≢true h)
found_in n body (Some k) h found =
    record {
      before = take k body;
      after = drop (k + length n) body;
      cut = sym (take-append-drop k body) ∙ ap (λ l. take k body ++ l) (OccursAt-split body n k found.1) ∙ sym (append_assoc (take k body) n (drop (k + length n) body));
    }
