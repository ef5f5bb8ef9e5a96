-- Sentences that keep the rules and have different names are those of a valid file.
use Rattle.std.proofs.Common.{◌≡◌, List, [], ◌∷◌, ◌++◌, ℕ, sym, ◌∙◌, ap, subst}
use Rattle.std.specs.List.{AllByRecursion}
use Rattle.std.specs.Prelude.{unwrap_or}
use Rattle.tb_conllu.specs.Text.{BlockText}
use Rattle.tb_conllu.specs.Shape.{AllShaped}
use Rattle.tb_rules.specs.Comments.{only}
use Rattle.tb_rules.specs.Rules.{KeepsRules}
use Rattle.tb_rules.specs.File.{IsNamed, IsFree, IsValid}
use Rattle.tb_core.specs.Names.{Lacks, AreApart}
use Rattle.tb_core.specs.Machine.{sent_id_of, IsLawful}
use Rattle.tb_core.specs.Acts.{ids_in}

pub shaped_of : (bs : List BlockText) → AllByRecursion IsLawful bs → AllShaped bs
shaped_of [] h = tt
shaped_of (b ∷ bs) h = (h.0.shaped, shaped_of bs h.1)

pub kept_of : (bs : List BlockText) → AllByRecursion IsLawful bs → AllByRecursion KeepsRules bs
kept_of [] h = tt
kept_of (b ∷ bs) h = (h.0.rules, kept_of bs h.1)

named_is : (b : BlockText) (name : List ℕ) → IsNamed b name → sent_id_of b ≡ name
named_is b name h = ap (λ (l : List (List ℕ)). unwrap_or (only l) []) h

lacks_one : (before : List BlockText) (b : BlockText) (after : List BlockText) (id : List ℕ) → Lacks (ids_in (before ++ b ∷ after)) id → id ≡ sent_id_of b → ⊥
lacks_one [] b after id h = h.0
lacks_one (c ∷ before) b after id h = lacks_one before b after id h.1

free_before : (before : List BlockText) (b : BlockText) (after : List BlockText) (name : List ℕ) → AreApart (ids_in (before ++ b ∷ after)) → IsNamed b name → IsFree before name
free_before [] b after name h is = tt
free_before (c ∷ before) b after name h is = (λ k. lacks_one before b after (sent_id_of c) h.0 (named_is c name k ∙ sym (named_is b name is)), free_before before b after name h.1 is)

pub valid_of : (bs : List BlockText) → AllByRecursion KeepsRules bs → AreApart (ids_in bs) → IsValid bs
valid_of bs kept apart = record { rules = kept; names = λ before b after e name is. free_before before b after name (subst (λ l. AreApart (ids_in l)) e apart) is }
