-- A text is a pattern or is none: what regex's grammar reads in it tells which.
use Rattle.std.proofs.Common.{◌≤◌, ◌⊎◌, ⊎_elim, inl, inr, ℕ, List, Bool, true, false, Option, None, Some, IsSomeAnd, arith}
use Rattle.std.proofs.lemmas.Bool.{cases_lt}
use Rattle.regex_syntax.specs.Grammar.{Names}
use Rattle.regex_syntax.specs.Brackets.{Nested}
use Rattle.regex.specs.Patterns.{Re, default_config}
use Rattle.tb_syntax.specs.declared.lexeme.Flag.{Flag}
use Rattle.tb_syntax.specs.declared.lexeme.Flag.TheVariants.{Plain, NoCase, Literal}
use Rattle.tb_literal.specs.Literals.{IsAccepted}
use Rattle.tb_literal.specs.Patterns.{IsPattern, IsWhole, read_pattern, wrapped}

abbrev IsOrNot : Type 0 → Type 0
IsOrNot A = A ⊎ (A → ⊥)

at_most : (n m : ℕ) → IsOrNot (n ≤ m)
at_most n m = ⊎_elim (λ lt. inr (λ le. omega arith)) (λ le. inl le) (cases_lt m n)

of_some : {A : Type 0} (o : Option A) (P : A → Type 0) → ((x : A) → IsOrNot (P x)) → IsOrNot (IsSomeAnd o P)
of_some None P f = inr (λ h. h)
of_some (Some x) P f = f x

of_both : (A B : Type 0) → IsOrNot A → IsOrNot B → IsOrNot (A × B)
of_both A B (inl a) (inl b) = inl (a, b)
of_both A B (inl a) (inr not) = inr (λ h. not h.1)
of_both A B (inr not) b = inr (λ h. not h.0)

is_pattern : (text : List ℕ) → IsOrNot (IsPattern text)
unfolding IsPattern
is_pattern text = of_some (read_pattern text) (λ (x : Nested Re × Names). x.0.depth ≤ default_config.nest_limit) (λ x. at_most x.0.depth default_config.nest_limit)

is_whole : (no_case : Bool) (text : List ℕ) → IsOrNot (IsWhole no_case text)
is_whole no_case text = of_both (IsPattern text) (IsPattern (wrapped no_case text)) (is_pattern text) (is_pattern (wrapped no_case text))

pub accepted_or_refused : (flag : Flag) (text : List ℕ) → IsAccepted flag text ⊎ (IsAccepted flag text → ⊥)
accepted_or_refused Plain text = is_whole false text
accepted_or_refused NoCase text = is_whole true text
accepted_or_refused Literal text = inl tt
