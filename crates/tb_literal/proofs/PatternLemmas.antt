-- From regex's contracts to the words of specs/Pattern.
use Rattle.std.proofs.Common.{◌≡◌, ◌≢◌, ◌≤◌, ◌<◌, inl, inr, ℕ, List, Option, None, Some, IsSomeAnd, IfSome, arith, refl, is_some, true, ap, ◌∙◌}
use Rattle.std.specs.Prelude.{⊤}
use Rattle.regex_hir.specs.declared.hir.Hir.{Hir}
use Rattle.regex_syntax.specs.Verdict.{Reads, Refuses}
use Rattle.regex_syntax.specs.Grammar.{Names}
use Rattle.regex_syntax.specs.Brackets.{Nested}
use Rattle.regex_syntax.specs.declared.error.ErrorKind.{ErrorKind}
use Rattle.regex_syntax.specs.declared.error.ErrorKind.TheVariants.{OutOfMemory}
use Rattle.regex.specs.Patterns.{Re, find_str, default_config}
use Rattle.regex.specs.Strings.{regex_pattern, regex_source, regex_config, IsReadFromSource}
use Rattle.regex_syntax.specs.declared.Config.{Config}
use Rattle.regex.specs.Views.{builder_config, with_size_limit}
use Rattle.regex.specs.Sources.{IsRefusal}
use Rattle.regex.specs.Failures.{IsRightKind}
use Rattle.regex.specs.declared.error.Error.{Error}
use Rattle.regex.specs.declared.error.Error.TheVariants as regex
use Rattle.regex.specs.declared.builder.RegexBuilder.{RegexBuilder}
use Rattle.regex.specs.declared.string.regex.Regex.{Regex}
use Rattle.regex.proofs.OnLiterals.{is_match_as_written, same_refl}
use Rattle.tb_literal.specs.Patterns.{IsPattern, read_pattern, tree_finds, finds}
use Rattle.tb_literal.specs.Built.{Means}
use Rattle.tb_literal.specs.Refused.{fault_of_error}
use Rattle.tb_literal.specs.declared.pattern.PatternFault.TheVariants as fault

-- what holds of a value, if there is one
pub weaker : {A : Type 0} (o : Option A) (P Q : A → Type 0) → ((x : A) → P x → Q x) → IsSomeAnd o P → IsSomeAnd o Q
weaker None P Q f h = absurd h
weaker (Some x) P Q f h = f x h

-- what was read is a pattern
pub pattern_of_reads : (source : List ℕ) (hir : Hir) (names : Names) → Reads default_config source hir names → IsPattern source
unfolding Reads IsPattern
pattern_of_reads source hir names = weaker (read_pattern source) _ _ (λ x h. h.0)

too_deep : {A : Type 0} (o : Option A) (depth : A → ℕ) (most : ℕ) → IfSome o (λ x. most < depth x) → IsSomeAnd o (λ x. depth x ≤ most) → ⊥
too_deep None depth most h k = k
too_deep (Some x) depth most h k = omega arith

none_holds : {A : Type 0} (o : Option A) (P : A → Type 0) → o ≡ None → IsSomeAnd o P → ⊥
none_holds None P e h = h
none_holds (Some x) P e h = cc

-- a limit of size changes no option
pub limited : (made entry : RegexBuilder) (most : ℕ) → made ≡ with_size_limit entry most → builder_config entry ≡ default_config →
    record (builder_config made) { utf8 = true } ≡ default_config
limited made entry most e d = ap (λ (b : RegexBuilder). record (builder_config b) { utf8 = true }) e ∙ ap (λ (g : Config). record g { utf8 = true }) d

-- what was refused, not for memory, is none
pub outside_of_refuses : (source : List ℕ) (kind : ErrorKind) → Refuses default_config source kind → kind ≢ OutOfMemory → IsPattern source → ⊥
unfolding Refuses IsPattern
outside_of_refuses source kind (inl m) n p = n m
outside_of_refuses source kind (inr (inl none)) n p = none_holds (read_pattern source) _ none p
outside_of_refuses source kind (inr (inr deep)) n p =
    too_deep (read_pattern source) (λ x. x.0.depth) 250 deep.1 p

-- what the builder refuses as outside the grammar is none
pub outside_by : (source : List ℕ) (error : Error) → IsRefusal default_config source error → IsRightKind default_config source error →
    fault_of_error error ≡ fault.Syntax → IsPattern source → ⊥
outside_by source (regex.Syntax e) grammar right syntax p = outside_of_refuses source e.kind (grammar e refl) right p
outside_by source regex.CompiledTooBig grammar right syntax p = cc
outside_by source regex.Internal grammar right syntax p = cc
outside_by source regex.OutOfMemory grammar right syntax p = cc

finds_by : (o : Option (Nested Re × Names)) (value : List ℕ) (b : _) → IsSomeAnd o (λ _. ⊤) →
    ((x : Nested Re × Names) → o ≡ Some x → b ≡ is_some (find_str x.0.value value 0)) → b ≡ tree_finds o value
finds_by None value b h f = absurd h
finds_by (Some x) value b h f = f x refl

-- a search by the built pattern is the search by what its text is read as
pub means_as_built : (r : Regex) (source : List ℕ) → regex_source r ≡ source → regex_config r ≡ default_config → IsReadFromSource r →
    IsPattern source → Means (regex_pattern r) source
unfolding finds IsPattern
means_as_built r source is_source is_config is_read p = record {
  at = λ value bytes. finds_by (read_pattern source) value _ (weaker (read_pattern source) _ _ (λ x h. tt) p)
      (λ x e. is_match_as_written r source x.0.value is_source is_config is_read (rw e (same_refl _)) value bytes 0);
}
