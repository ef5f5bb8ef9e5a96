-- Literals that are no patterns.
use Rattle.std.proofs.Common.{◌≡◌, ◌++◌, ◌∷◌, [], ◌∙◌, ℕ, List, Option, None, Some, Bor, IfSome, MatchOption, ap, refl, drop, subst, sym}
use Rattle.std.specs.Str.{IsCharBoundary}
use Rattle.regex_syntax.specs.Verdict.{Refuses, default_config}
use Rattle.regex_syntax.specs.declared.error.ErrorKind.{ErrorKind}
use Rattle.regex_syntax.specs.declared.error.ErrorKind.TheVariants.{OutOfMemory}
use Rattle.tb_literal.specs.Patterns.{IsPattern}
use Rattle.tb_literal.proofs.PatternLemmas.{outside_of_refuses}
use Rattle.tb_words.specs.QueryPatterns.{IsBetween, SaysSign, SaysStop, byte_of, left_out}

-- what was refused, not for memory, is no pattern
pub no_pattern : (text : List ℕ) (kind : ErrorKind) (place : Option ℕ) → Refuses default_config text kind
    → IfSome place (λ _. kind ≡ OutOfMemory → ⊥) → IfSome place (λ _. IsPattern text → ⊥)
no_pattern text kind None refuses other = tt
no_pattern text kind (Some at) refuses other = outside_of_refuses text kind refuses other

pub at_boundary : (text : List ℕ) (at : ℕ) (place : Option ℕ) → IsCharBoundary text at → IfSome place (λ p. p ≡ at)
    → IfSome place (λ p. IsCharBoundary text p)
at_boundary text at None cut is = tt
at_boundary text at (Some p) cut is = subst (λ (n : ℕ). IsCharBoundary text n) (sym is) cut

pub between_quotes : (literal rest : List ℕ) (quote : ℕ) (inside : Option (Bor (List ℕ))) → literal ≡ quote ∷ rest
    → MatchOption inside ((front : List ℕ) → rest ≡ front ++ (quote ∷ []) → ⊥) (λ x. rest ≡ x.now ++ (quote ∷ []))
    → IfSome inside (λ x. literal ≡ quote ∷ (x.now ++ (quote ∷ [])))
between_quotes literal rest quote None first last = tt
between_quotes literal rest quote (Some x) first last = first ∙ ap (λ (bs : List ℕ). quote ∷ bs) last

pub between_single : (literal : List ℕ) (inside : Option (Bor (List ℕ)))
    → IfSome inside (λ x. literal ≡ 39 ∷ (x.now ++ (39 ∷ []))) → IfSome inside (λ x. IsBetween literal x.now)
between_single literal None is = tt
between_single literal (Some x) is = (39, refl, is)

-- what is said of what regex leaves out, and of a sign
abbrev Stopping : (text : List ℕ) (at : ℕ) (said : List ℕ) → Option (List ℕ) → Type 0
Stopping text at said o = MatchOption o (SaysSign text at (byte_of (drop at text) 0) said) (λ known. said ≡ known)

pub says_known : (text rest said : List ℕ) (at : ℕ) → rest ≡ drop at text → Some said ≡ left_out rest → SaysStop text at said
says_known text rest said at is known =
    subst (λ (o : Option (List ℕ)). Stopping text at said o) (known ∙ ap (λ (bs : List ℕ). left_out bs) is) refl

pub says_sign : (text rest said : List ℕ) (at sign : ℕ) → rest ≡ drop at text → None ≡ left_out rest → sign ≡ byte_of rest 0
    → SaysSign text at sign said → SaysStop text at said
says_sign text rest said at sign is none sign_is says =
    subst (λ (o : Option (List ℕ)). Stopping text at said o) (none ∙ ap (λ (bs : List ℕ). left_out bs) is)
    (subst (λ (b : ℕ). SaysSign text at b said) (sign_is ∙ ap (λ (bs : List ℕ). byte_of bs 0) is) says)
