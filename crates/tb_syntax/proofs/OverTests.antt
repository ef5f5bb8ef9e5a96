-- What takes no notice of the lexemes that may stand in a test goes over a test as over nothing.
use Rattle.std.proofs.Common.{◌≡◌, List, [], ◌∷◌, ◌++◌, Bool, true, false, refl, ◌∙◌, append_assoc}
use Rattle.tb_syntax.specs.declared.lexeme.Attr.TheVariants.{Feats}
use Rattle.tb_syntax.specs.declared.lexeme.Flag.{Flag}
use Rattle.tb_syntax.specs.declared.lexeme.Flag.TheVariants as flag
use Rattle.tb_syntax.specs.declared.lexeme.Lexeme.{Lexeme}
use Rattle.tb_syntax.specs.declared.lexeme.Lexeme.TheVariants.{LeftParen, RightParen, Bar, And, Not, Equals, Differs, PercentC, PercentL, Name, Contains, Quote}
use Rattle.tb_syntax.specs.Grammar.{flag_text, Sign, same, other, sign_lexeme, Test', one_conj, or_test, Conj, one_unit, and_conj, Unit', denied, grouped, compares, contains, test_text, conj_text, unit_text}

-- may stand in a test
abbrev pub in_test : Lexeme → Bool
in_test LeftParen = true
in_test RightParen = true
in_test Bar = true
in_test And = true
in_test Not = true
in_test Equals = true
in_test Differs = true
in_test PercentC = true
in_test PercentL = true
in_test (Name a) = true
in_test Contains = true
in_test (Quote k) = true
in_test _ = false

abbrev pub Skips : {X : Type 0} → (List Lexeme → X) → Type 0
Skips w = (l : Lexeme) (ls : List Lexeme) → in_test l ≡ true → w (l ∷ ls) ≡ w ls

skips_flag : {X : Type 0} (w : List Lexeme → X) → Skips w → (f : Flag) (rest : List Lexeme) → w (flag_text f ++ rest) ≡ w rest
skips_flag w s flag.Plain rest = refl
skips_flag w s flag.NoCase rest = s PercentC rest refl
skips_flag w s flag.Literal rest = s PercentL rest refl

skips_sign : {X : Type 0} (w : List Lexeme → X) → Skips w → (g : Sign) (rest : List Lexeme) → w (sign_lexeme g ∷ rest) ≡ w rest
skips_sign w s same rest = s Equals rest refl
skips_sign w s other rest = s Differs rest refl

mutual
  pub skips_test : {X : Type 0} (w : List Lexeme → X) → Skips w → (t : Test') (rest : List Lexeme) → w (test_text t ++ rest) ≡ w rest
  skips_test w s (one_conj c) rest = skips_conj w s c rest
  skips_test w s (or_test c t) rest =
      rw append_assoc (skips_conj w s c (Bar ∷ (test_text t ++ rest)) ∙ s Bar (test_text t ++ rest) refl ∙ skips_test w s t rest)

  skips_conj : {X : Type 0} (w : List Lexeme → X) → Skips w → (c : Conj) (rest : List Lexeme) → w (conj_text c ++ rest) ≡ w rest
  skips_conj w s (one_unit u) rest = skips_unit w s u rest
  skips_conj w s (and_conj u c) rest =
      rw append_assoc (skips_unit w s u (And ∷ (conj_text c ++ rest)) ∙ s And (conj_text c ++ rest) refl ∙ skips_conj w s c rest)

  skips_unit : {X : Type 0} (w : List Lexeme → X) → Skips w → (u : Unit') (rest : List Lexeme) → w (unit_text u ++ rest) ≡ w rest
  skips_unit w s (denied u) rest = s Not (unit_text u ++ rest) refl ∙ skips_unit w s u rest
  skips_unit w s (grouped t) rest =
      s LeftParen ((test_text t ++ RightParen ∷ []) ++ rest) refl
      ∙ rw append_assoc (skips_test w s t (RightParen ∷ rest) ∙ s RightParen rest refl)
  skips_unit w s (compares a g k f) rest =
      s (Name a) (sign_lexeme g ∷ Quote k ∷ (flag_text f ++ rest)) refl
      ∙ skips_sign w s g (Quote k ∷ (flag_text f ++ rest))
      ∙ s (Quote k) (flag_text f ++ rest) refl ∙ skips_flag w s f rest
  skips_unit w s (contains k f) rest =
      s (Name Feats) (Contains ∷ Quote k ∷ (flag_text f ++ rest)) refl
      ∙ s Contains (Quote k ∷ (flag_text f ++ rest)) refl
      ∙ s (Quote k) (flag_text f ++ rest) refl ∙ skips_flag w s f rest
