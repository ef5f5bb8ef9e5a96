-- Values in the words of a command line: each takes a word, and what is first wrong of the rest is first wrong of all.
use Rattle.std.proofs.Common.{◌≡◌, ◌≤◌, ◌+◌, ◌∙◌, ℕ, List, [], ◌∷◌, codes, length, min, true, Bor, string_bytes, Option, None, Some, IfSome, MatchOption, refl, sym, ap, subst, inl, inr, arith}
use native.Mathlib.Numerals.{unary_clauses}
use Rattle.std.specs.Global.{Global}
use Rattle.std.specs.declared.string.String.{String}
use Rattle.tb_host.specs.Forms.{HasForm, IsPlaceOf}
use Rattle.tb_host.specs.Words.{HasNoValue, IsAtOption, IsFirstWrong, IsNext, IsOption, IsOptionValue, IsPlain, IsWord, later}
use Rattle.tb_host.specs.declared.causes.Form.{Form}
use Rattle.tb_host.specs.declared.wrong.Given.{Given}
use Rattle.tb_host.specs.declared.wrong.Values.{Values}

word_taken : (words others : List (String Global)) (word : List ℕ) → IsWord words others word → length others + 1 ≡ length words
word_taken words others word h = simp unary_clauses (sym (ap length h.1))

option_taken : (word : List ℕ) (words others : List (String Global)) (name value : List ℕ) → IsOptionValue word words others name value → length others ≤ length words
option_taken word words others name value (inl h) = omega (arith, ap length h.1)
option_taken word words others name value (inr (h, inl w)) = omega (arith, word_taken words others value w)
option_taken word words others name value (inr (h, inr w)) = omega (arith, ap length w.0, ap length w.1)

at_option_taken : (word : List ℕ) (old new : Values) (given : Given) → IsAtOption word old new given → length new.words.now ≤ length old.words.now
at_option_taken word old new given (inl h) = omega (arith, word_taken _ _ _ h.2)
at_option_taken word old new given (inr h) = option_taken _ _ _ _ _ h.2

pub takes_a_word : (old new : Values) (given : Given) → IsNext old new given → length new.words.now + 1 ≤ length old.words.now
takes_a_word old new given (same, inl h) = omega (arith, word_taken old.words.now new.words.now given.value.now h.2)
takes_a_word old new given (same, inr h) = omega (arith, word_taken old.words.now h.1.words.now h.0 h.3, at_option_taken h.0 h.1 new given h.7)

pub none_left : (words : List (String Global)) → length words ≤ 0 → words ≡ []
none_left [] h = refl
none_left (word ∷ words) h = absurd (omega (arith, h, word_taken (word ∷ words) words (string_bytes word) (word, refl, refl)))

-- a value after a word that changed nothing else
abbrev pub AreSame : (old new : Values) → Type 0
AreSame old new = (new.command ≡ old.command) × (new.before ≡ old.before) × (new.has_options ≡ old.has_options)

pub plain_so : (old mid new : Values) (given : Given) → AreSame old mid → IsPlaceOf mid.command.now mid.before given.name.now given.form
    → new.before ≡ min (mid.before + 1) 18446744073709551615 → IsPlain old new given
plain_so old mid new given same place before = (
  subst (λ b. IsPlaceOf old.command.now b given.name.now given.form) same.1 (subst (λ (k : Bor (List ℕ)). IsPlaceOf k.now mid.before given.name.now given.form) same.0 place),
  subst (λ b. new.before ≡ min (b + 1) 18446744073709551615) same.1 before,
)

pub word_so : (words : List (String Global)) (mid others : Bor (List (String Global))) (word value : Bor (List ℕ)) → IsWord words mid.now word.now → others ≡ mid → value ≡ word → IsWord words others.now value.now
word_so words mid others word value h same is = subst (λ (v : Bor (List ℕ)). IsWord words others.now v.now) (sym is) (subst (λ (w : Bor (List (String Global))). IsWord words w.now word.now) (sym same) h)

pub at_option_next : (r : Option Given) (word : List ℕ) (old mid new : Values) → IsOption mid word → IsWord old.words.now mid.words.now word → AreSame old mid → new.command ≡ mid.command
    → MatchOption r ((word ≡ codes "--") × (mid.words.now ≡ [])) (IsAtOption word mid new) → MatchOption r (HasNoValue old) (IsNext old new)
at_option_next None word old mid new option is same command h = inr (
  sym same.2 ∙ option.0,
  subst (λ m. IsWord old.words.now m (codes "--")) h.1 (subst (λ w. IsWord old.words.now mid.words.now w) h.0 is),
)
at_option_next (Some given) word old mid new option is same command h = (
  ap (λ (k : Bor (List ℕ)). k.now) (command ∙ same.0),
  inr (word, mid, (sym same.2 ∙ option.0, option.1), is, ap (λ (k : Bor (List ℕ)). k.now) same.0, same.1, same.2, h),
)

-- what is first wrong from a place on is so from the start of the words
abbrev pub FirstFrom : (command : List ℕ) (words : List (String Global)) (at : Values) → Type 0
FirstFrom command words at = (start : Values) × (start.command.now ≡ command) × (start.words.now ≡ words) × (start.before ≡ 0)
    × (start.has_options ≡ true) × ((r : Option (Given × Form)) → IsFirstWrong at r → IsFirstWrong start r)

pub so_first : (command : List ℕ) (words : List (String Global)) (at : Values) → FirstFrom command words at → (r : Option (Given × Form)) → IsFirstWrong at r
    → (start : Values) × (start.command.now ≡ command) × (start.words.now ≡ words) × (start.before ≡ 0) × (start.has_options ≡ true) × IsFirstWrong start r
so_first command words at h r is = (h.0, h.1, h.2, h.3, h.4, h.5 r is)

pub first_on : (command : List ℕ) (words : List (String Global)) (at after : Values) (given : Given) → FirstFrom command words at → IsNext at after given
    → IfSome given.form (λ form. HasForm form given.value.now) → FirstFrom command words after
first_on command words at after given h next right = (h.0, h.1, h.2, h.3, h.4, λ r is. h.5 r (later at after given r next right is))
