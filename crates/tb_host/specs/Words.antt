-- Inner: no contract beyond this crate cites a definition of this module.
-- The values in the words of a command line, one after another, and the first that does not have its form.
use Rattle.std.specs.Prelude.{◌≡◌, ◌≢◌, ◌⊎◌, ◌++◌, ◌+◌, ℕ, List, [], ◌∷◌, codes, min, true, false, string_bytes, IfSome, Option, None, Some}
use Rattle.std.specs.Global.{Global}
use Rattle.std.specs.declared.string.String.{String}
use Rattle.tb_host.specs.Contents.{BeginsWith}
use Rattle.tb_host.specs.Forms.{HasForm, IsFormOfOption, IsPlaceOf}
use Rattle.tb_host.specs.declared.causes.Form.{Form}
use Rattle.tb_host.specs.declared.wrong.Given.{Given}
use Rattle.tb_host.specs.declared.wrong.Values.{Values}

-- This is the first word, and those are the others.
abbrev pub IsWord : (words others : List (String Global)) → (word : List ℕ) → Type 0
IsWord words others word = (first : String Global) × (words ≡ first ∷ others) × (word ≡ string_bytes first)

-- The value of an option stands in its word after `=`, or is the next word. At the end it is empty.
abbrev pub IsOptionValue : (word : List ℕ) → (words others : List (String Global)) → (name value : List ℕ) → Type 0
IsOptionValue word words others name value = ((word ≡ name ++ 61 ∷ value) × (others ≡ words))
    ⊎ ((name ≡ word) × (IsWord words others value ⊎ ((words ≡ []) × (others ≡ []) × (value ≡ []))))

-- no value is left
abbrev pub HasNoValue : Values → Type 0
HasNoValue at = (at.words.now ≡ []) ⊎ ((at.has_options ≡ true) × IsWord at.words.now [] (codes "--"))

-- A value without an option, of which there is one more.
abbrev pub IsPlain : (old new : Values) → Given → Type 0
IsPlain old new given = IsPlaceOf old.command.now old.before given.name.now given.form
    × (new.before ≡ min (old.before + 1) 18446744073709551615)

-- The value at a word with `--` in front: that of the option, or after the word `--`, which ends the options, the next.
abbrev pub IsAtOption : (word : List ℕ) → (old new : Values) → Given → Type 0
IsAtOption word old new given = ((word ≡ codes "--") × (new.has_options ≡ false)
    × IsWord old.words.now new.words.now given.value.now × IsPlain old new given)
    ⊎ ((word ≢ codes "--") × (new.has_options ≡ old.has_options)
    × IsOptionValue word old.words.now new.words.now given.name.now given.value.now
    × IsFormOfOption given.name.now given.form × (new.before ≡ old.before))

-- The word is an option, where it may be one.
abbrev pub IsOption : (at : Values) → (word : List ℕ) → Type 0
IsOption at word = (at.has_options ≡ true) × BeginsWith word (codes "--")

-- The next value, and what is left after it.
abbrev pub IsNext : (old new : Values) → Given → Type 0
IsNext old new given = (new.command.now ≡ old.command.now)
    × (((¬ IsOption old given.value.now) × (new.has_options ≡ old.has_options)
    × IsWord old.words.now new.words.now given.value.now × IsPlain old new given)
    ⊎ ((word : List ℕ) × (mid : Values) × IsOption old word × IsWord old.words.now mid.words.now word
    × (mid.command.now ≡ old.command.now) × (mid.before ≡ old.before) × (mid.has_options ≡ old.has_options)
    × IsAtOption word mid new given))

-- The first value that does not have its form, with that form.
pub data IsFirstWrong : Values → Option (Given × Form) → Type 0 where
  none : (at : Values) → HasNoValue at → IsFirstWrong at None
  here : (at after : Values) (given : Given) (form : Form)
      → IsNext at after given → given.form ≡ Some form → ¬ HasForm form given.value.now
      → IsFirstWrong at (Some (given, form))
  later : (at after : Values) (given : Given) (wrong : Option (Given × Form))
      → IsNext at after given → IfSome given.form (λ form. HasForm form given.value.now)
      → IsFirstWrong after wrong → IsFirstWrong at wrong
