-- Inner: no contract beyond this crate cites a definition of this module.
-- The forms of values on a command line.
use Rattle.std.specs.Prelude.{◌≡◌, ◌≢◌, ◌⊎◌, ◌<◌, ℕ, List, [], length, get_or, codes, IsSome, Option, None, Some}
use Rattle.tb_http.specs.Forms.{attribute_of, base_of, context_of, event_of, most_of, number_of, port_of}
use Rattle.tb_http.specs.Forms.{requests_of, strategy_of}
use Rattle.tb_host.specs.declared.causes.Form.{Form}
use Rattle.tb_host.specs.declared.causes.Form.TheVariants as form

abbrev pub HasSlash : List ℕ → Type 0
HasSlash text = (k : ℕ) × (k < length text) × (get_or text k 0 ≡ 47)

-- a text has this form: that of a value of a request, where one has it too
abbrev pub HasForm : Form → List ℕ → Type 0
HasForm form.Batch text = (text ≢ []) × ¬ HasSlash text
HasForm form.Event text = IsSome (event_of text)
HasForm form.Number text = IsSome (number_of text)
HasForm form.Base text = IsSome (base_of text)
HasForm form.Most text = IsSome (most_of text)
HasForm form.Strategy text = IsSome (strategy_of text)
HasForm form.Context text = IsSome (context_of text)
HasForm form.Attribute text = IsSome (attribute_of text)
HasForm form.Port text = IsSome (port_of text)
HasForm form.Requests text = IsSome (requests_of text)

-- The form that the value of an option has to have. A path and a user may be any text.
abbrev pub IsFormOfOption : (name : List ℕ) → Option Form → Type 0
IsFormOfOption name (Some form.Strategy) = name ≡ codes "--strategy"
IsFormOfOption name (Some form.Context) = name ≡ codes "--context"
IsFormOfOption name (Some form.Number) = name ≡ codes "--rev"
IsFormOfOption name (Some form.Most) = name ≡ codes "--most"
IsFormOfOption name (Some form.Port) = name ≡ codes "--port"
IsFormOfOption name (Some form.Requests) = name ≡ codes "--requests"
IsFormOfOption name (Some _) = ⊥
IsFormOfOption name None = (name ≢ codes "--strategy") × (name ≢ codes "--context") × (name ≢ codes "--rev")
    × (name ≢ codes "--most") × (name ≢ codes "--port") × (name ≢ codes "--requests")

-- commands whose first value is the name of a batch, or the number of a sentence
abbrev pub TakesName : (command : List ℕ) → Type 0
TakesName command = (command ≡ codes "import") ⊎ (command ≡ codes "event") ⊎ (command ≡ codes "export")
    ⊎ (command ≡ codes "sentences")

abbrev pub TakesNumber : (command : List ℕ) → Type 0
TakesNumber command = (command ≡ codes "correct") ⊎ (command ≡ codes "pull") ⊎ (command ≡ codes "restore")
    ⊎ (command ≡ codes "show") ⊎ (command ≡ codes "revisions") ⊎ (command ≡ codes "tree")

-- The name and the form of a value without an option, after `before` others. A query may be any text.
abbrev pub IsPlaceOf : (command : List ℕ) → (before : ℕ) → (name : List ℕ) → Option Form → Type 0
IsPlaceOf command before name (Some form.Batch) = (before ≡ 0) × TakesName command × (name ≡ codes "<name>")
IsPlaceOf command before name (Some form.Event) =
    (before ≡ 1) × (command ≡ codes "event") × (name ≡ codes "<event>")
IsPlaceOf command before name (Some form.Number) = (before ≡ 0) × TakesNumber command × (name ≡ codes "<no>")
IsPlaceOf command before name (Some form.Base) =
    (before ≡ 1) × (command ≡ codes "correct") × (name ≡ codes "<base>")
IsPlaceOf command before name (Some form.Attribute) =
    (before ≡ 0) × (command ≡ codes "count") × (name ≡ codes "<attribute>")
IsPlaceOf command before name (Some _) = ⊥
IsPlaceOf command before name None = (name ≡ codes "<query>")
    × (before ≡ 0 → (¬ TakesName command) × (¬ TakesNumber command) × (command ≢ codes "count"))
    × (before ≡ 1 → (command ≢ codes "event") × (command ≢ codes "correct"))
