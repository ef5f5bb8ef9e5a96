-- Every rule that a sentence breaks, by itself and among the sentences of its file.
use Rattle.std.specs.Prelude.{◌≡◌, ◌≤◌, ◌⊎◌, ℕ, List, [], ◌∷◌, ◌++◌, ⊤, bytes_eq, false, length}
use Rattle.std.specs.List.{All, filter_map, list_any}
use Rattle.tb_conllu.specs.Text.{BlockText}
use Rattle.tb_rules.specs.Comments.{HasText, only, sent_ids}
use Rattle.tb_rules.specs.File.{HasNewName}
use Rattle.tb_rules.specs.Ids.{HasIds}
use Rattle.tb_rules.specs.Named.{is_node_id}
use Rattle.tb_rules.specs.Rules.{Rule, sent_id, text, ids, words, spans, nodes, features, dependencies, one_root}
use Rattle.tb_rules.specs.Rules.{tree, restored, number, Keeps, IsFaultRow}
use Rattle.tb_rules.specs.declared.breaking.BrokenRule.{BrokenRule}
use Rattle.tb_rules.specs.declared.rule.Rule.TheVariants as named
use Rattle.tb_rules.specs.declared.rule.Rule as names

-- the rule that a name stands for
abbrev pub rule_of : names.Rule → Rule
rule_of named.SentId = sent_id
rule_of named.Text = text
rule_of named.Ids = ids
rule_of named.Words = words
rule_of named.Spans = spans
rule_of named.Nodes = nodes
rule_of named.Features = features
rule_of named.Dependencies = dependencies
rule_of named.OneRoot = one_root
rule_of named.Tree = tree
rule_of named.Restored = restored

-- The rule is asked of the sentence. Heads and forms say something only of words and nodes that are numbered rightly,
-- and the forms are compared with a text.
abbrev pub IsAsked : Rule → BlockText → Type 0
IsAsked dependencies b = HasIds b
IsAsked tree b = HasIds b
IsAsked restored b = HasText b × HasIds b
IsAsked _ b = ⊤

-- The rule is asked of the sentence without memory.
abbrev pub TakesNoMemory : Rule → BlockText → Type 0
TakesNoMemory features b = All (λ r. length r.feats ≤ 32) b.rows
TakesNoMemory dependencies b = list_any (λ r. is_node_id r.id) b.rows ≡ false
TakesNoMemory tree b = ⊥
TakesNoMemory restored b = ⊥
TakesNoMemory _ b = ⊤

-- the rule is broken, and this is the row of its fault
abbrev pub IsBrokenAt : Rule → BlockText → ℕ → Type 0
IsBrokenAt r b row = (Keeps r b → ⊥) × IsFaultRow r b row

-- Those of these rules that are asked and broken, in order, each with its row.
abbrev pub AreBrokenOf : List Rule → BlockText → List BrokenRule → Type 0
AreBrokenOf [] b faults = faults ≡ []
AreBrokenOf (r ∷ rs) b faults =
    ((IsAsked r b → Keeps r b) × AreBrokenOf rs b faults)
    ⊎ ((row : ℕ) × (rest : List BrokenRule) × IsAsked r b × IsBrokenAt r b row
    × (faults ≡ record { rule = number r; row = row } ∷ rest) × AreBrokenOf rs b rest)

-- the rules in the order of their numbers
abbrev pub every_rule : List Rule
every_rule = sent_id ∷ text ∷ ids ∷ words ∷ spans ∷ nodes ∷ features ∷ dependencies ∷ one_root ∷ tree ∷ restored
    ∷ []

-- The rules that the sentence breaks by itself.
abbrev pub AreBroken : BlockText → List BrokenRule → Type 0
AreBroken b faults = AreBrokenOf every_rule b faults

-- The rules that the sentence breaks after these: rule 12 too, which comes last.
abbrev pub AreBrokenAfter : List BlockText → BlockText → List BrokenRule → Type 0
AreBrokenAfter before b faults =
    (HasNewName before b × AreBroken b faults)
    ⊎ ((own : List BrokenRule) × (HasNewName before b → ⊥) × (faults ≡ own ++ record { rule = 12; row = 0 } ∷ [])
    × AreBroken b own)

-- the names of sentences, in order: of each that exactly one comment names
abbrev pub given_names : List BlockText → List (List ℕ)
given_names bs = filter_map (λ b. only (sent_ids b)) bs

-- These are the names of sentences, also of those at fault, in any order.
abbrev pub AreNames : List (List ℕ) → List BlockText → Type 0
AreNames names bs = (name : List ℕ) → list_any (bytes_eq name) names ≡ list_any (bytes_eq name) (given_names bs)
