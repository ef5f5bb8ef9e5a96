-- The rules of a sentence, and its fault: the broken rule with the least number, and its first row.
use Rattle.std.specs.Prelude.{◌≡◌, ◌<◌, ◌≤◌, ℕ, length, false}
use Rattle.std.specs.List.{All, list_any}
use Rattle.tb_conllu.specs.Text.{BlockText}
use Rattle.tb_conllu.specs.Words.{words_of}
use Rattle.tb_rules.specs.declared.fault.RuleFault.{RuleFault}
use Rattle.tb_rules.specs.declared.fault.RuleFault.TheVariants.{At, Memory}
use Rattle.tb_rules.specs.Comments.{HasSentId, HasText}
use Rattle.tb_rules.specs.Deps.{dependency_test}
use Rattle.tb_rules.specs.Feats.{feature_test}
use Rattle.tb_rules.specs.Ids.{HasIds}
use Rattle.tb_rules.specs.Named.{is_node_id}
use Rattle.tb_rules.specs.Nodes.{node_test}
use Rattle.tb_rules.specs.Restored.{IsRestored}
use Rattle.tb_rules.specs.Rows.{EachRowPasses, IsFirstFault}
use Rattle.tb_rules.specs.Spans.{span_test}
use Rattle.tb_rules.specs.Tree.{HasOneRoot, HasTree}
use Rattle.tb_rules.specs.Words.{word_test}

abbrev pub HasWords : BlockText → Type 0
HasWords b = EachRowPasses (word_test (words_of b)) b.rows

abbrev pub HasSpans : BlockText → Type 0
HasSpans b = EachRowPasses (span_test (words_of b)) b.rows

abbrev pub HasNodes : BlockText → Type 0
HasNodes b = EachRowPasses node_test b.rows

abbrev pub HasFeatures : BlockText → Type 0
HasFeatures b = EachRowPasses feature_test b.rows

abbrev pub HasDependencies : BlockText → Type 0
HasDependencies b = EachRowPasses (dependency_test b.rows) b.rows

-- The rules of a sentence by itself.
pub data Rule : Type 0 where
  sent_id text ids words spans nodes features dependencies one_root tree restored : Rule

-- their numbers
abbrev pub number : Rule → ℕ
number sent_id = 1
number text = 2
number ids = 3
number words = 4
number spans = 5
number nodes = 6
number features = 7
number dependencies = 8
number one_root = 9
number tree = 10
number restored = 11

-- what each rule requires
abbrev pub Keeps : Rule → BlockText → Type 0
Keeps sent_id b = HasSentId b
Keeps text b = HasText b
Keeps ids b = HasIds b
Keeps words b = HasWords b
Keeps spans b = HasSpans b
Keeps nodes b = HasNodes b
Keeps features b = HasFeatures b
Keeps dependencies b = HasDependencies b
Keeps one_root b = HasOneRoot b
Keeps tree b = HasTree b
Keeps restored b = IsRestored b

-- the row of a fault: for a rule of rows the first that fails its test, for the other rules 0
abbrev pub IsFaultRow : Rule → BlockText → ℕ → Type 0
IsFaultRow sent_id b row = row ≡ 0
IsFaultRow text b row = row ≡ 0
IsFaultRow ids b row = row ≡ 0
IsFaultRow words b row = IsFirstFault (word_test (words_of b)) b.rows row
IsFaultRow spans b row = IsFirstFault (span_test (words_of b)) b.rows row
IsFaultRow nodes b row = IsFirstFault node_test b.rows row
IsFaultRow features b row = IsFirstFault feature_test b.rows row
IsFaultRow dependencies b row = IsFirstFault (dependency_test b.rows) b.rows row
IsFaultRow one_root b row = row ≡ 0
IsFaultRow tree b row = row ≡ 0
IsFaultRow restored b row = row ≡ 0

-- the rules with numbers up to n
abbrev pub KeepsTo : ℕ → BlockText → Type 0
KeepsTo n b = (r : Rule) → number r ≤ n → Keeps r b

abbrev pub KeepsTo6 : BlockText → Type 0
KeepsTo6 b = KeepsTo 6 b

-- FEATS and DEPS are tested without memory: no FEATS has more than 32 bytes, and there is no empty node
abbrev pub HasShortLists : BlockText → Type 0
HasShortLists b = All (λ r. length r.feats ≤ 32) b.rows × (list_any (λ r. is_node_id r.id) b.rows ≡ false)

-- all rules of a sentence by itself
abbrev pub KeepsRules : BlockText → Type 0
KeepsRules b = (r : Rule) → Keeps r b

-- The rule with this number is broken, those with smaller numbers are kept, and the row is that of the fault.
pub record IsBroken (b : BlockText) (rule row : ℕ) : Type 0 where
  pub which : Rule
  pub numbered : rule ≡ number which
  pub before : (r : Rule) → number r < rule → Keeps r b
  pub broken : Keeps which b → ⊥
  pub at_row : IsFaultRow which b row

-- want of memory says nothing of the sentence
abbrev pub IsRuleFault : BlockText → RuleFault → Type 0
IsRuleFault b (At rule row) = IsBroken b rule row
IsRuleFault b Memory = Unit {0}
