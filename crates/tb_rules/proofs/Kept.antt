-- A sentence that keeps the rules has none that is broken.
use Rattle.std.proofs.Common.{◌≡◌, ℕ, [], true, false, Bool, refl, sym, ◌∙◌}
use Rattle.std.specs.Prelude.{IfErr, List, Result, Ok, Err, None}
use Rattle.tb_conllu.specs.Text.{RowText, BlockText}
use Rattle.tb_conllu.specs.declared.id.LineId.TheVariants.{Word}
use Rattle.tb_rules.specs.Rows.{RowTest, EachRowPasses, IsFirstFault}
use Rattle.tb_rules.specs.Rules.{KeepsRules, IsBroken, IsRuleFault}
use Rattle.tb_rules.specs.declared.fault.RuleFault.{RuleFault}
use Rattle.tb_rules.specs.declared.fault.RuleFault.TheVariants.{At, Memory}

pub some_row : RowText
some_row = record { id = Word 1; form = []; lemma = []; upos = []; xpos = []; feats = []; head = None; deprel = []; deps = []; misc = [] }

pub both : (b : Bool) → b ≡ true → b ≡ false → ⊥
both b t f = let e : true ≡ false = sym t ∙ f in cc

pub passes : (test : RowTest) (rs : List RowText) (row : ℕ) → IsFirstFault test rs row → EachRowPasses test rs → ⊥
passes test rs row f k = both _ (k f.place some_row f.within) (f.fails some_row)

pub not_kept : (b : BlockText) (rule row : ℕ) → IsBroken b rule row → KeepsRules b → ⊥
not_kept b rule row f k = f.broken (k f.which)

memory_alone : (b : BlockText) (e : RuleFault) → IsRuleFault b e → KeepsRules b → e ≡ Memory
memory_alone b (At rule row) f k = absurd (not_kept b rule row f k)
memory_alone b Memory f k = refl

pub only_memory : {X : Type 0} (b : BlockText) (r : Result X RuleFault) → IfErr r (IsRuleFault b) → KeepsRules b → IfErr r (λ e. e ≡ Memory)
only_memory b (Ok x) f k = tt
only_memory b (Err e) f k = memory_alone b e f k
