-- A sentence that keeps the rules has a name.
use Rattle.std.proofs.Common.{Bor, ◌≡◌, ℕ, List, Option, Some, None, true, refl, sym, ◌∙◌, ap}
use Rattle.std.specs.Option.{option_copied, is_some}
use Rattle.tb_conllu.specs.Text.{BlockText}
use Rattle.tb_rules.specs.Comments.{HasSentId, only, sent_ids}
use Rattle.tb_rules.specs.Rules.{KeepsRules, sent_id}

is_copied : (o : Option (Bor (List ℕ))) → is_some (option_copied o) ≡ is_some o
is_copied None = refl
is_copied (Some x) = refl

pub is_named : (b : BlockText) (o : Option (Bor (List ℕ))) → KeepsRules b → option_copied o ≡ only (sent_ids b) → is_some o ≡ true
is_named b o rules e =
    let id : HasSentId b = rules sent_id in
    sym (is_copied o) ∙ ap is_some (e ∙ ap only id.one)
