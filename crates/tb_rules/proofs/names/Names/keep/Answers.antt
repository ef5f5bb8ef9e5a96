use Rattle.std.proofs.Common.{List, ℕ, ap, cond, refl, true, ◌∙◌}
use Rattle.std.specs.Prelude.{bytes_eq}
use Rattle.std.specs.List.{list_any}
use Rattle.std.specs.BTreeMap.{is_at}
use Rattle.std.specs.String.{string_cmp}
use Rattle.tb_rules.proofs.Taken.{key_is, key_known, key_grown}
use Rattle.tb_rules.proofs.Twice.{known_as}
use Rattle.tb_rules.proofs.names.Names.keep.Goals as goal

pub returns-clause-new : goal.returns-clause-new
returns-clause-new c =
    let keys = c.self.inside.set.keys in
    let there = list_any (is_at (string_cmp c.in_ok-owned.owned)) keys in
    key_is c.in_ok-owned.owned keys c.args.self.now c.args.name.now there c.self.view_is c.in_ok-owned.ensures.ok refl ∙ known_as there c.in-Ok.new c.in-Ok.ensures.added

pub returns-clause-known : goal.returns-clause-known
returns-clause-known c = λ q.
    let name = c.args.name.now in
    key_known c.in_ok-owned.owned c.self.inside.set c.insert.new.self name c.in_ok-owned.ensures.ok c.in-Ok.ensures.updates q
    ∙ ap (λ (names : List (List ℕ)). cond (bytes_eq name q) true (list_any (bytes_eq q) names)) c.self.view_is

pub returns-clause-count : goal.returns-clause-count
returns-clause-count c = key_grown c.self.inside.set c.insert.new.self c.args.self.now c.in-Ok.new c.self.view_is c.in-Ok.ensures.len
