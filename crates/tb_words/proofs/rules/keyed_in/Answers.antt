use Rattle.std.proofs.Common.{Bor, List, [], ap, map, sym, ℕ, ◌∙◌}
use Rattle.std.proofs.lemmas.List.{get_or-map}
use Rattle.std.specs.Option.{option_copied}
use Rattle.tb_words.proofs.Keys.{one_more_lacks}
use Rattle.tb_words.proofs.rules.keyed_in.Goals as goal

pub loop-at-preserved : goal.loop-at-preserved
loop-at-preserved c =
    one_more_lacks c.args.key.now (map (λ (t : Bor (List ℕ)). t.now) c.args.comments.now) c.args.before c.loop-at.at _
    (sym (get_or-map (λ (t : Bor (List ℕ)). t.now) c.args.comments.now c.loop-at.at (record { ref_ptr = (0, 0); now = [] }) []
    c.loop-at-test.true)) (sym c.value_under.ensures ∙ ap option_copied c.in_default.is) c.loop-at.invariant
