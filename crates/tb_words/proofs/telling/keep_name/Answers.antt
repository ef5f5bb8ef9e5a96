use Rattle.std.proofs.Common.{Some, if◌then◌else◌, subst, sym, unwrap_or, ℕ, ◌≡◌, ◌∙◌}
use Rattle.std.proofs.lemmas.Map.Text.{btree_map_updates_str}
use Rattle.tb_rules.specs.Comments.{only, sent_ids}
use Rattle.tb_words.proofs.WalkSteps.{none_kept, one_comes, one_stays}
use Rattle.tb_words.specs.Named.{is_named}
use Rattle.tb_words.specs.Walks.{first_of}
use Rattle.tb_words.proofs.telling.keep_name.Goals as goal

pub returns-in_default : goal.returns-in_default
returns-in_default c =
    let none = rw c.in_default.is at c.sent_id_ref.ensures in
    λ name. none_kept (only (sent_ids c.args.placed.now.block)) name _ _ (sym none)

pub returns-then-contains_key : goal.returns-then-contains_key
returns-then-contains_key c =
    let some = rw c.in-Some.is at c.sent_id_ref.ensures in
    λ name. one_stays (only (sent_ids c.args.placed.now.block)) (first_of c.args.names.now) c.in-Some.name.now name _ (sym some)
    (sym c.contains_key.ensures ∙ c.if-contains_key.true)

pub returns : goal.returns
returns c =
    let some = rw c.in-Some.is at c.sent_id_ref.ensures in
    λ name. subst (λ (line : ℕ). first_of c.insert.new.self name ≡ (if is_named c.args.placed.now name
    then Some (unwrap_or (first_of c.args.names.now name) (c.args.number, line)) else first_of c.args.names.now name)) c.comment_line.ensures
    (one_comes (only (sent_ids c.args.placed.now.block)) (first_of c.args.names.now) c.in-Some.name.now name _ _ (sym some)
    (sym c.contains_key.ensures ∙ c.if-contains_key.false)
    (btree_map_updates_str c.in-Some.name.now c.args.names.now c.insert.new.self _ c.in_ok-insert.ensures.updates name))
