use Rattle.std.proofs.Common.{◌∷◌, ◌++◌, [], ap, sym, ◌∙◌, subst}
use Rattle.std.proofs.lemmas.List.Elements.{All-push}
use Rattle.tb_prefilter.specs.Needed.{IsNeeded, AreNeeded}
use Rattle.tb_prefilter.proofs.Gathered.{column_needed}
use Rattle.tb_prefilter.proofs.gathering.push_column.Goals as goal

pub returns-clause-gathered : goal.returns-clause-gathered
returns-clause-gathered c = λ a q t entails part old.
    let l = c.args.needle.now in
    let text = c.as_bytes.ensures.value ∙ c.in-Some.ensures.text in
    let bytes = c.in_ok-push-2.ensures.items ∙ ap (λ xs. xs ++ 9 ∷ []) (c.in_ok-extend_from_slice.ensures.items ∙ ap (λ xs. xs ++ c.as_bytes.result.now) (c.in_ok-push.ensures.items ∙ ap (λ xs. xs ++ 9 ∷ []) c.new-bytes.ensures.items) ∙ ap (λ xs. 9 ∷ xs) text) in
    let v = c.push-2.new.self in
    subst (AreNeeded q) (sym c.in_ok-push-3.ensures.items)
    (All-push (λ x. IsNeeded q x.items) c.args.needles.now.items v old (column_needed q t a l v.items c.in-Some.ensures.alone entails part bytes))
