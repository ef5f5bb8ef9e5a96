use Rattle.std.proofs.Common.{[], ap, append-nil, append_assoc, arith, List, lit<, replicate, string_bytes, sym, ℕ, ◌++◌, ◌≡◌, ◌∙◌, ◌∷◌}
use Rattle.std.proofs.lemmas.List.{replicate_more}
use Rattle.tb_words.proofs.pictures.push_spaces.Goals as goal

pub loop-init : goal.loop-init
loop-init c = (omega arith, sym (append-nil (string_bytes c.args.picture.now)))

pub loop-preserved : goal.loop-preserved
loop-preserved c = (
  omega (arith, c.loop-test.true),
  c.in_ok-push.ensures.bytes ∙ (ap (λ (bs : List ℕ). string_bytes c.loop.picture ++ bs) (c.in_ok-push.ensures.ascii (lit< tt))
      ∙ (ap (λ (bs : List ℕ). bs ++ 32 ∷ []) c.loop.invariant.1 ∙ (append_assoc (string_bytes c.args.picture.now) (replicate c.loop.counter 32) (32 ∷ [])
      ∙ ap (λ (bs : List ℕ). string_bytes c.args.picture.now ++ bs) (replicate_more c.loop.counter 32)))),
)

pub returns : goal.returns
returns c =
    let end : c.loop.counter ≡ c.args.count = omega (arith, c.loop.invariant.0, c.loop-test.false) in
    c.loop.invariant.1 ∙ ap (λ (n : ℕ). string_bytes c.args.picture.now ++ replicate n 32) end
