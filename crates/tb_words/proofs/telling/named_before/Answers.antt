use Rattle.std.proofs.Common.{arith, below_more, false, subst, sym, ℕ, ◌+◌, ◌-◌, ◌<◌, ◌≡◌, ◌∙◌}
use Rattle.tb_words.specs.FileSentences.{HasRead, IsSentenceAfter}
use Rattle.tb_words.specs.Named.{is_named}
use Rattle.tb_words.specs.declared.places.Placed.{Placed}
use Rattle.tb_words.proofs.telling.named_before.Goals as goal

pub loop-earlier-preserved : goal.loop-earlier-preserved
loop-earlier-preserved c =
    let file = c.args.file.now in
    let more : c.loop-earlier.earlier - 1 + 1 ≡ c.loop-earlier.earlier + 1 - 1 = omega (arith, c.loop-earlier.invariant.0) in (
      omega arith,
      subst (λ (n : ℕ). HasRead file n c.next.new.self) more (c.in_ok-placed.ensures.left file _ c.loop-earlier.invariant.1),
      λ k less. below_more (λ (j : ℕ). (other : Placed) × IsSentenceAfter file j other × (is_named other c.args.name.now ≡ false))
          (c.loop-earlier.earlier - 1) c.loop-earlier.invariant.2 (
            c.in_ok-placed.placed,
            c.in_ok-placed.ensures.here file _ c.loop-earlier.invariant.1,
            sym c.is_named.ensures ∙ c.if-is_named.false,
          ) k (subst (λ (n : ℕ). k < n) (sym more) less),
    )
