use Rattle.std.proofs.Common.{ap, append_assoc, arith, chars, codes, drop, encode_utf8_all, List, map, min, replicate, take, ℕ, ◌++◌, ◌-◌, ◌≡◌, ◌∙◌}
use Rattle.tb_words.specs.Shown.{visible}
use Rattle.tb_words.proofs.pictures.drawn.Goals as goal

pub returns : goal.returns
returns c =
    let line = encode_utf8_all (map visible (take 72 (drop (c.args.count - 48) (chars c.args.line.now)))) in
    let skipped : c.saturating_sub-skipped.result ≡ c.args.count - 48 = c.saturating_sub-skipped.ensures in
    let before : c.saturating_sub-before.result ≡ min 48 c.args.count = omega (arith, skipped, c.saturating_sub-before.ensures) in
    c.in_ok-push_mark.ensures ∙ (ap (λ (bs : List ℕ). bs ++ (codes "\n    " ++ (replicate c.saturating_sub-before.result 32 ++ codes "^")))
    (c.in_ok-push_line.ensures ∙ (ap (λ (bs : List ℕ). bs ++ encode_utf8_all (map visible (take 72
    (drop c.saturating_sub-skipped.result (chars c.args.line.now))))) c.in_ok-picture.ensures.ok
    ∙ ap (λ (n : ℕ). codes "    " ++ encode_utf8_all (map visible (take 72 (drop n (chars c.args.line.now))))) skipped))
    ∙ (ap (λ (n : ℕ). (codes "    " ++ line) ++ (codes "\n    " ++ (replicate n 32 ++ codes "^"))) before
    ∙ append_assoc (codes "    ") line (codes "\n    " ++ (replicate (min 48 c.args.count) 32 ++ codes "^"))))
