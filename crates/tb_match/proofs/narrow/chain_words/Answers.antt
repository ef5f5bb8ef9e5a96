use Rattle.std.proofs.Common.{◌≡◌, ◌+◌, ◌-◌, ◌<◌, ◌≤◌, length, arith, ◌∙◌}
use Rattle.std.proofs.lemmas.List.{length-set}
use Rattle.tb_match.specs.Bits.{triangle}
use Rattle.tb_match.proofs.Sweeps.{triangle_step, triangle_le}
use Rattle.tb_match.proofs.Closures.{later_closed, chained_row, earlier_row, some_links}
use Rattle.tb_match.proofs.narrow.chain_words.Goals as goal

pub chained_word-requires-clause-countable : goal.chained_word-requires-clause-countable
chained_word-requires-clause-countable c =
    let p = c.loop-place.place in
    let step : triangle (c.args.last + 1 - (p - 1)) ≡ (c.args.last + 1 - (p - 1)) + triangle (c.args.last + 1 - p) = triangle_step _ _ (omega arith) in
    let le : triangle (c.args.last + 1 - (p - 1)) ≤ triangle (c.args.last + 1) = triangle_le _ _ (omega arith) in
    omega arith

pub chained_word-requires-clause-closed : goal.chained_word-requires-clause-closed
chained_word-requires-clause-closed c =
    later_closed c.args.table.now c.loop-place.table c.args.last (c.loop-place.place - 1)
    (λ i j after most h. c.loop-place.invariant.done i j (omega arith) most h)

pub loop-place-preserved : goal.loop-place-preserved
loop-place-preserved c =
    let L = c.args.table.now in
    let T = c.loop-place.table in
    let v = c.chained_word.result in
    let last = c.args.last in
    let p = c.loop-place.place in
    let inv = c.loop-place.invariant in
    let step : triangle (last + 1 - (p - 1)) ≡ (last + 1 - (p - 1)) + triangle (last + 1 - p) = triangle_step _ _ (omega arith) in
    let inside : p - 1 < length T = omega (arith, inv.whole) in
    let upto : p - 1 ≤ last = omega arith in
    record {
      upto = omega arith;
      whole = length-set T (p - 1) v ∙ inv.whole;
      done = λ i j from most h.
          chained_row L T v last (p - 1) inside upto c.requires.short (λ a b after q r. inv.done a b (omega arith) q r)
          (λ a le. inv.rest a (omega arith)) c.chained_word.ensures.places i j from most h;
      rest = λ i lt.
          earlier_row L T v last (p - 1) inside upto c.requires.short (λ a b after q r. inv.done a b (omega arith) q r)
          (λ a le. inv.rest a (omega arith)) c.chained_word.ensures.places i lt;
      more = omega arith;
      bound = omega arith;
    }

pub returns-clause-rows : goal.returns-clause-rows
returns-clause-rows c = λ i j p q.
    let d = c.loop-place.invariant.done i j (omega arith) p q in
    let s = some_links c.args.table.now c.args.last i j in
    (λ a. s.0 (d.0 a), λ b. d.1 (s.1 b))
