use Rattle.std.proofs.Common.{arith, ◌≡◌, ◌+◌, ◌*◌, ◌<◌, ◌≤◌, ◌^◌, ◌↔◌, ◌⊎◌, ℕ, length, drop, sym, subst, ap}
use Rattle.std.proofs.lemmas.Result.{IfOk-weaker}
use Rattle.tb_match.specs.Bits.{InTable, triangle}
use Rattle.tb_match.specs.Facts.{Holds}
use Rattle.tb_match.specs.Match.{Match, EachInTurn, AnyOf}
use Rattle.tb_match.specs.Trees.{tree, trees, no_more, and_more}
use Rattle.tb_match.specs.Weight.{AllProper, IsProper, weight_of, weight_of_all, turns}
use Rattle.tb_match.proofs.Parts.{is_cat, is_alt, is_rep, next_part, weight_ahead, turns_some}
use Rattle.tb_match.proofs.Relations.{room_within, sequence_more, sequence_forward, first_forward, first_rows, bound_after_first, repetition_rows, choice_more, room_after, room_for_part, room_for_next, room_after_part, bound_after_part, bound_of_both}
use Rattle.tb_match.proofs.Repeats.{lent}
use Rattle.tb_match.proofs.Sweeps.{le_triangle}
use Rattle.tb_match.proofs.Runs.{Run, stepped_match, run_match}
use Rattle.tb_match.proofs.relation.+rows.Goals as goal

pub rows-returns-in-Cat-clause-rows : goal.rows-returns-in-Cat-clause-rows
rows-returns-in-Cat-clause-rows t c =
    let shown = is_cat c.args.pat.now c.in-Cat.parts c.deref.result.now c.in-Cat.is c.deref.ensures.value in
    IfOk-weaker c.sequence.result _ _ (λ v h i j p q.
    subst (λ x. InTable v.items c.args.shape.width i j ↔ Match (Holds c.args.truth.now) x i j) (sym shown) (h i j p q))
    c.sequence.ensures.rows

pub rows-returns-in-Cat-clause-bound : goal.rows-returns-in-Cat-clause-bound
rows-returns-in-Cat-clause-bound t c =
    let shown = is_cat c.args.pat.now c.in-Cat.parts c.deref.result.now c.in-Cat.is c.deref.ensures.value in
    rw (ap weight_of shown) c.sequence.ensures.bound

pub rows-sequence-requires : goal.rows-sequence-requires
rows-sequence-requires t c =
    let x = c.args.truth.now.exprs in
    let shown = is_cat c.args.pat.now c.in-Cat.parts c.deref.result.now c.in-Cat.is c.deref.ensures.value in
    let e : weight_of (tree c.args.pat.now) ≡ weight_of_all (trees c.deref.result.now) = ap weight_of shown in
    let proper : AllProper x (trees c.deref.result.now) = subst (IsProper x) shown c.requires.proper in (
      omega (arith, c.decreases),
      (
        proper,
        (
          c.requires.words,
          (
            c.requires.spare,
            subst (λ n. c.args.steps.now + n * triangle (c.args.truth.now.words + 1) < 2 ^ 64) e c.requires.countable,
          ),
        ),
      ),
    )

pub rows-choice-requires : goal.rows-choice-requires
rows-choice-requires t c =
    let x = c.args.truth.now.exprs in
    let shown = is_alt c.args.pat.now c.in-Alt.parts c.deref-in-Alt.result.now c.in-Alt.is c.deref-in-Alt.ensures.value in
    let e : weight_of (tree c.args.pat.now) ≡ weight_of_all (trees c.deref-in-Alt.result.now) = ap weight_of shown in
    let proper : AllProper x (trees c.deref-in-Alt.result.now) = subst (IsProper x) shown c.requires.proper in (
      omega (arith, c.decreases),
      (
        proper,
        (
          c.requires.words,
          (
            c.requires.spare,
            subst (λ n. c.args.steps.now + n * triangle (c.args.truth.now.words + 1) < 2 ^ 64) e c.requires.countable,
          ),
        ),
      ),
    )

pub rows-rows-requires : goal.rows-rows-requires
rows-rows-requires t c =
    let x = c.args.truth.now.exprs in
    let shown = is_rep c.args.pat.now c.in-Rep.inner c.deref-in-Rep.result.now c.in-Rep.least c.in-Rep.most c.in-Rep.is c.deref-in-Rep.ensures in
    let e : weight_of (tree c.args.pat.now) ≡ weight_of (tree c.deref-in-Rep.result.now) + turns c.in-Rep.least c.in-Rep.most = ap weight_of shown in
    let more = turns_some c.in-Rep.least c.in-Rep.most in
    let proper : IsProper x (tree c.deref-in-Rep.result.now) = (subst (IsProper x) shown c.requires.proper).1 in (
      omega (arith, c.decreases),
      (
        proper,
        (
          c.requires.words,
          (
            c.requires.spare,
            room_within (2 ^ 64) c.args.steps.now _ _ (triangle (c.args.truth.now.words + 1)) (weight_of (tree c.args.pat.now)) e c.requires.countable,
          ),
        ),
      ),
    )

pub choice-rows-requires : goal.choice-rows-requires
choice-rows-requires t c =
    let ps = c.args.parts.now in
    let k = c.loop-part.part-index in
    let x = c.part-item.result in
    let T = triangle (c.args.shape.last + 1) in
    let count : c.args.shape.last ≡ c.args.truth.now.words = c.requires.words in
    let d : trees (drop k ps) ≡ and_more (tree x) (trees (drop (k + 1) ps)) = next_part ps k x c.loop-part-test.true c.part-item.is (λ qs. qs) in
    let e : weight_of_all (trees (drop k ps)) ≡ weight_of (tree x) + 1 + weight_of_all (trees (drop (k + 1) ps)) = ap weight_of_all d in
    let ahead = weight_ahead ps k in
    let room : c.args.steps.now + weight_of_all (trees ps) * T < 2 ^ 64 =
    subst (λ n. c.args.steps.now + weight_of_all (trees c.args.parts.now) * triangle (n + 1) < 2 ^ 64) (sym count) c.requires.countable in
    let enough : c.loop-part.steps + weight_of (tree x) * T < 2 ^ 64 =
    room_for_part (2 ^ 64) c.args.steps.now c.loop-part.steps (weight_of (tree x)) _ T (weight_of_all (trees ps)) _ e c.loop-part.invariant.bound room in (
      omega (arith, c.decreases),
      (
        (subst (AllProper c.args.truth.now.exprs) d c.loop-part.invariant.proper).0,
        (
          c.requires.words,
          (
            c.loop-part.invariant.wide,
            subst (λ n. c.loop-part.steps + weight_of (tree c.part-item.result) * triangle (n + 1) < 2 ^ 64) count enough,
          ),
        ),
      ),
    )

pub rows-repetition-requires-clause-countable : goal.rows-repetition-requires-clause-countable
rows-repetition-requires-clause-countable t c =
    let shown = is_rep c.args.pat.now c.in-Rep.inner c.deref-in-Rep.result.now c.in-Rep.least c.in-Rep.most c.in-Rep.is c.deref-in-Rep.ensures in
    let e : weight_of (tree c.args.pat.now) ≡ weight_of (tree c.deref-in-Rep.result.now) + turns c.in-Rep.least c.in-Rep.most = ap weight_of shown in
    subst (λ n. c.rows.new.steps + turns c.in-Rep.least c.in-Rep.most * triangle (n + 1) < 2 ^ 64) (sym c.requires.words)
    (room_after (2 ^ 64) c.args.steps.now c.rows.new.steps _ _ (triangle (c.args.truth.now.words + 1)) (weight_of (tree c.args.pat.now)) e c.rows.ensures.bound c.requires.countable)

pub rows-repetition-requires-clause-forward : goal.rows-repetition-requires-clause-forward
rows-repetition-requires-clause-forward t c =
    let last = c.args.shape.last in
    let H = Holds c.args.truth.now in
    let w = c.args.shape.width in
    let links = c.in_ok-links-in-Rep.links.items in
    let count : last ≡ c.args.truth.now.words = c.requires.words in
    let inside : (e v : ℕ) → Holds c.args.truth.now e v → v ≤ last = λ e v h. (let le : v ≤ c.args.truth.now.words = h.1 in omega arith) in
    let rows : (i j : ℕ) → i ≤ last → j ≤ last → InTable links w i j ↔ Match H (tree c.deref-in-Rep.result.now) i j =
    λ i j p q. c.in_ok-links-in-Rep.ensures.rows i j (omega arith) (omega arith) in
    first_forward last w links H inside (tree c.deref-in-Rep.result.now) no_more rows

pub rows-returns-in-Alt-clause-rows : goal.rows-returns-in-Alt-clause-rows
rows-returns-in-Alt-clause-rows t c =
    let shown = is_alt c.args.pat.now c.in-Alt.parts c.deref-in-Alt.result.now c.in-Alt.is c.deref-in-Alt.ensures.value in
    IfOk-weaker c.choice.result _ _ (λ v h i j p q.
    subst (λ x. InTable v.items c.args.shape.width i j ↔ Match (Holds c.args.truth.now) x i j) (sym shown) (h i j p q))
    c.choice.ensures.rows

pub rows-returns-in-Alt-clause-bound : goal.rows-returns-in-Alt-clause-bound
rows-returns-in-Alt-clause-bound t c =
    let shown = is_alt c.args.pat.now c.in-Alt.parts c.deref-in-Alt.result.now c.in-Alt.is c.deref-in-Alt.ensures.value in
    rw (ap weight_of shown) c.choice.ensures.bound

pub rows-returns-in_ok-links-in-Rep-clause-rows : goal.rows-returns-in_ok-links-in-Rep-clause-rows
rows-returns-in_ok-links-in-Rep-clause-rows t c =
    let shown = is_rep c.args.pat.now c.in-Rep.inner c.deref-in-Rep.result.now c.in-Rep.least c.in-Rep.most c.in-Rep.is c.deref-in-Rep.ensures in
    IfOk-weaker c.repetition.result _ _ (λ v h i j p q.
    subst (λ x. InTable v.items c.args.shape.width i j ↔ Match (Holds c.args.truth.now) x i j) (sym shown)
    (repetition_rows c.args.truth.now c.args.shape.last c.args.shape.width c.requires.words c.in_ok-links-in-Rep.links.items v.items (tree c.deref-in-Rep.result.now) c.in-Rep.least c.in-Rep.most c.in_ok-links-in-Rep.ensures.rows h i j p q))
    c.repetition.ensures.rows

pub choice-merge-requires-clause-countable : goal.choice-merge-requires-clause-countable
choice-merge-requires-clause-countable t c =
    let ps = c.args.parts.now in
    let x = c.part-item.result in
    let T = triangle (c.args.shape.last + 1) in
    let e : weight_of_all (trees (drop c.loop-part.part-index ps)) ≡ weight_of (tree x) + 1 + weight_of_all (trees (drop (c.loop-part.part-index + 1) ps)) =
    next_part ps c.loop-part.part-index x c.loop-part-test.true c.part-item.is weight_of_all in
    let step : c.rows.new.steps ≤ c.loop-part.steps + weight_of (tree x) * T =
    subst (λ n. c.rows.new.steps ≤ c.loop-part.steps + weight_of (tree c.part-item.result) * triangle (n + 1)) (sym c.requires.words) c.rows.ensures.bound in
    let room : c.args.steps.now + weight_of_all (trees ps) * T < 2 ^ 64 =
    subst (λ n. c.args.steps.now + weight_of_all (trees c.args.parts.now) * triangle (n + 1) < 2 ^ 64) (sym c.requires.words) c.requires.countable in
    room_after_part (2 ^ 64) c.args.steps.now c.loop-part.steps c.rows.new.steps (weight_of (tree x)) _ T (weight_of_all (trees ps)) _ (c.args.shape.last + 1)
    e c.loop-part.invariant.bound step (le_triangle (c.args.shape.last + 1)) room

pub choice-loop-part-preserved : goal.choice-loop-part-preserved
choice-loop-part-preserved t c =
    let H = Holds c.args.truth.now in
    let w = c.args.shape.width in
    let last = c.args.shape.last in
    let T = triangle (last + 1) in
    let ps = c.args.parts.now in
    let k = c.loop-part.part-index in
    let x = c.part-item.result in
    let inv = c.loop-part.invariant in
    let count : last ≡ c.args.truth.now.words = c.requires.words in
    let d : trees (drop k ps) ≡ and_more (tree x) (trees (drop (k + 1) ps)) = next_part ps k x c.loop-part-test.true c.part-item.is (λ qs. qs) in
    let same : length c.deref_mut.result.now ≡ length c.loop-part.table.items = ap length c.deref_mut.ensures.value in
    let back = lent c.loop-part.table.len c.merge.new.table c.loop-part.table.items (omega (arith, c.loop-part.table.ok.0)) in
    let step : c.rows.new.steps ≤ c.loop-part.steps + weight_of (tree x) * T =
    subst (λ n. c.rows.new.steps ≤ c.loop-part.steps + weight_of (tree c.part-item.result) * triangle (n + 1)) (sym count) c.rows.ensures.bound in
    let small = le_triangle (last + 1) in
    record {
      wide = omega arith;
      whole = subst (λ xs. length xs ≡ (last + 1) * w) (sym back) (omega arith);
      proper = (subst (AllProper c.args.truth.now.exprs) d inv.proper).1;
      rows = λ i j p q.
          let next : InTable c.deref.result.now w i j ↔ Match H (tree x) i j =
          subst (λ xs. InTable xs w i j ↔ Match H (tree x) i j) (sym c.deref.ensures.value) (c.in_ok-next.ensures.rows i j (omega arith) (omega arith)) in
          let so_far : (InTable c.deref_mut.result.now w i j ⊎ AnyOf H (and_more (tree x) (trees (drop (k + 1) ps))) i j) ↔ AnyOf H (trees ps) i j =
          subst (λ xs. (InTable xs w i j ⊎ AnyOf H (and_more (tree x) (trees (drop (k + 1) ps))) i j) ↔ AnyOf H (trees ps) i j) (sym c.deref_mut.ensures.value)
          (subst (λ qs. (InTable c.loop-part.table.items w i j ⊎ AnyOf H qs i j) ↔ AnyOf H (trees ps) i j) d (inv.rows i j p q)) in
          subst (λ xs. (InTable xs w i j ⊎ AnyOf H (trees (drop (k + 1) ps)) i j) ↔ AnyOf H (trees ps) i j) (sym back)
          (choice_more H w i j c.deref_mut.result.now c.deref.result.now c.merge.new.table (tree x) (trees (drop (k + 1) ps)) (trees ps) (c.merge.ensures.rows i j p q) next so_far);
      more = omega arith;
      bound = bound_after_part c.args.steps.now c.loop-part.steps c.rows.new.steps c.merge.new.steps (weight_of (tree x)) (weight_of_all (trees (drop (k + 1) ps))) T (weight_of_all (trees ps)) _
          (ap weight_of_all d) inv.bound step (omega arith);
    }

pub sequence-loop-part-init : goal.sequence-loop-part-init
sequence-loop-part-init t c =
    let H = Holds c.args.truth.now in
    let w = c.args.shape.width in
    let last = c.args.shape.last in
    let T = triangle (last + 1) in
    let ps = c.in-Some.rest.now in
    let x = c.in-Some.first.now in
    let table = c.in_ok-table.table.items in
    let count : last ≡ c.args.truth.now.words = c.requires.words in
    let d : trees c.args.parts.now ≡ and_more (tree x) (trees ps) = ap trees c.in-Some.ensures.cases.0 in
    let inside : (e v : ℕ) → Holds c.args.truth.now e v → v ≤ last = λ e v h. (let le : v ≤ c.args.truth.now.words = h.1 in omega arith) in
    let rows : (i j : ℕ) → i ≤ last → j ≤ last → InTable table w i j ↔ Match H (tree x) i j = λ i j p q. c.in_ok-table.ensures.rows i j (omega arith) (omega arith) in
    let step : c.rows.new.steps ≤ c.args.steps.now + weight_of (tree x) * T =
    subst (λ n. c.rows.new.steps ≤ c.args.steps.now + weight_of (tree c.in-Some.first.now) * triangle (n + 1)) (sym count) c.rows.ensures.bound in
    record {
      wide = omega arith;
      whole = subst (λ n. length table ≡ (n + 1) * w) (sym count) c.in_ok-table.ensures.whole;
      proper = (subst (AllProper c.args.truth.now.exprs) d c.requires.proper).1;
      forward = first_forward last w table H inside (tree x) (trees ps) rows;
      rows = λ i j p q. subst (λ qs. ((m : ℕ) × (m ≤ last) × InTable table w i m × EachInTurn H (trees ps) m j) ↔ EachInTurn H qs i j) (sym d) (first_rows last w table H inside (tree x) (trees ps) rows i j p q);
      more = c.rows.ensures.more;
      bound = bound_after_first c.args.steps.now c.rows.new.steps (weight_of (tree x)) (weight_of_all (trees ps)) T (weight_of_all (trees c.args.parts.now)) (ap weight_of_all d) step;
    }

pub sequence-loop-part-preserved : goal.sequence-loop-part-preserved
sequence-loop-part-preserved t c =
    let H = Holds c.args.truth.now in
    let w = c.args.shape.width in
    let last = c.args.shape.last in
    let T = triangle (last + 1) in
    let ps = c.in-Some.rest.now in
    let all = c.args.parts.now in
    let k = c.loop-part.part-index in
    let x = c.part-item.result in
    let inv = c.loop-part.invariant in
    let count : last ≡ c.args.truth.now.words = c.requires.words in
    let d : trees (drop k ps) ≡ and_more (tree x) (trees (drop (k + 1) ps)) = next_part ps k x c.loop-part-test.true c.part-item.is (λ qs. qs) in
    let inside : (e v : ℕ) → Holds c.args.truth.now e v → v ≤ last = λ e v h. (let le : v ≤ c.args.truth.now.words = h.1 in omega arith) in
    let before = c.loop-part.table.items in
    let after = c.in_ok-table-2.table.items in
    let step : c.followed.new.steps ≤ c.loop-part.steps + (weight_of (tree x) + 1) * T =
    subst (λ n. c.followed.new.steps ≤ c.loop-part.steps + (weight_of (tree c.part-item.result) + 1) * triangle (n + 1)) (sym count) c.followed.ensures.bound in
    let made : (i j : ℕ) → i ≤ last → j ≤ last → InTable after w i j ↔ ((m : ℕ) × (m ≤ last) × InTable before w i m × Match H (tree x) m j) =
    λ i j p q. subst (λ n. InTable c.in_ok-table-2.table.items c.args.shape.width i j ↔ ((m : ℕ) × (m ≤ n) × InTable c.loop-part.table.items c.args.shape.width i m × Match (Holds c.args.truth.now) (tree c.part-item.result) m j)) (sym count)
    (c.in_ok-table-2.ensures.rows i j (omega arith) (omega arith)) in
    let so_far : (i j : ℕ) → i ≤ last → j ≤ last → ((m : ℕ) × (m ≤ last) × InTable before w i m × EachInTurn H (and_more (tree x) (trees (drop (k + 1) ps))) m j) ↔ EachInTurn H (trees all) i j =
    λ i j p q. subst (λ qs. ((m : ℕ) × (m ≤ last) × InTable before w i m × EachInTurn H qs m j) ↔ EachInTurn H (trees all) i j) d (inv.rows i j p q) in
    record {
      wide = omega arith;
      whole = subst (λ n. length c.in_ok-table-2.table.items ≡ (n + 1) * c.args.shape.width) (sym count) c.in_ok-table-2.ensures.whole;
      proper = (subst (AllProper c.args.truth.now.exprs) d inv.proper).1;
      forward = sequence_forward last w before after H inside (tree x) (trees (drop (k + 1) ps)) (trees all) inv.forward made so_far;
      rows = sequence_more last w before after H inside (tree x) (trees (drop (k + 1) ps)) (trees all) inv.forward made so_far;
      more = omega arith;
      bound = bound_after_part c.args.steps.now c.loop-part.steps (c.loop-part.steps + weight_of (tree x) * T) c.followed.new.steps (weight_of (tree x)) (weight_of_all (trees (drop (k + 1) ps))) T (weight_of_all (trees all)) _
          (ap weight_of_all d) inv.bound (omega arith) (omega (arith, step));
    }

pub followed-returns-in-Some-optional_token_of-clause-rows : goal.followed-returns-in-Some-optional_token_of-clause-rows
followed-returns-in-Some-optional_token_of-clause-rows t c =
    let facts = c.args.truth.now in
    let e = c.in-Some-optional_token_of.expr in
    let w = c.args.shape.width in
    IfOk-weaker c.step_over-in-Some-optional_token_of.result _ _ (λ v h i j p q.
    let r = h i j p q in
    let m = stepped_match c.args.table.items w i facts.words facts e j (Match (Holds facts) (tree c.args.part.now))
    (λ k. c.optional_token_of.ensures.word e c.in-Some-optional_token_of.is facts k j) in
    (λ a. m.0 (r.0 a), λ a. r.1 (m.1 a)))
    c.step_over-in-Some-optional_token_of.ensures.rows

pub followed-run_on-requires-clause-expr : goal.followed-run_on-requires-clause-expr
followed-run_on-requires-clause-expr t c =
    c.short_run_of.ensures.proper c.in-Some-short_run_of.expr c.args.truth.now.exprs c.in-Some-short_run_of.is c.requires.proper

pub followed-returns-in-Some-short_run_of-clause-rows : goal.followed-returns-in-Some-short_run_of-clause-rows
followed-returns-in-Some-short_run_of-clause-rows t c = λ i j p q.
    let facts = c.args.truth.now in
    let e = c.in-Some-short_run_of.expr in
    let w = c.args.shape.width in
    let v : c.deref_mut.result.now ≡ c.args.table.items = c.deref_mut.ensures.value in
    let same : length c.deref_mut.result.now ≡ length c.args.table.items = ap length v in
    let back = lent c.args.table.len c.run_on.new.table c.args.table.items (omega (arith, c.args.table.ok.0)) in
    let r = subst (λ xs. InTable c.run_on.new.table w i j ↔ Run xs w i facts.words facts e j) v (c.run_on.ensures.rows i j p q) in
    let m = run_match c.args.table.items w i facts.words facts e j (Match (Holds facts) (tree c.args.part.now))
    (λ k. c.short_run_of.ensures.words e c.in-Some-short_run_of.is facts k j) in
    subst (λ xs. InTable xs w i j ↔ ((k : ℕ) × (k ≤ facts.words) × InTable c.args.table.items w i k × Match (Holds facts) (tree c.args.part.now) k j)) (sym back) (λ a. m.0 (r.0 a), λ a. r.1 (m.1 a))

pub followed-step_over-requires-in-Some-optional_token_of-clause-expr : goal.followed-step_over-requires-in-Some-optional_token_of-clause-expr
followed-step_over-requires-in-Some-optional_token_of-clause-expr t c =
    c.optional_token_of.ensures.proper c.in-Some-optional_token_of.expr c.args.truth.now.exprs c.in-Some-optional_token_of.is c.requires.proper

pub rows-returns-in_ok-links-in-Rep-clause-bound : goal.rows-returns-in_ok-links-in-Rep-clause-bound
rows-returns-in_ok-links-in-Rep-clause-bound t c =
    let shown = is_rep c.args.pat.now c.in-Rep.inner c.deref-in-Rep.result.now c.in-Rep.least c.in-Rep.most c.in-Rep.is c.deref-in-Rep.ensures in
    let e : weight_of (tree c.args.pat.now) ≡ weight_of (tree c.deref-in-Rep.result.now) + turns c.in-Rep.least c.in-Rep.most = ap weight_of shown in
    bound_of_both c.args.steps.now c.rows.new.steps c.repetition.new.steps _ _ (triangle (c.args.truth.now.words + 1)) (weight_of (tree c.args.pat.now)) e c.rows.ensures.bound
    (subst (λ n. c.repetition.new.steps ≤ c.rows.new.steps + turns c.in-Rep.least c.in-Rep.most * triangle (n + 1)) c.requires.words c.repetition.ensures.bound)

pub sequence-followed-requires : goal.sequence-followed-requires
sequence-followed-requires t c =
    let ps = c.in-Some.rest.now in
    let all = c.args.parts.now in
    let k = c.loop-part.part-index in
    let x = c.part-item.result in
    let T = triangle (c.args.shape.last + 1) in
    let inv = c.loop-part.invariant in
    let count : c.args.shape.last ≡ c.args.truth.now.words = c.requires.words in
    let d : trees (drop k ps) ≡ and_more (tree x) (trees (drop (k + 1) ps)) = next_part ps k x c.loop-part-test.true c.part-item.is (λ qs. qs) in
    let e : weight_of_all (trees (drop k ps)) ≡ weight_of (tree x) + 1 + weight_of_all (trees (drop (k + 1) ps)) = ap weight_of_all d in
    let first : weight_of_all (trees all) ≡ weight_of (tree c.in-Some.first.now) + 1 + weight_of_all (trees ps) = ap (λ qs. weight_of_all (trees qs)) c.in-Some.ensures.cases.0 in
    let ahead = weight_ahead ps k in
    let room : c.args.steps.now + weight_of_all (trees all) * T < 2 ^ 64 =
    subst (λ n. c.args.steps.now + weight_of_all (trees c.args.parts.now) * triangle (n + 1) < 2 ^ 64) (sym count) c.requires.countable in
    let enough : c.loop-part.steps + (weight_of (tree x) + 1) * T < 2 ^ 64 =
    room_for_next (2 ^ 64) c.args.steps.now c.loop-part.steps (weight_of (tree x)) _ T (weight_of_all (trees all)) _ e inv.bound room in (
      omega (arith, c.decreases),
      (
        (subst (AllProper c.args.truth.now.exprs) d inv.proper).0,
        (
          c.requires.words,
          (
            inv.wide,
            (
              subst (λ n. length c.loop-part.table.items ≡ (n + 1) * c.args.shape.width) count inv.whole,
              (
                λ i j p q. inv.forward i j (omega arith) (omega arith),
                subst (λ n. c.loop-part.steps + (weight_of (tree c.part-item.result) + 1) * triangle (n + 1) < 2 ^ 64) count enough,
              ),
            ),
          ),
        ),
      ),
    )
