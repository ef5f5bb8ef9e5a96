-- What is found by a `sent_id` is what the state has of it.
use Rattle.std.proofs.Common.{◌≡◌, ℕ, ◌-◌, List, Some, sym, ap, ◌∙◌, arith}
use Rattle.tb_core.specs.Machine.{Sentence, Machine}
use Rattle.tb_reads.specs.Found.{IsNumberOf}
use Rattle.tb_lists.specs.Found.{FoundText, IsFound, found_line}

pub is_located : (s : Machine) (id : List ℕ) (n : ℕ) (line : FoundText) (h : IsNumberOf (λ (x : Sentence). x.sent_id) id s.sentences (Some n)) → line ≡ found_line s n h.0 → IsFound s id line
is_located s id n line h is =
    let at : line.no ≡ n = ap (λ (l : FoundText). l.no) is in
    record { place = n - 1; found = h.0; there = record { counted = omega (arith, at, h.1); there = h.2 }; named = h.3; reported = is ∙ ap (λ k. found_line s k h.0) (sym at) }
