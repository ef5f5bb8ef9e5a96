use Rattle.std.proofs.Common.{◌≡◌, ◌⊎◌, inl, inr, ℕ, Result, Ok, Err, IfErr, MatchResult}
use Rattle.tb_desk.proofs.programs.answer_words.Goals as goal

either : {X E : Type 0} (F : E → Type 0) (r : Result X E) (status answered : ℕ) → MatchResult r (λ _. status ≡ answered) (λ _. status ≡ 3) → IfErr r F
    → (status ≡ answered) ⊎ (((e : E) × F e) × (status ≡ 3))
either F (Ok x) status answered p refused = inl p
either F (Err e) status answered p refused = inr ((e, refused), p)

pub returns : goal.returns
returns g c = record {
  written = c.run-status.new.out;
  answered = c.run-status.result.status;
  done = c.run-status.ensures;
  flushed = c.hand_on.ensures.kept;
  ends = either (g.W.Sink.IsRefusal c.hand_on.new.self) c.hand_on.result c.status_after.result c.run-status.result.status c.status_after.ensures c.hand_on.ensures.refused;
}
