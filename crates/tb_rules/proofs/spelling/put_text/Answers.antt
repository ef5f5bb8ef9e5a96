use Rattle.std.proofs.Common.{◌++◌, ◌∷◌, [], List, ℕ, length, drop, sym, ap, ◌∙◌, arith}
use Rattle.std.proofs.lemmas.Bool.{false≢true}
use Rattle.std.specs.String.{string_bytes}
use Rattle.std.specs.Str.{chars}
use Rattle.std.specs.Char.{is_whitespace}
use Rattle.std.proofs.lemmas.Iterator.{YieldsList-from_chars}
use Rattle.std.proofs.lemmas.Iterator.Consumers.{YieldsList-turn, YieldsList-end}
use Rattle.std.proofs.lemmas.List.{drop_all}
use Rattle.tb_rules.specs.Expected.{continued}
use Rattle.tb_rules.proofs.Folds.{all_at, drop-turn}
use Rattle.tb_rules.proofs.spelling.put_text.Goals as goal

pub loop-c-preserved : goal.loop-c-preserved
loop-c-preserved c =
    let t = YieldsList-turn (YieldsList-from_chars c.args.text.now c.utf8.text cc) c.loop-c.yielded _ c.loop-c.yielded_by _ _ c.in-Some.c c.in-Some.is c.next.ensures.steps in
    λ next. c.in_ok-put.ensures.put (drop (length (c.loop-c.yielded ++ c.in-Some.c ∷ [])) (chars c.args.text.now) ++ next) ∙
    (ap (λ (xs : List ℕ). continued (string_bytes c.loop-c.folding.text) c.loop-c.folding.gap (xs ++ next)) (sym (drop-turn (chars c.args.text.now) c.loop-c.yielded c.in-Some.c t)) ∙ c.loop-c.invariant next)

pub returns-clause-put : goal.returns-clause-put
returns-clause-put c =
    let t = YieldsList-end (YieldsList-from_chars c.args.text.now c.utf8.text cc) c.loop-c.yielded _ c.loop-c.yielded_by _ _ c.in-None.is c.next.ensures.steps in
    λ next. ap (λ (xs : List ℕ). continued (string_bytes c.loop-c.folding.text) c.loop-c.folding.gap (xs ++ next)) (sym (drop_all (length c.loop-c.yielded) (chars c.args.text.now) (omega (arith, t.1)))) ∙ c.loop-c.invariant next

pub returns-in_err-put-clause-white : goal.returns-in_err-put-clause-white
returns-in_err-put-clause-white c = λ white.
    let t = YieldsList-turn (YieldsList-from_chars c.args.text.now c.utf8.text cc) c.loop-c.yielded _ c.loop-c.yielded_by _ _ c.in-Some.c c.in-Some.is c.next.ensures.steps in
    absurd (false≢true (c.in_err-put.ensures.white (all_at is_whitespace (chars c.args.text.now) (length c.loop-c.yielded) c.in-Some.c _ white (drop-turn (chars c.args.text.now) c.loop-c.yielded c.in-Some.c t))))
