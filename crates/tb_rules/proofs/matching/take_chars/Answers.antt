use Rattle.std.proofs.Common.{◌++◌, ◌∷◌, [], length, drop, arith}
use Rattle.std.specs.Str.{chars}
use Rattle.std.proofs.lemmas.Iterator.{YieldsList-from_chars}
use Rattle.std.proofs.lemmas.Iterator.Consumers.{YieldsList-turn, YieldsList-end}
use Rattle.std.proofs.lemmas.List.{drop_all}
use Rattle.tb_rules.proofs.Folds.{drop-turn}
use Rattle.tb_rules.proofs.Compare.{awaits_less, awaits_refused, awaits_none}
use Rattle.tb_rules.proofs.matching.take_chars.Goals as goal

pub returns-in_default : goal.returns-in_default
returns-in_default c =
    let t = YieldsList-turn (YieldsList-from_chars c.args.text.now c.utf8.text cc) c.loop-c.yielded _ c.loop-c.yielded_by _ _ c.in-Some.c c.in-Some.is c.next.ensures.steps in
    let first = c.args.expected in
    let now = c.loop-c.now in
    let cs = chars c.args.text.now in
    awaits_refused first.rest.now now.rest.now first.begun first.gap now.begun now.gap cs (drop (length c.loop-c.yielded) cs) (c.in-Some.c ∷ []) (drop (length (c.loop-c.yielded ++ c.in-Some.c ∷ [])) cs) (drop-turn cs c.loop-c.yielded c.in-Some.c t) c.loop-c.invariant c.in_default.ensures

pub loop-c-preserved : goal.loop-c-preserved
loop-c-preserved c =
    let t = YieldsList-turn (YieldsList-from_chars c.args.text.now c.utf8.text cc) c.loop-c.yielded _ c.loop-c.yielded_by _ _ c.in-Some.c c.in-Some.is c.next.ensures.steps in
    let first = c.args.expected in
    let now = c.loop-c.now in
    let after = c.in-Some-take_char.after in
    let cs = chars c.args.text.now in
    awaits_less first.rest.now now.rest.now after.rest.now first.begun first.gap now.begun now.gap after.begun after.gap cs (drop (length c.loop-c.yielded) cs) (c.in-Some.c ∷ []) (drop (length (c.loop-c.yielded ++ c.in-Some.c ∷ [])) cs) (drop-turn cs c.loop-c.yielded c.in-Some.c t) c.loop-c.invariant c.in-Some-take_char.ensures

pub returns : goal.returns
returns c =
    let t = YieldsList-end (YieldsList-from_chars c.args.text.now c.utf8.text cc) c.loop-c.yielded _ c.loop-c.yielded_by _ _ c.in-None.is c.next.ensures.steps in
    let first = c.args.expected in
    let now = c.loop-c.now in
    let cs = chars c.args.text.now in
    awaits_none first.rest.now now.rest.now first.begun first.gap now.begun now.gap cs (drop (length c.loop-c.yielded) cs) (drop_all (length c.loop-c.yielded) cs (omega (arith, t.1))) c.loop-c.invariant
