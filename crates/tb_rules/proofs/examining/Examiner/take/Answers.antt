use Rattle.std.proofs.Common.{◌++◌, ◌∷◌, [], List, ℕ, ap, cond, inl, not, subst, sym, true, ◌∙◌}
use Rattle.std.proofs.lemmas.Result.{IfOk-weaker, on_err_weaker}
use Rattle.std.specs.Prelude.{bytes_eq}
use Rattle.std.specs.List.{list_any}
use Rattle.tb_rules.specs.Broken.{AreNames}
use Rattle.tb_rules.proofs.Twice.{kept_again, name_again, named_next, new_name, on_ok, unnamed, unnamed_next, with_name}
use Rattle.tb_rules.proofs.examining.Examiner.take.Goals as goal

pub returns-in_default-clause-broken : goal.returns-in_default-clause-broken
returns-in_default-clause-broken g c = λ before h. inl (unnamed before c.args.block.now c.in_default.ensures, c.in_ok-broken.ensures)

pub returns-in_default-clause-names : goal.returns-in_default-clause-names
returns-in_default-clause-names g c = λ before h.
    let b = c.args.block.now in
    subst (λ (names : List (List ℕ)). AreNames names (before ++ b ∷ [])) (sym c.self.view_is) (unnamed_next c.args.self.now before b h c.in_default.ensures)

pub returns-clause-broken : goal.returns-clause-broken
returns-clause-broken g c = λ before h.
    let b = c.args.block.now in
    let name = c.in-Some.name.now in
    let new = c.in_ok-new.new in
    let found = ap (λ (names : List (List ℕ)). list_any (bytes_eq name) names) (sym c.self.view_is) ∙ c.in_ok-new.ensures.new in
    IfOk-weaker c.with_name.result _ _
    (λ all told. with_name new before b c.in_ok-broken.broken.items all.items c.in_ok-broken.ensures
    (λ yes_new. new_name c.args.self.now before b name h c.in-Some.ensures (found ∙ ap not yes_new))
    (λ no_new. name_again c.args.self.now before b name h c.in-Some.ensures (found ∙ ap not no_new))
    told)
    c.with_name.ensures.all

pub returns-clause-names : goal.returns-clause-names
returns-clause-names g c = λ before h.
    let b = c.args.block.now in
    let name = c.in-Some.name.now in
    on_ok _ c.with_name.result (
    named_next c.args.self.now c.keep.new.self before b name h c.in-Some.ensures
    (λ q. c.in_ok-new.ensures.known q ∙ ap (λ (names : List (List ℕ)). cond (bytes_eq name q) true (list_any (bytes_eq q) names)) c.self.view_is))

pub returns-clause-kept : goal.returns-clause-kept
returns-clause-kept g c =
    on_err_weaker c.with_name.result
    (λ again. kept_again c.self.inside.names c.keep.new.self c.in_ok-new.new c.in_ok-new.ensures.same again ∙ c.self.view_is)
    c.with_name.ensures.err
