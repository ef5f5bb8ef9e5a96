use Rattle.std.proofs.Common.{◌≡◌, ◌∙◌, ap, arith, drop, List, lit<, sym, ℕ}
use Rattle.std.proofs.lemmas.List.{take_all}
use Rattle.std.proofs.lemmas.Str.Pattern.{split_once_first}
use Rattle.std.specs.List.{before_first}
use Rattle.tb_words.proofs.Parts.{back_got}
use Rattle.tb_words.specs.FileLines.{is_line_feed}
use Rattle.tb_words.proofs.pictures.line_from.Goals as goal

pub returns-in-Some : goal.returns-in-Some
returns-in-Some c = λ cut.
    let rest : c.unwrap_or-rest.result.now ≡ drop c.args.start c.args.text.now =
    rw c.unwrap_or-rest.ensures (back_got c.args.text.now c.args.start c.get.result _ cut c.get.ensures.cases) in
    let parts = rw c.in-Some.is at (split_once_first 10 c.unwrap_or-rest.result.now c.split_once.result c.split_once.ensures.cases (lit< tt)) in
    parts.1 ∙ ap (λ (bs : List ℕ). before_first is_line_feed bs) rest

pub returns-in-None : goal.returns-in-None
returns-in-None c = λ cut.
    let rest : c.unwrap_or-rest.result.now ≡ drop c.args.start c.args.text.now =
    rw c.unwrap_or-rest.ensures (back_got c.args.text.now c.args.start c.get.result _ cut c.get.ensures.cases) in
    let none = rw c.in-None.is at (split_once_first 10 c.unwrap_or-rest.result.now c.split_once.result c.split_once.ensures.cases (lit< tt)) in
    sym (take_all _ c.unwrap_or-rest.result.now (omega (arith, none))) ∙ ap (λ (bs : List ℕ). before_first is_line_feed bs) rest
