use Rattle.std.proofs.Common.{◌≡◌, ◌<◌, ◌+◌, ◌∙◌, ap, arith, drop, IsCharBoundary, length, List, lit<, subst, sym, ℕ}
use Rattle.std.proofs.lemmas.List.{drop-drop}
use Rattle.std.proofs.lemmas.Str.Pattern.{split_once_first}
use Rattle.std.specs.List.{before_first, position_or_len}
use Rattle.tb_words.proofs.Parts.{back_got}
use Rattle.tb_words.specs.QueryPlaces.{is_closing}
use Rattle.tb_words.proofs.queries.in_braces.Goals as goal

pub returns-in-Some : goal.returns-in-Some
returns-in-Some c = λ cut next.
    let text = c.args.text.now in
    let first : c.unwrap_or.result.now ≡ drop c.args.at text =
    rw c.unwrap_or.ensures (back_got text c.args.at c.get.result _ cut c.get.ensures.cases) in
    let second : c.unwrap_or-rest.result.now ≡ drop 1 c.unwrap_or.result.now =
    rw c.unwrap_or-rest.ensures (back_got c.unwrap_or.result.now 1 c.get-2.result _
    (subst (λ (bs : List ℕ). IsCharBoundary bs 1) (sym first) next) c.get-2.ensures.cases) in
    let rest : c.unwrap_or-rest.result.now ≡ drop (c.args.at + 1) text =
    second ∙ (ap (λ (bs : List ℕ). drop 1 bs) first ∙ drop-drop 1 c.args.at text) in
    let parts = rw c.in-Some.is at (split_once_first 125 c.unwrap_or-rest.result.now c.split_once.result c.split_once.ensures.cases (lit< tt)) in (
      subst (λ (bs : List ℕ). position_or_len is_closing bs < length bs) rest parts.0,
      parts.1 ∙ ap (λ (bs : List ℕ). before_first is_closing bs) rest,
    )

pub returns-in-None : goal.returns-in-None
returns-in-None c = λ cut next closed.
    let text = c.args.text.now in
    let first : c.unwrap_or.result.now ≡ drop c.args.at text =
    rw c.unwrap_or.ensures (back_got text c.args.at c.get.result _ cut c.get.ensures.cases) in
    let second : c.unwrap_or-rest.result.now ≡ drop 1 c.unwrap_or.result.now =
    rw c.unwrap_or-rest.ensures (back_got c.unwrap_or.result.now 1 c.get-2.result _
    (subst (λ (bs : List ℕ). IsCharBoundary bs 1) (sym first) next) c.get-2.ensures.cases) in
    let rest : c.unwrap_or-rest.result.now ≡ drop (c.args.at + 1) text =
    second ∙ (ap (λ (bs : List ℕ). drop 1 bs) first ∙ drop-drop 1 c.args.at text) in
    let none = rw c.in-None.is at (split_once_first 125 c.unwrap_or-rest.result.now c.split_once.result c.split_once.ensures.cases (lit< tt)) in
    let far = subst (λ (bs : List ℕ). position_or_len is_closing bs ≡ length bs) rest none in
    omega (arith, far, closed)
