use Rattle.std.proofs.Common.{◌∷◌, [], ◌++◌, List, ℕ, ap, length, not, rules, subst, sym, ◌∙◌}
use Rattle.std.specs.List.{list_any}
use Rattle.std.specs.Prelude.{bytes_eq}
use Rattle.tb_rules.specs.File.{HasTaken}
use Rattle.tb_rules.proofs.Taken.{not_unnamed, taken_alone, taken_twice, taken_next, name_added, named}
use Rattle.tb_rules.proofs.Valid.{only_memory}
use Rattle.tb_rules.proofs.taking.Checker.take.Goals as goal
use Rattle.tb_rules.proofs.taking.Checker.take.Goals.{in-Ok-true, in-Ok-false, in-Err}

pub returns-in_err-check_alone-clause-fault : goal.returns-in_err-check_alone-clause-fault
returns-in_err-check_alone-clause-fault g c = λ before h.
    let count = c.count-sentence.ensures.count ∙ ap length c.self.view_is in
    let fault = taken_alone c.args.self.now before c.args.block.now c.count-sentence.result c.in_err-check_alone.field-0.0 h count c.in_err-check_alone.ensures.fault in
    search (rules, fault)

pub returns-in_err-check_alone-clause-only : goal.returns-in_err-check_alone-clause-only
returns-in_err-check_alone-clause-only g c = λ before h v.
    only_memory (before ++ c.args.block.now ∷ []) c.from_residual.result (returns-in_err-check_alone-clause-fault g c before h) v

pub returns-in_default-clause-fault : goal.returns-in_default-clause-fault
returns-in_default-clause-fault g c = λ before h. absurd (not_unnamed c.args.block.now c.in_ok-check_alone.ensures.valid c.in_default.ensures)

pub returns-in_default-clause-only : goal.returns-in_default-clause-only
returns-in_default-clause-only g c = λ before h v. absurd (not_unnamed c.args.block.now c.in_ok-check_alone.ensures.valid c.in_default.ensures)

pub returns-clause-valid : goal.returns-clause-valid
returns-clause-valid g c = λ before h. elim c.match-keep.branch [
  | in-Ok-true w ↦
      let name = c.in-Some.name.now in
      let is = named c.args.block.now name c.in_ok-check_alone.ensures.valid c.in-Some.ensures in
      let unknown = w.in-Ok-true.ensures.new ∙ ap not w.in-Ok-true.field-0-test in
      let added = name_added c.self.inside.names c.keep.new.self name w.in-Ok-true.field-0 w.in-Ok-true.field-0-test w.in-Ok-true.ensures.count w.in-Ok-true.ensures.known in
      rw w.result-is (taken_next c.self.inside.names c.keep.new.self before c.args.block.now name (subst (λ (names : List (List ℕ)). HasTaken names before) (sym c.self.view_is) h) c.in_ok-check_alone.ensures.valid is unknown added)
  | in-Ok-false w ↦ rw w.result-is tt
  | in-Err w ↦ rw w.result-is tt
]

pub returns-clause-fault : goal.returns-clause-fault
returns-clause-fault g c = λ before h. elim c.match-keep.branch [
  | in-Ok-true w ↦ rw w.result-is tt
  | in-Ok-false w ↦
      let name = c.in-Some.name.now in
      let is = named c.args.block.now name c.in_ok-check_alone.ensures.valid c.in-Some.ensures in
      let known = ap (λ (names : List (List ℕ)). list_any (bytes_eq name) names) (sym c.self.view_is) ∙ w.in-Ok-false.ensures.new ∙ ap not w.in-Ok-false.field-0-test in
      let count = c.count-sentence.ensures.count ∙ ap length c.self.view_is in
      rw w.result-is (taken_twice c.args.self.now before c.args.block.now name c.count-sentence.result h count c.in_ok-check_alone.ensures.valid is known)
  | in-Err w ↦ rw w.result-is tt
]

pub returns-clause-only : goal.returns-clause-only
returns-clause-only g c = λ before h v.
    only_memory (before ++ c.args.block.now ∷ []) c.match-keep.result (returns-clause-fault g c before h) v
