use Rattle.tb_core.specs.declared.refusals.Fault.TheVariants.{NotADesk}
use Rattle.std.proofs.Common.{◌≡◌, ◌∙◌, [], ◌∷◌, subst, rules, sym}
use Rattle.tb_conllu.specs.Reported.{IsFile}
use Rattle.tb_refine.proofs.There.{both_ok}
use Rattle.tb_commands.proofs.Corrected.{first_is, none_first, stored_alone, body_is_text, stored_file, taking_clear}
use Rattle.tb_commands.proofs.correcting.take.Goals as goal

pub returns-clause-refused : goal.returns-clause-refused
returns-clause-refused c r is s n base user place x reached named text moves =
    let file : IsFile c.args.text.now c.in-Ok.blocks.items = subst (λ t. IsFile t c.in-Ok.blocks.items) c.as_bytes.ensures.value c.in-Ok.ensures.file in
    let all : c.in-Ok.blocks.items ≡ x.current.body ∷ [] = stored_alone s place x c.args.text.now c.in-Ok.blocks.items (c.revisions_read_back.ensures s reached) named.has.there text file in
    let cur = first_is x.current.body c.in_ok-current.current.now c.deref.result.now c.in_ok-current.ensures.first (c.deref.ensures.value ∙ all) in
    let reported = rw is at c.judge_correction_body.ensures.refused in
    reported s n base user place x reached named cur (c.from.ensures ∙ moves)

pub returns-clause-accepted : goal.returns-clause-accepted
returns-clause-accepted c = both_ok c.judge_correction_body.result c.judge_correction_body.ensures.accepted c.judge_correction_body.ensures.text (λ p got spelled s n base user place x reached named text moves.
    let file : IsFile c.args.text.now c.in-Ok.blocks.items = subst (λ t. IsFile t c.in-Ok.blocks.items) c.as_bytes.ensures.value c.in-Ok.ensures.file in
    let all : c.in-Ok.blocks.items ≡ x.current.body ∷ [] = stored_alone s place x c.args.text.now c.in-Ok.blocks.items (c.revisions_read_back.ensures s reached) named.has.there text file in
    let cur = first_is x.current.body c.in_ok-current.current.now c.deref.result.now c.in_ok-current.ensures.first (c.deref.ensures.value ∙ all) in
    let done = got s n base user place x reached named cur (c.from.ensures ∙ moves) in
    (done.0, done.1, spelled ∙ body_is_text c.args.counts.now.limits s n base user c.args.body.now place x _ named.fresh named.has done.1))

pub returns-in-Err-clause-fails : goal.returns-in-Err-clause-fails
returns-in-Err-clause-fails c s n base user place x reached named text bad =
    let file = stored_file s place x c.args.text.now (c.revisions_read_back.ensures s reached) named.has.there text in
    let read : IsFile c.as_bytes.result.now (x.current.body ∷ []) = subst (λ t. IsFile t (x.current.body ∷ [])) (sym c.as_bytes.ensures.value) file in
    let reported : c.fault_of_text.result ≡ NotADesk = cc in
    c.fault_of_text.ensures.fails (c.in-Err.ensures.only (x.current.body ∷ []) read) reported

pub returns-in_err-current-clause-fails : goal.returns-in_err-current-clause-fails
returns-in_err-current-clause-fails c s n base user place x reached named text bad =
    let file : IsFile c.args.text.now c.in-Ok.blocks.items = subst (λ t. IsFile t c.in-Ok.blocks.items) c.as_bytes.ensures.value c.in-Ok.ensures.file in
    let all : c.in-Ok.blocks.items ≡ x.current.body ∷ [] = stored_alone s place x c.args.text.now c.in-Ok.blocks.items (c.revisions_read_back.ensures s reached) named.has.there text file in
    none_first x.current.body c.deref.result.now (sym c.in_err-current.ensures.none.1) (c.deref.ensures.value ∙ all)

pub returns-clause-fails : goal.returns-clause-fails
returns-clause-fails c s n base user place x reached named text bad = rw bad at c.judge_correction_body.ensures.refused

pub returns-clause-cause : goal.returns-clause-cause
returns-clause-cause c = taking_clear _ c.judge_correction_body.result c.judge_correction_body.ensures.refused
