use Rattle.std.proofs.Common.{◌≡◌, ◌∙◌, List, ℕ, None, Some, Ok, Err, false, ap, inl, inr, refl, sym}
use Rattle.std.proofs.lemmas.Bool.{true≢false}
use Rattle.std.proofs.lemmas.Result.{err_from_is_err_and}
use Rattle.std.specs.Prelude.{IsTrue, codes}
use Rattle.tb_host.proofs.Firsts.{at_said, ended_so, ends_so, keyed_so, rows_first, stopped_so, unread_first}
use Rattle.tb_host.specs.Looked.{IsFirstInBatches, IsFirstStop, IsValueOf, Said, Tells}
use Rattle.tb_host.specs.declared.misfit.Misfit.TheVariants.{Version}
use Rattle.tb_host.specs.declared.misfit.Stop.TheVariants.{Found}
use Rattle.tb_host.proofs.misfit.look.Goals as goal

pub returns-then-not-has_schema : goal.returns-then-not-has_schema
returns-then-not-has_schema g c said is = inl (sym (at_said _ said (λ (s : Said). false ≡ s.has_schema) is c.if-not-has_schema.ensures), refl)

pub returns-in_err-versions : goal.returns-in_err-versions
returns-in_err-versions g c said is =
    let p = err_from_is_err_and c.from_residual.result c.from_residual.ensures.1 in
    let schema = sym (at_said _ said (λ (s : Said). c.has_schema.result ≡ s.has_schema) is c.has_schema.ensures) ∙ c.if-not-has_schema.false in
    let told = at_said _ said (λ (s : Said). Tells s.may_fail s.versions c.versions-read.result (λ rows. rows.items)) is c.versions-read.ensures.told in
    stopped_so (IsTrue said.may_fail) (λ z. (said.versions ≡ None) × IsValueOf (codes "meta") z) (IsFirstStop said) c.from_residual.result p.0 c.in_err-versions.field-0.0 p.1 p.2
    (keyed_so said.may_fail c.versions-read.result (Err c.in_err-versions.field-0.0) said.versions (λ rows. rows.items) _ (codes "meta") c.in_err-versions.ensures refl told)
    (λ z h. inr (schema, unread_first said.versions _ _ z h))

pub returns-in_err-look_at_version : goal.returns-in_err-look_at_version
returns-in_err-look_at_version g c said is =
    let p = err_from_is_err_and c.from_residual-in_err-look_at_version.result c.from_residual-in_err-look_at_version.ensures.1 in
    let schema = sym (at_said _ said (λ (s : Said). c.has_schema.result ≡ s.has_schema) is c.has_schema.ensures) ∙ c.if-not-has_schema.false in
    let told = at_said _ said (λ (s : Said). Tells s.may_fail s.versions c.versions-read.result (λ rows. rows.items)) is c.versions-read.ensures.told in
    let kept : said.versions ≡ Some c.as_slice.result.now = keyed_so said.may_fail c.versions-read.result (Ok c.in_ok-versions.versions) said.versions (λ rows. rows.items) _ (codes "meta") c.in_ok-versions.ensures refl told
    ∙ ap (λ (z : List ℕ). Some z) (sym c.as_slice.ensures.value) in
    stopped_so (IsTrue said.may_fail) (λ z. z ≡ Found Version) (IsFirstStop said) c.from_residual-in_err-look_at_version.result p.0 c.in_err-look_at_version.field-0.0 p.1 p.2
    (ends_so (IsTrue said.may_fail) (λ z. z ≡ Found Version) c.in_err-look_at_version.field-0.0 c.in_err-look_at_version.ensures.wrong)
    (λ z h. inr (schema, rows_first said.versions _ _ z c.as_slice.result.now kept (inl (λ e. true≢false (sym (c.in_err-look_at_version.ensures.right.1 e)), h))))

pub returns : goal.returns
returns g c said is =
    let schema = sym (at_said _ said (λ (s : Said). c.has_schema.result ≡ s.has_schema) is c.has_schema.ensures) ∙ c.if-not-has_schema.false in
    let told = at_said _ said (λ (s : Said). Tells s.may_fail s.versions c.versions-read.result (λ rows. rows.items)) is c.versions-read.ensures.told in
    let kept : said.versions ≡ Some c.as_slice.result.now = keyed_so said.may_fail c.versions-read.result (Ok c.in_ok-versions.versions) said.versions (λ rows. rows.items) _ (codes "meta") c.in_ok-versions.ensures refl told
    ∙ ap (λ (z : List ℕ). Some z) (sym c.as_slice.ensures.value) in
    ended_so (IsTrue said.may_fail) (IsFirstInBatches said) (IsFirstStop said) c.look_from_batches.result (c.look_from_batches.ensures said (c.versions-read.ensures.still ∙ is))
    (λ z h. inr (schema, rows_first said.versions _ _ z c.as_slice.result.now kept (inr (c.in_ok-look_at_version.ensures.right.0 refl, h))))
