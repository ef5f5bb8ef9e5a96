-- Why the texts of a row were not copied, as the fault of the whole row.
use Rattle.std.proofs.Common.{◌≡◌, ◌≢◌, Result, Err, IfErr, refl, sym, subst, ◌∙◌}
use Rattle.std.specs.Result.{IsErrAnd}
use Rattle.std.proofs.lemmas.Result.{err_from_is_err_and}
use Rattle.tb_reads.specs.declared.error.ReadError.{ReadError}
use Rattle.tb_reads.specs.declared.error.ReadError.TheVariants.{Store, Form}
use Rattle.tb_reads.specs.Failing.{IsUnread}

module _ {X T : Type 0} (r : Result X ReadError) (fault : ReadError) (reported : IsErrAnd r (λ e. e ≡ fault)) (unread : IsUnread T fault) where
  pub unread_form : r ≡ Err Form → ¬ T
  unread_form failed =
      let is = err_from_is_err_and r reported in
      let found = is.1 in
      let handed = is.2 in
      let same : fault ≡ Form = cc in
      subst (IsUnread T) same unread

  texts : (e : ReadError) → IsUnread T e → e ≢ Form → T
  texts Form left other = absurd (other refl)
  texts (Store e) left other = left.1

  pub unread_want : {P : Type 0} → (T → P) → IfErr r (λ e. e ≢ Form → P)
  unread_want {P} so =
      let is = err_from_is_err_and r reported in
      subst (λ s. IfErr s (λ e. e ≢ Form → P)) (sym is.1) (λ other. so (texts fault unread (λ form. other (is.2 ∙ form))))
