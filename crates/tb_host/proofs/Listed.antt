-- Of which file or log the version of a desk is listed.
use Rattle.std.proofs.Common.{◌≡◌, ◌⊎◌, refl, sym, subst, inl, inr, Option, Some, None, Result, Ok, Err, IfOk}
use Rattle.std.specs.Option.{ok_or}
use Rattle.tb_host.specs.Contents.{version_by}
use Rattle.tb_host.specs.declared.causes.FileCause.{FileCause}
use Rattle.tb_host.specs.declared.contents.Version.{Version}

-- that of a log, or else that of a file
pub by_log : (L : Version → Type 0) (in_log in_file : Option Version) (result : Result Version FileCause)
    → result ≡ version_by in_log in_file → ((v : Version) → in_log ≡ Some v → L v) → IfOk result (λ v. (in_file ≡ Some v) ⊎ L v)
by_log L (Some v) in_file result is lists = subst (λ r. IfOk r (λ v. (in_file ≡ Some v) ⊎ L v)) (sym is) (inr (lists v refl))
by_log L None (Some v) result is lists = subst (λ r. IfOk r (λ w. (Some v ≡ Some w) ⊎ L w)) (sym is) (inl refl)
by_log L None None result is lists = subst (λ r. IfOk r (λ v. (None ≡ Some v) ⊎ L v)) (sym is) tt

-- that of a file, if it has one
pub by_file : (L : Version → Type 0) (in_file : Option Version) (cause : FileCause) (result : Result Version FileCause)
    → result ≡ ok_or in_file cause → ((v : Version) → in_file ≡ Some v → L v) → IfOk result L
by_file L (Some v) cause result is lists = subst (λ r. IfOk r L) (sym is) (lists v refl)
by_file L None cause result is lists = subst (λ r. IfOk r L) (sym is) tt

pub by_either : (F L : Version → Type 0) (in_file : Option Version) (result : Result Version FileCause)
    → IfOk result (λ v. (in_file ≡ Some v) ⊎ L v) → ((v : Version) → in_file ≡ Some v → F v) → IfOk result (λ v. F v ⊎ L v)
by_either F L in_file (Ok v) (inl is) lists = inl (lists v is)
by_either F L in_file (Ok v) (inr log) lists = inr log
by_either F L in_file (Err e) h lists = tt
