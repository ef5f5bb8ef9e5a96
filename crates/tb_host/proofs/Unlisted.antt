-- Why no desk is listed.
use Rattle.std.proofs.Common.{◌≡◌, ◌⊎◌, ◌++◌, ℕ, List, [], codes, refl, sym, subst, inl, inr, Option, Some, None, Result, Ok, Err, IfErr, IsSomeAnd}
use Rattle.std.specs.Option.{ok_or}
use Rattle.std.specs.declared.fs.attrs.Metadata.{Metadata}
use Rattle.std.specs.Fs.{IsFile, file_type}
use Rattle.tb_host.specs.Contents.{IsFailedAt, IsHeldAs, IsNameCause, IsNoPlace, IsNotPlain, IsReserved, IsUnmakeable, IsUnversioned, Path, version_by}
use Rattle.tb_host.specs.declared.causes.FileCause.{FileCause}
use Rattle.tb_host.specs.declared.causes.FileCause.TheVariants.{OddLog, OtherDatabase}
use Rattle.tb_host.specs.declared.contents.Version.{Version}

-- neither a log nor its file lists one
pub by_none : (F : FileCause → Type 0) (L : Type 0) (in_log in_file : Option Version) (result : Result Version FileCause)
    → result ≡ version_by in_log in_file → (in_log ≡ None → L)
    → IfErr result (λ cause. F cause ⊎ ((cause ≡ OtherDatabase) × (in_file ≡ None) × L))
by_none F L (Some v) in_file result is none = subst (λ r. IfErr r (λ cause. F cause ⊎ ((cause ≡ OtherDatabase) × (in_file ≡ None) × L))) (sym is) tt
by_none F L None (Some v) result is none = subst (λ r. IfErr r (λ cause. F cause ⊎ ((cause ≡ OtherDatabase) × (Some v ≡ None) × L))) (sym is) tt
by_none F L None None result is none = subst (λ r. IfErr r (λ cause. F cause ⊎ ((cause ≡ OtherDatabase) × (◌≡◌ {A = Option Version} None None) × L))) (sym is) (inr (refl, refl, none refl))

-- a file lists none, and its log is odd
pub by_odd : (P : FileCause → Type 0) (in_file : Option Version) (cause : FileCause) (result : Result Version FileCause)
    → result ≡ ok_or in_file cause → P cause → IfErr result P
by_odd P (Some v) cause result is p = subst (λ r. IfErr r P) (sym is) tt
by_odd P None cause result is p = subst (λ r. IfErr r P) (sym is) p

-- what is found has this
pub some_there : {M : Type 0} (T : Option M → Type 0) (P : M → Type 0) (found : Option M) → IsSomeAnd found P → T found → (m : M) × T (Some m) × P m
some_there T P (Some m) p t = (m, t, p)
some_there T P None p t = absurd p

-- the cause is that of a log, where a file lists none
pub by_rest : (F : FileCause → Type 0) (L : Type 0) (P : FileCause → Type 0) (in_file : Option Version) (result : Result Version FileCause)
    → IfErr result (λ cause. F cause ⊎ ((cause ≡ OtherDatabase) × (in_file ≡ None) × L))
    → ((cause : FileCause) → F cause → P cause) → (in_file ≡ None → L → P OtherDatabase) → IfErr result P
by_rest F L P in_file (Ok v) h failed other = tt
by_rest F L P in_file (Err cause) (inl h) failed other = failed cause h
by_rest F L P in_file (Err cause) (inr h) failed other = subst P (sym h.0) (other h.1 h.2)

-- a path does not lead to a plain file
pub not_led : (IsTarget : Result (Option Metadata) FileCause → Type 0) (IsReal : Result Path FileCause → Type 0) (IsFailure : List ℕ → FileCause → Type 0)
    (IsThere : List ℕ → Option Metadata → Type 0) (IsBeginning : List ℕ → ℕ → List ℕ → Type 0) (path : List ℕ) (cause : FileCause) (result : Result Version FileCause) → result ≡ Err cause
    → IsNameCause path cause ⊎ IsNotPlain IsTarget IsReal (IsFailure path) (IsThere path) cause
    → IfErr result (IsUnversioned IsTarget IsReal IsFailure IsThere IsBeginning path)
not_led IsTarget IsReal IsFailure IsThere IsBeginning path cause result is (inl h) = subst (λ r. IfErr r (IsUnversioned IsTarget IsReal IsFailure IsThere IsBeginning path)) (sym is) (inl h)
not_led IsTarget IsReal IsFailure IsThere IsBeginning path cause result is (inr h) = subst (λ r. IfErr r (IsUnversioned IsTarget IsReal IsFailure IsThere IsBeginning path)) (sym is) (inr (inr (inl h)))

-- what a file begins with is held as the cause says
pub same_head : (bytes head : List ℕ) (cause : FileCause) → bytes ≡ head → IsHeldAs bytes cause → IsHeldAs head cause
same_head bytes head cause is held = subst (λ b. IsHeldAs b cause) is held

-- a result that is this cause
pub refused_as : {A : Type 0} (P : FileCause → Type 0) (cause : FileCause) (result : Result A FileCause) → result ≡ Err cause → P cause → IfErr result P
refused_as P cause result is p = subst (λ r. IfErr r P) (sym is) p

module _ (IsFailure : List ℕ → FileCause → Type 0) (IsThere : List ℕ → Option Metadata → Type 0) (IsBeginning : List ℕ → ℕ → List ℕ → Type 0) (path : List ℕ) where
  -- no desk may be made, for the log of the file
  pub by_log : (cause : FileCause)
      → IsFailedAt IsFailure (path ++ codes "-wal") cause ⊎ ((cause ≡ OddLog) × ((found : Metadata) × IsThere (path ++ codes "-wal") (Some found) × ¬ IsFile (file_type found)))
      → IsNoPlace IsFailure IsThere IsBeginning path cause
  by_log cause (inl failed) = inl (inr failed)
  by_log cause (inr odd) = inr (inr (inr (inr (inl odd))))

  -- nor where a path does not lead to a plain file
  pub not_made : (IsTarget : Result (Option Metadata) FileCause → Type 0) (IsReal : Result Path FileCause → Type 0) (cause : FileCause)
      → IsNameCause path cause ⊎ IsNotPlain IsTarget IsReal (IsFailure path) (IsThere path) cause
      → IsUnmakeable IsTarget IsReal IsFailure IsThere IsBeginning path cause
  not_made IsTarget IsReal cause (inl reserved) = inl reserved
  not_made IsTarget IsReal cause (inr not_plain) = inr (inl not_plain)

-- an empty name has no meaning of SQLite's
pub not_reserved : IsReserved [] → ⊥
not_reserved (inl same) = absurd cc
not_reserved (inr begins) = let same = begins.cut in absurd cc
