-- On the tables of version 1, with no limit on its steps, such a statement is refused nothing.
use Rattle.std.proofs.Common.{◌≡◌, ℕ, List, [], length, true, false, None, sym, ap, subst, ◌∙◌, inl, inr, append-nil}
use Rattle.sqlite.specs.declared.error.Error.{Error}
use Rattle.sqlite.specs.Order.{Row}
use Rattle.sqlite.specs.Command.{Command}
use Rattle.sqlite.specs.Term.{Term}
use Rattle.sqlite.specs.Effect.{Database, RefusesQuery, RefusesToRead}
use Rattle.sqlite.specs.Listing.{understood, reads_listing, IsSourceOf}
use Rattle.sqlite.specs.State.{State, Fails, FailsToQuery, IsNotRun, IsNoStatement}
use Rattle.sqlite.proofs.Callers.{IsPlain, command_of}
use Rattle.sqlite_value.specs.declared.keys.Key.{Key}
use Rattle.sqlite_typing.specs.Types.{accepts_program}
use Rattle.tb_tables.specs.Layout.{version_one_schema}
use Rattle.tb_tables.specs.Failing.{IsWhole}
use Rattle.tb_tables.proofs.Texts.{simple}
use Rattle.tb_verify.proofs.Version1Texts.{Selects}

unrefused : (t : ℕ) (terms : List Term) (order : List (Term × Key)) → accepts_program version_one_schema [] (simple t [] terms order) [] ≡ true → (db : Database) (e : Error) → db.schema ≡ version_one_schema
    → RefusesQuery None db (record { lets = []; body = simple t [] terms order }) [] e → ⊥
unrefused t terms order typed db e has (inl h) = let is : accepts_program db.schema [] (simple t [] terms order) [] ≡ true = ap (λ s. accepts_program s [] (simple t [] terms order) []) has ∙ typed in let no_type = h.1 in absurd cc
unrefused t terms order typed db e has (inr (inl (is, inl h))) = h
unrefused t terms order typed db e has (inr (inl (is, inr h))) = h.4
unrefused t terms order typed db e has (inr (inr h)) = let unlimited = h.1 in absurd cc

module _ (sql : List ℕ) (params : Row) (old new : State) (command : Command) (has : old.now.schema ≡ version_one_schema) (unlimited : old.step_limit ≡ None) (is : command_of (understood version_one_schema sql) ≡ command)
    (plain : IsPlain (understood version_one_schema sql)) (unlisted : reads_listing version_one_schema sql ≡ false) (whole : IsWhole (length sql) (length params) (understood version_one_schema sql)) where
  plain_here : IsPlain (understood old.now.schema sql)
  plain_here = subst (λ s. IsPlain (understood s sql)) (sym has) plain

  whole_here : IsWhole (length sql) (length params) (understood old.now.schema sql)
  whole_here = subst (λ s. IsWhole (length sql) (length params) (understood s sql)) (sym has) whole

  is_statement : (e : Error) → IsNoStatement old sql params e → ⊥
  is_statement e (inl (fault, failed, _)) = subst (IsWhole (length sql) (length params)) failed whole_here
  is_statement e (inr (c, made, inl more)) = more.0 (subst (IsWhole (length sql) (length params)) made whole_here).0
  is_statement e (inr (c, made, inr (inl count))) = count.0 (subst (IsWhole (length sql) (length params)) made whole_here).1
  is_statement e (inr (c, made, inr (inr clock))) = clock.0 (subst IsPlain made plain_here).1

  only_fails : ((db : Database) (e : Error) → db.schema ≡ version_one_schema → RefusesToRead None command db params e → ⊥) → (e : Error) → FailsToQuery sql params old new e → Fails old new ⊥ e
  unfolding FailsToQuery IsNotRun
  only_fails never e (inl (inl h)) = absurd (is_statement e h.0)
  only_fails never e (inl (inr h)) = h
  only_fails never e (inr ran) =
      let known = sym ran.1.is ∙ ap (λ s. understood s sql) has in
      let bare = subst IsPlain (sym known) plain in
      let it = rw (bare.0, bare.1, append-nil params) at ran.2 in
      let db : it.0 ≡ old.now = subst (λ b. IsSourceOf b old.now it.0) (ap (λ s. reads_listing s sql) has ∙ unlisted) it.1 in
      let this : ran.0.command ≡ command = ap command_of known ∙ is in
      absurd (never it.0 e (ap (λ (d : Database). d.schema) db ∙ has) (subst (λ l. RefusesToRead l command it.0 params e) unlimited (subst (λ k. RefusesToRead old.step_limit k it.0 params e) this it.2)))

-- the store failed, or memory is wanting
pub select_fails : (sql : List ℕ) (tree : ℕ) (terms : List Term) (order : List (Term × Key)) (names : List (List ℕ)) → Selects sql tree terms order names → (old new : State) (e : Error) → old.now.schema ≡ version_one_schema → old.step_limit ≡ None
    → FailsToQuery sql [] old new e → Fails old new ⊥ e
select_fails sql tree terms order names is old new e has unlimited failed = only_fails sql [] old new _ has unlimited is.command is.plain is.unlisted is.whole (unrefused tree terms order is.typed) e failed
