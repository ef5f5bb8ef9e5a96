-- What a look finds first, table by table.
use Rattle.std.proofs.Common.{◌≡◌, ◌≢◌, ◌⊎◌, ◌<◌, ◌+◌, ◌++◌, ◌∙◌, ℕ, zero, suc, List, [], ◌∷◌, length, length-append, get_or, map, take, Bool, true, false, Bor, Option, None, Some, IfSome, Result, Ok, Err, refl, sym, ap, ap₂, subst, inl, inr, arith}
use Rattle.std.specs.Prelude.{IfErr, IsErrAnd, IsTrue, MatchResult, is_some, slice_get}
use Rattle.std.specs.List.{AllWithin, HoldsAt}
use Rattle.std.proofs.Math.Seq.{take-suc}
use Rattle.std.proofs.lemmas.List.{map-append}
use Rattle.tb_core.specs.Machine.{Sentence}
use Rattle.tb_core.specs.Moves.{MoveText}
use Rattle.tb_reads.specs.declared.error.ReadError.{ReadError}
use Rattle.tb_reads.specs.declared.error.ReadError.TheVariants.{Form, Store}
use Rattle.tb_refine.specs.DeskTables.{move_record}
use Rattle.tb_replay.specs.Summaries.{SummaryRow, entries_of, entry_of}
use Rattle.tb_tables.specs.Values.{move_of}
use Rattle.tb_tables.specs.declared.rows.MoveRow.{MoveRow}
use Rattle.tb_tables.specs.declared.rows.RevisionRow.{RevisionRow}
use Rattle.tb_tables.specs.declared.rows.SentenceRow.{SentenceRow}
use Rattle.tb_verify.specs.declared.unfit.Unfit.{Unfit}
use Rattle.tb_verify.specs.declared.unfit.Unfit.TheVariants as unfit
use Rattle.tb_host.specs.Looked.{AreRead, EndsIf, FindsOrFails, HasFailed, HasItsRows, InTable, IsMoveRow, IsSentenceRow, IsValueOf, IsWrongSentence, Said, Takes, TakesForNext, Tells, one_more, stop_in, stop_of_unfit}
use Rattle.tb_host.specs.Misfits.{IsStopOf, first_pulled, first_revised, found_by, smaller, stop_by}
use Rattle.tb_host.specs.declared.misfit.Misfit.{Misfit}
use Rattle.tb_host.specs.declared.misfit.Misfit.TheVariants as wrong
use Rattle.tb_host.specs.declared.misfit.Stop.{Stop}
use Rattle.tb_host.specs.declared.misfit.Stop.TheVariants.{Found, Failed}
use Rattle.tb_host.specs.declared.misfit.Table.{Table}

-- ---- why a look ends

pub found_more : (M N : Type 0) (P Q : Misfit → Type 0) (s : Stop) → FindsOrFails M P s → (M → N) → ((m : Misfit) → P m → Q m) → FindsOrFails N Q s
found_more M N P Q (Found m) found fails more = more m found
found_more M N P Q Failed failed fails more = fails failed

pub ends_more : (M : Type 0) (P Q : Stop → Type 0) (s : Stop) → EndsIf M P s → ((z : Stop) → P z → Q z) → EndsIf M Q s
ends_more M P Q (Found m) h more = more (Found m) h
ends_more M P Q Failed (inl failed) more = inl failed
ends_more M P Q Failed (inr h) more = inr (more Failed h)

pub ends_so : (M : Type 0) (P : Stop → Type 0) (s : Stop) → P s → EndsIf M P s
ends_so M P (Found m) h = h
ends_so M P Failed h = inr h

-- at a `?`
pub stopped_so : {X : Type 0} (M : Type 0) (P Q : Stop → Type 0) (r : Result X Stop) (e f : Stop) → r ≡ Err e → e ≡ f → EndsIf M P f → ((z : Stop) → P z → Q z) → IsErrAnd r (EndsIf M Q)
stopped_so {X} M P Q r e f is same h more = subst (λ (z : Result X Stop). IsErrAnd z (EndsIf M Q)) (sym is) (subst (EndsIf M Q) (sym same) (ends_more M P Q f h more))

pub stopped_by : {X : Type 0} (Q : Stop → Type 0) (r : Result X Stop) (e f : Stop) → r ≡ Err e → e ≡ f → Q f → IfErr r Q
stopped_by {X} Q r e f is same h = subst (λ (z : Result X Stop). IfErr z Q) (sym is) (subst Q (sym same) h)

-- at a last call
pub ended_so : {X : Type 0} (M : Type 0) (P Q : Stop → Type 0) (r : Result X Stop) → IsErrAnd r (EndsIf M P) → ((z : Stop) → P z → Q z) → IsErrAnd r (EndsIf M Q)
ended_so M P Q (Ok x) h more = absurd h
ended_so M P Q (Err s) h more = ends_more M P Q s h more

pub found_so : (M : Type 0) (P : Stop → Type 0) (r : Result (Unit {0}) Stop) → IsErrAnd r (EndsIf M P) → EndsIf M P (stop_in (found_by r))
found_so M P (Ok x) h = absurd h
found_so M P (Err (Found m)) h = h
found_so M P (Err Failed) h = h

-- ---- a read of a table

pub at_said : (o : Option Said) (said : Said) (P : Said → Type 0) → o ≡ Some said → IfSome o P → P said
at_said o said P is h = subst (λ (z : Option Said). IfSome z P) is h

pub rows_so : {A V : Type 0} (b : Bool) (read : Result V ReadError) (r : Result V Stop) (t : Table) (kept : Option (List A)) (items : V → List A) (U : Stop → Type 0)
    → MatchResult read (λ rows. r ≡ Ok rows) (λ e. IsErrAnd r (IsStopOf e t)) → IfErr r (EndsIf (IsTrue b ⊎ HasFailed read) U) → Tells b kept read items
    → MatchResult r (λ rows. kept ≡ Some (items rows)) (EndsIf (IsTrue b) (λ z. (kept ≡ None) × U z))
rows_so {A} {V} b (Ok rows) r t kept items U same unread told = subst (λ (z : Result V Stop). MatchResult z (λ rows. kept ≡ Some (items rows)) (EndsIf (IsTrue b) (λ y. (kept ≡ None) × U y))) (sym same) told
rows_so b (Err Form) (Ok rows) t kept items U same unread told = absurd same
rows_so b (Err Form) (Err (Found m)) t kept items U same unread told = (told, unread)
rows_so b (Err Form) (Err Failed) t kept items U same (inl (inl failed)) told = inl failed
rows_so b (Err Form) (Err Failed) t kept items U same (inl (inr never)) told = absurd never
rows_so b (Err Form) (Err Failed) t kept items U same (inr unread) told = inr (told, unread)
rows_so b (Err (Store e)) (Ok rows) t kept items U same unread told = absurd same
rows_so b (Err (Store e)) (Err s) t kept items U same unread told = subst (EndsIf (IsTrue b) (λ z. (kept ≡ None) × U z)) (sym same) (inl told)

pub keyed_so : {A V : Type 0} (b : Bool) (read : Result V ReadError) (r : Result V Stop) (kept : Option (List A)) (items : V → List A) (name : Bor (List ℕ)) (text : List ℕ)
    → MatchResult read (λ rows. r ≡ Ok rows) (λ e. r ≡ Err (stop_by e (Found (wrong.Values name)))) → name.now ≡ text → Tells b kept read items
    → MatchResult r (λ rows. kept ≡ Some (items rows)) (EndsIf (IsTrue b) (λ z. (kept ≡ None) × IsValueOf text z))
keyed_so {A} {V} b (Ok rows) r kept items name text same is told = subst (λ (z : Result V Stop). MatchResult z (λ rows. kept ≡ Some (items rows)) (EndsIf (IsTrue b) (λ y. (kept ≡ None) × IsValueOf text y))) (sym same) told
keyed_so {A} {V} b (Err Form) r kept items name text same is told = subst (λ (z : Result V Stop). MatchResult z (λ rows. kept ≡ Some (items rows)) (EndsIf (IsTrue b) (λ y. (kept ≡ None) × IsValueOf text y))) (sym same) (told, is)
keyed_so {A} {V} b (Err (Store e)) r kept items name text same is told = subst (λ (z : Result V Stop). MatchResult z (λ rows. kept ≡ Some (items rows)) (EndsIf (IsTrue b) (λ y. (kept ≡ None) × IsValueOf text y))) (sym same) (inl told)

module _ {A : Type 0} (kept : Option (List A)) (U : Stop → Type 0) (K : List A → Stop → Type 0) (z : Stop) where
  pub unread_first : (kept ≡ None) × U z → InTable kept U K z
  unread_first h = subst (λ (o : Option (List A)). InTable o U K z) (sym h.0) h.1

  pub rows_first : (rows : List A) → kept ≡ Some rows → K rows z → InTable kept U K z
  rows_first rows is h = subst (λ (o : Option (List A)). InTable o U K z) (sym is) h

pub no_some : {X : Type 0} (o : Option X) → None ≡ o → is_some o ≡ true → ⊥
no_some o e h = let t : false ≡ true = ap is_some e ∙ h in cc

-- ---- batches and moves

-- a turn of the loop
pub one_more_shown : {X Y Z : Type 0} (f : X → Z) (g : Y → Z) (ys : List Y) (found : List X) (k : ℕ) (y : Y) (x : X) → k < length ys → y ≡ get_or ys k y → map f found ≡ map g (take k ys) → f x ≡ g y → map f (found ++ x ∷ []) ≡ map g (take (k + 1) ys)
one_more_shown f g ys found k y x low there so is =
    let next : k + 1 ≡ suc k = omega arith in
    let whole : take (k + 1) ys ≡ take k ys ++ y ∷ [] = ap (λ j. take j ys) next ∙ take-suc ys k y low ∙ ap (λ z. take k ys ++ z ∷ []) (sym there) in
    map-append f found (x ∷ []) ∙ ap₂ (λ a b. a ++ b ∷ []) so is ∙ sym (map-append g (take k ys) (y ∷ [])) ∙ ap (map g) (sym whole)

pub err_is : {X E : Type 0} (e f : E) → ◌≡◌ {A = Result X E} (Err e) (Err f) → e ≡ f
err_is e f same = cc

pub move_in : (ms : List MoveText) (row : MoveRow) → map move_record ms ≡ map move_of (row ∷ []) → IsMoveRow row
move_in [] row e = absurd cc
move_in (m ∷ ms) row e =
    let head : move_record m ≡ move_of row = cc in
    (m, sym head)

-- the row of no move is that of no list of moves
pub no_move_in : (row : MoveRow) → ¬ IsMoveRow row → (ms : List MoveText) → map move_of (row ∷ []) ≢ map move_record ms
no_move_in row off ms e = off (move_in ms row (sym e))

-- ---- sentences

pub unfit_so : (u : Unfit) (number : ℕ) (M N : Type 0) (s : Stop) → s ≡ stop_of_unfit u number → M → (u ≡ unfit.NotADesk → N) → FindsOrFails M (λ m. (m ≡ wrong.Sentence number) × N) s
unfit_so unfit.NotADesk number M N s is may h = subst (FindsOrFails M (λ m. (m ≡ wrong.Sentence number) × N)) (sym is) (refl, h refl)
unfit_so unfit.Memory number M N s is may h = subst (FindsOrFails M (λ m. (m ≡ wrong.Sentence number) × N)) (sym is) may

pub takes_so : (number : ℕ) (own : List RevisionRow) (is_pulled : Bool) (revisions between later : List RevisionRow) (pulled among left : List ℕ)
    → revisions ≡ own ++ between → AllWithin (λ (row : RevisionRow). row.sent ≡ number) revisions 0 (length own)
    → (length own < length revisions → HoldsAt (λ (row : RevisionRow). row.sent ≢ number) revisions (length own)) → among ≡ pulled
    → (IsTrue is_pulled → among ≡ number ∷ left) → (is_pulled ≡ false → (first_pulled among ≢ Some number) × (left ≡ among)) → later ≡ between
    → Takes number own is_pulled revisions pulled later left
takes_so number own is_pulled revisions between later pulled among left cut alone all same taken other kept = record {
  cut = cut ∙ ap (λ z. own ++ z) (sym kept);
  own_alone = alone;
  all_own = all;
  taken = λ t. sym same ∙ taken t;
  other = λ f. (λ e. (other f).0 (ap first_pulled same ∙ e), (other f).1 ∙ same);
}

got : {A : Type 0} (rows : List A) (i : ℕ) (row : A) → i < length rows → row ≡ get_or rows i row → slice_get rows i ≡ Some row
got [] i row low there = absurd (omega (arith, low))
got (r ∷ rows) zero row low there = ap (λ z. Some z) (sym there)
got (r ∷ rows) (suc i) row low there = got rows i row (omega (arith, low)) there

-- the sentences of so many rows are read
abbrev pub ReadSoFar : (batches : ℕ) (rows : List SentenceRow) (revisions : List RevisionRow) (pulled : List ℕ) (count : ℕ) (later : List RevisionRow) (left : List ℕ) (entries : List SummaryRow) → Type 0
ReadSoFar batches rows revisions pulled count later left entries = (xs : List Sentence) × AreRead batches rows revisions pulled xs later left × (length xs ≡ count) × (entries ≡ entries_of xs)

abbrev pub IsReadAs : (batches number : ℕ) (row : SentenceRow) (own : List RevisionRow) (is_pulled : Bool) (entry : SummaryRow) → Type 0
IsReadAs batches number row own is_pulled entry = (x : Sentence) × IsSentenceRow batches number row own is_pulled x × (entry ≡ entry_of x)

module _ (batches : ℕ) (rows : List SentenceRow) (revisions : List RevisionRow) (pulled : List ℕ) (i : ℕ) (later after : List RevisionRow) (left over : List ℕ) (entries : List SummaryRow) (row : SentenceRow)
    (before : ReadSoFar batches rows revisions pulled i later left entries) (low : i < length rows) (there : row ≡ get_or rows i row) where
  here : slice_get rows (length before.0) ≡ Some row
  here = subst (λ k. slice_get rows k ≡ Some row) (sym before.2) (got rows i row low there)

  pub read_on : (entry : SummaryRow) (made : List SummaryRow) → (own : List RevisionRow) × (is_pulled : Bool) × Takes (i + 1) own is_pulled later left after over × IsReadAs batches (i + 1) row own is_pulled entry
      → made ≡ entries ++ entry ∷ [] → ReadSoFar batches rows revisions pulled (i + 1) after over made
  read_on entry made turn is = (
    before.0 ++ turn.3.0 ∷ [],
    one_more before.0 turn.3.0 row turn.0 turn.1 later after left over before.1 here (subst (λ k. Takes (k + 1) turn.0 turn.1 later left after over) (sym before.2) turn.2) (subst (λ k. IsSentenceRow batches (k + 1) row turn.0 turn.1 turn.3.0) (sym before.2) turn.3.1),
    length-append before.0 (turn.3.0 ∷ []) ∙ ap (λ k. k + 1) before.2,
    is ∙ ap₂ (λ a b. a ++ b ∷ []) before.3 turn.3.2 ∙ sym (map-append entry_of before.0 (turn.3.0 ∷ [])),
  )

  -- memory is taken for the next sentence
  pub taken_next : (own : List RevisionRow) (is_pulled : Bool) → Takes (i + 1) own is_pulled later left after over → HasItsRows batches row own → TakesForNext batches rows revisions pulled
  taken_next own is_pulled takes has = (before.0, later, left, before.1, (row, here, own, is_pulled, after, over, subst (λ k. Takes (k + 1) own is_pulled later left after over) (sym before.2) takes, has))

  pub wrong_next : (own : List RevisionRow) (is_pulled : Bool) → Takes (i + 1) own is_pulled later left after over → (s : Stop)
      → FindsOrFails (HasItsRows batches row own) (λ m. (m ≡ wrong.Sentence (i + 1)) × ((x : Sentence) → ¬ IsSentenceRow batches (i + 1) row own is_pulled x)) s
      → IsWrongSentence batches rows revisions pulled s
  wrong_next own is_pulled takes (Found m) h =
      subst (λ (y : Misfit). IsWrongSentence batches rows revisions pulled (Found y)) (sym h.0) (before.0, later, left, before.1, inl (row, here, ap (λ k. k + 1) (sym before.2), (own, is_pulled, after, over, takes, h.1)))
  wrong_next own is_pulled takes Failed has = taken_next own is_pulled takes has

pub none_over : (revisions : List RevisionRow) (pulled : List ℕ) → smaller (first_revised revisions) (first_pulled pulled) ≡ None → (revisions ≡ []) × (pulled ≡ [])
none_over [] [] e = (refl, refl)
none_over (r ∷ revisions) [] e = absurd (no_some _ (sym e) refl)
none_over [] (n ∷ pulled) e = absurd (no_some _ (sym e) refl)
none_over (r ∷ revisions) (n ∷ pulled) e = absurd (no_some _ (sym e) refl)

pub all_read : (batches : ℕ) (rows : List SentenceRow) (revisions later : List RevisionRow) (pulled left : List ℕ) (xs : List Sentence) → AreRead batches rows revisions pulled xs later left
    → (later ≡ []) × (left ≡ []) → AreRead batches rows revisions pulled xs [] []
all_read batches rows revisions later pulled left xs read over = subst (λ l. AreRead batches rows revisions pulled xs [] l) over.1 (subst (λ l. AreRead batches rows revisions pulled xs l left) over.0 read)
