-- Rows that are read one at a time: those given so far begin the answer.
use Rattle.std.proofs.Common.{◌≡◌, ◌≢◌, All, ℕ, suc, true, false, List, [], ◌∷◌, ◌++◌, map, filter, refl, sym, ap, ◌∙◌}
use Rattle.sqlite.specs.declared.types.Value.TheVariants.{Null}
use Rattle.sqlite.specs.Order.{Row, column}
use Rattle.sqlite.specs.Tree.{Trees}
use Rattle.sqlite.specs.Query.{Query, IsAnswer}
use Rattle.sqlite.specs.Program.{overlay}
use Rattle.sqlite.specs.Command.TheVariants.{Select}
use Rattle.sqlite.specs.Listing.{understood, reads_listing}
use Rattle.sqlite.specs.Store.{Ghosts}
use Rattle.sqlite.specs.Held.{Held, state}
use Rattle.sqlite.specs.Given.{HasGiven}
use Rattle.sqlite.proofs.Callers.{IsPlain, command_of, begins_as, given_begin}
use Rattle.tb_tables.specs.Layout.{desk_schema}
use Rattle.tb_tables.specs.Records.{Sentence, Revision, Shows, numbered, sentence_shown, sentence_view, revision_shown, revision_view}
use Rattle.tb_tables.proofs.Texts.{simple}
use Rattle.tb_reads.specs.declared.stream.CurrentRev.{CurrentRev}
use Rattle.std.proofs.lemmas.List.{map-append}
use Rattle.tb_reads.specs.Streams.{head_of, head_shown, head_columns}
use Rattle.std.specs.List.{AllByRecursion}
use Rattle.std.proofs.lemmas.List.Elements.{recursion_from_All}
use Rattle.tb_reads.specs.Readable.{IsSentence, IsHead, IsRevision, ComesBefore}
use Rattle.sqlite_trees.specs.Tree.{IsAscending}
use Rattle.tb_reads.proofs.Queries.{rising, select_heads_terms, select_revisions_terms}
use Rattle.tb_reads.proofs.Ordered.{first, IsFirst, first_in_order, same_list, by_order, keyed_twice, pair, IsPair, pair_in_order, revisions_rise, revisions_placed}
use Rattle.tb_reads.proofs.Sifted.{sifted, sifted_rise, sifted_placed}

pub begun_answer : {S : Type 0} (g : Ghosts S) (sql : List ℕ) (q : Query) (names : List (List ℕ)) (h : Held S) (given : List Row) → command_of (understood desk_schema sql) ≡ Select (record { lets = []; body = q }) names
    → IsPlain (understood desk_schema sql) → reads_listing desk_schema sql ≡ false → (state g h).now.schema ≡ desk_schema → HasGiven g sql [] h given
    → (tail : List Row) × IsAnswer q (overlay (state g h).now.trees []) [] (given ++ tail)
begun_answer g sql q names h given is plain unlisted has reported =
    let start = begins_as sql [] (state g h) (state g h) desk_schema has (Select (record { lets = []; body = q }) names) is plain unlisted given (given_begin g sql [] h given reported) in
    (start.1.0, start.1.1 Null)

pub all_kept : {X : Type 0} (xs : List X) → filter (λ _. true) xs ≡ xs
all_kept [] = refl
all_kept (x ∷ xs) = ap (λ ys. x ∷ ys) (all_kept xs)

heads_show : (k : ℕ) (xs : List Sentence) → map head_columns (numbered sentence_shown k xs) ≡ map head_shown (map head_of xs)
heads_show k [] = refl
heads_show k (x ∷ xs) = ap (λ rows. head_shown (head_of x) ∷ rows) (heads_show (suc k) xs)

pub heads_all : (db : Trees) (rows : List Row) → IsAnswer (simple 3 [] select_heads_terms (rising 0 ∷ [])) (overlay db []) [] rows → (xs : List Sentence) → Shows sentence_view (numbered sentence_shown 1 xs) (db 3)
    → rows ≡ map head_shown (map head_of xs)
heads_all db rows answer xs holds =
    sifted 3 [] select_heads_terms (rising 0 ∷ []) [] sentence_view (λ r. column r 0 ∷ []) head_columns (λ _. true) (λ _. refl) (overlay db []) rows answer refl (numbered sentence_shown 1 xs) first IsFirst
    (sifted_rise sentence_shown (λ _ _. refl) head_columns (λ _. true) 1 xs) (sifted_placed sentence_shown (λ _ _. refl) head_columns (λ _. true) 1 xs) (first_in_order 0 3 select_heads_terms) holds
    ∙ ap (map head_columns) (all_kept (numbered sentence_shown 1 xs)) ∙ heads_show 1 xs

head_alike : (a b : CurrentRev) → a.batch ≡ b.batch → a.rev ≡ b.rev → a ≡ b
head_alike a b n r = ap (λ k. record { batch = k; rev = a.rev }) n ∙ ap (λ k. record { batch = b.batch; rev = k }) r

head_same : (a b : CurrentRev) → head_shown a ≡ head_shown b → a ≡ b
head_same a b e =
    let n : a.batch ≡ b.batch = cc in
    let r : a.rev ≡ b.rev = cc in
    head_alike a b n r

pub same_heads : (xs ys : List CurrentRev) → map head_shown xs ≡ map head_shown ys → xs ≡ ys
same_heads = same_list head_shown head_same

-- one more row is one more record
pub shown_push : {X : Type 0} (shown : X → Row) (xs : List X) (x : X) (r : Row) → r ≡ shown x → map shown xs ++ r ∷ [] ≡ map shown (xs ++ x ∷ [])
shown_push shown xs x r is = ap (λ y. map shown xs ++ y ∷ []) is ∙ sym (map-append shown xs (x ∷ []))

-- a row that shows no such record stands in no answer
pub not_among : {X : Type 0} (Is : X → Type 0) (shown : X → Row) (given : List Row) (row : Row) (tail : List Row) (xs : List X) → AllByRecursion Is xs → (given ++ row ∷ []) ++ tail ≡ map shown xs → ((x : X) → Is x → row ≢ shown x) → ⊥
not_among Is shown [] row tail [] each e none = absurd cc
not_among Is shown [] row tail (x ∷ xs) each e none = none x each.0 cc
not_among Is shown (r ∷ given) row tail [] each e none = absurd cc
not_among Is shown (r ∷ given) row tail (x ∷ xs) each e none =
    let rest : (given ++ row ∷ []) ++ tail ≡ map shown xs = cc in
    not_among Is shown given row tail xs each.1 rest none

heads_fit : (xs : List Sentence) → AllByRecursion IsSentence xs → AllByRecursion IsHead (map head_of xs)
heads_fit [] each = tt
heads_fit (x ∷ xs) each = (record { batch_fits = each.0.batch_fits; rev_fits = each.0.rev_fits }, heads_fit xs each.1)

pub heads_readable : (xs : List Sentence) → All IsSentence xs → AllByRecursion IsHead (map head_of xs)
heads_readable xs each = heads_fit xs (recursion_from_All IsSentence xs each)

-- the whole answer shows the revisions, where they stand in the order of their keys
pub revisions_all : (db : Trees) (rows : List Row) → IsAnswer (simple 5 [] select_revisions_terms (rising 1 ∷ rising 2 ∷ [])) (overlay db []) [] rows → (xs : List Revision) → All IsRevision xs → IsAscending ComesBefore xs
    → Shows revision_view (map revision_shown xs) (db 5) → rows ≡ map revision_shown xs
revisions_all db rows answer xs each up holds =
    let fit = recursion_from_All IsRevision xs each in
    by_order 5 select_revisions_terms (rising 1 ∷ rising 2 ∷ []) (λ r. column r 1 ∷ column r 2 ∷ []) revision_view (λ _. refl) (overlay db []) rows answer (map revision_shown xs) keyed_twice pair IsPair (λ _. refl) (λ _. refl)
    (revisions_rise (λ r. r) xs fit up) (revisions_placed (λ r. r) xs fit) (pair_in_order 5 select_revisions_terms) holds
