-- What the pages of a log say of where it came from.
use Rattle.std.proofs.Common.{◌≡◌, ◌⊎◌, ◌↔◌, ◌<◌, ◌≤◌, ◌∙◌, ℕ, List, [], Option, Some, length, Bool, true, false, not, refl, sym, subst, inl, inr, arith}
use Rattle.std.proofs.lemmas.Bool.{true≢false}
use Rattle.std.proofs.lemmas.Grind.{same_number_lists}
use Rattle.std.specs.Prelude.{IsTrue}
use Rattle.sqlite_wal.proofs.RecoveryLemmas.{replays_once}
use Rattle.sqlite_wal.specs.Format.{be32}
use Rattle.sqlite_wal.specs.Opening.{RefusesLog}
use Rattle.sqlite_wal.specs.Outcome.{HasCause}
use Rattle.sqlite_wal.specs.PageSize.{IsPageSize, Names, bytes_of, size_in_file}
use Rattle.sqlite_wal.specs.Recovery.{AreFramesOf, Replays}
use Rattle.sqlite_wal.specs.declared.error.Error.{Error}
use Rattle.sqlite_wal.specs.declared.error.Error.TheVariants.{Corrupt}
use Rattle.sqlite_wal.specs.declared.page_size.PageSize.{PageSize}
use Rattle.tb_host.specs.Contents.{AreBegun, HasBegunAlone, IsUnwritten, MayBeOwnLog, NamesPageSize}

-- recovery takes frames of the same pages each time
pub same_pages : (size : ℕ) (log pages others : List ℕ) → AreFramesOf size log pages → AreFramesOf size log others → others ≡ pages
same_pages size log pages others these those =
    let same : length others ≡ length pages = replays_once size log (length others) (length pages) those.0 these.0 in
    same_number_lists others pages same (λ k low. those.1 k low ∙ sym (these.1 k (subst (λ n. k < n) same low)))

-- the pages that were found tell whether a log has begun alone
pub begun_by : (size : ℕ) (log pages : List ℕ) (has : Bool) → AreFramesOf size log pages → (has ≡ false) ↔ (pages ≡ []) ⊎ AreBegun log pages → (has ≡ false) ↔ HasBegunAlone size log
begun_by size log pages has are tells = (
  λ none. record { pages = pages; are = are; begun = tells.0 none },
  λ alone. tells.1 (subst (λ (x : List ℕ). (x ≡ []) ⊎ AreBegun log x) (same_pages size log pages alone.pages are alone.are) alone.begun),
)

-- a log that is not read has not
pub not_begun : (size : ℕ) (log : List ℕ) → ((k : ℕ) → ¬ Replays size log k) → (true ≡ false) ↔ HasBegunAlone size log
not_begun size log unread = (λ e. absurd (true≢false e), λ alone. absurd (unread (length alone.pages) alone.are.0))

-- by the size in its header
pub own_by : (size : ℕ) (log : List ℕ) (has : Bool) → NamesPageSize log → size ≡ be32 log 8 → (has ≡ false) ↔ HasBegunAlone size log → (has ≡ false) ↔ MayBeOwnLog log
own_by size log has names same tells = (
  λ none. inr (names, subst (λ n. HasBegunAlone n log) same (tells.0 none)),
  λ own. tells.1 (of_size own),
)
  where
    of_size : MayBeOwnLog log → HasBegunAlone size log
    of_size (inl unwritten) = absurd (unwritten.1 names)
    of_size (inr begun) = subst (λ n. HasBegunAlone n log) (sym same) begun.1

-- without a header
pub own_if_unwritten : (log : List ℕ) (has : Bool) → ¬ NamesPageSize log → (has ≡ false) ↔ IsUnwritten log → (has ≡ false) ↔ MayBeOwnLog log
own_if_unwritten log has names tells = (λ none. inl (tells.0 none, names), λ own. tells.1 (of_none own))
  where
    of_none : MayBeOwnLog log → IsUnwritten log
    of_none (inl unwritten) = unwritten.0
    of_none (inr begun) = absurd (names begun.0)

-- a test that is turned round
pub not_false : (b : Bool) (P : Type 0) → IsTrue b ↔ P → (not b ≡ false) ↔ P
not_false true P tells = (λ e. tells.0 refl, λ p. refl)
not_false false P tells = (λ e. absurd (true≢false e), λ p. absurd (true≢false (sym (tells.1 p))))

-- a log that the database refuses holds no frames
pub unread_by : (old new size : ℕ) (log bytes : List ℕ) (e : Error) → e ≡ Corrupt → HasCause old new (RefusesLog size log) e → log ≡ bytes → (k : ℕ) → ¬ Replays size bytes k
unread_by old new size log bytes e is cause same k = subst (λ (b : List ℕ). ¬ Replays size b k) same (refused (subst (HasCause old new (RefusesLog size log)) is cause) k)
  where
    refused : RefusesLog size log Corrupt → (j : ℕ) → ¬ Replays size log j
    refused (inl unread) j = unread.1 j
    refused (inr full) j = let other = full.0 in absurd cc

-- an empty file of a database names no size of a page
pub not_in_file : (found : Option PageSize) (size : PageSize) (db : List ℕ) → found ≡ Some size → db ≡ [] → Names found (size_in_file db) → ⊥
not_in_file found size db is empty names =
    let at : Names (Some size) (size_in_file []) = subst (λ (d : List ℕ). Names (Some size) (size_in_file d)) empty (subst (λ (f : Option PageSize). Names f (size_in_file db)) is names) in
    let page : 512 ≤ 0 = (at.0.0 refl).0 in
    absurd (omega (arith, page))

pub named_size : (found : Option PageSize) (size : PageSize) (n : ℕ) → found ≡ Some size → Names found n → IsPageSize n × (bytes_of size ≡ n)
named_size found size n is names =
    let at : Names (Some size) n = subst (λ (f : Option PageSize). Names f n) is names in
    (at.0.0 refl, at.1)
