-- The head of a request within the desk's limits. Its grammar is that of RFC 9112, section 2.1, as httparse reads it.
use Rattle.std.specs.Prelude.{◌≤◌, ℕ, List, length}
use Rattle.httparse.specs.Grammar.{RequestHead, ReadsRequest, print_request}

-- the bytes begin with this head, which has at most 8,192 bytes and 32 headers
pub record BeginsWithHead (bytes : List ℕ) (head : RequestHead) (rest : List ℕ) : Type 0 where
  pub reads : ReadsRequest bytes head rest
  pub short : length (print_request head) ≤ 8192
  pub few : length head.fields ≤ 32

-- the bytes begin with no such head
abbrev pub HasNoHead : List ℕ → Type 0
HasNoHead bytes = (head : RequestHead) (rest : List ℕ) → ¬ (BeginsWithHead bytes head rest)
