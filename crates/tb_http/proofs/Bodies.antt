-- What holds while a body is read.
use Rattle.std.proofs.Common.{◌≡◌, ◌≤◌, ◌+◌, ◌<◌, ℕ, List, [], ◌++◌, length, take, Option, Some, None, IfSome, refl, sym, ◌∙◌, ap, subst, append_assoc, append-nil, length-append, take_at, arith, rules}
use Rattle.std.proofs.lemmas.List.{places}
use Rattle.std.specs.Io.KnownBytes.{Consumes, Keeps, IsAtEnd, prepend_known}
use Rattle.std.proofs.KnownBytes.{Consumes-kept, Consumes-nil, Consumes-trans, Consumes-whole}
use Rattle.tb_http.specs.Faults.{TakenAfter}

-- the body so far came from the start and then from the reader
pub record IsTaking (old new : Option (List ℕ)) (start body : List ℕ) (n : ℕ) : Type 0 where
  pub within : length body ≤ n
  pub taken : Consumes (prepend_known start old) new body
  pub came : (more : List ℕ) × (body ≡ start ++ more) × Consumes old new more

start_taken : (old : Option (List ℕ)) (start : List ℕ) → Consumes (prepend_known start old) old start
start_taken None start = tt
start_taken (Some x) start = refl

-- nothing was read yet
pub taking_first : (old : Option (List ℕ)) (start : List ℕ) (n : ℕ) → length start ≤ n → IsTaking old old start start n
taking_first old start n few = record { within = few; taken = start_taken old start; came = ([], sym (append-nil start), Consumes-nil old) }

-- a read failed before the body was whole
pub taking_broken : (old mid new : Option (List ℕ)) (start body : List ℕ) (n : ℕ) → IsTaking old mid start body n → Keeps mid new → length body < n
    → TakenAfter start old new (λ came. length came < n)
taking_broken old mid new start body n h kept short =
    (h.came.0, Consumes-kept old mid new h.came.0 h.came.2 kept, subst (λ l. length l < n) h.came.1 short)

-- what a read gave found no room
pub taking_full : (old mid new : Option (List ℕ)) (start body part : List ℕ) (n : ℕ) → IsTaking old mid start body n
    → length body + length part ≤ n → Consumes mid new part → 0 < length part
    → TakenAfter start old new (λ came. (0 < length came) × (length came ≤ n))
taking_full old mid new start body part n h few read some =
    let all : body ++ part ≡ start ++ (h.came.0 ++ part) = ap (λ l. l ++ part) h.came.1 ∙ append_assoc start h.came.0 part in
    let long = length-append body part in
    (h.came.0 ++ part, Consumes-trans old mid new h.came.0 part h.came.2 read, subst (λ l. (0 < length l) × (length l ≤ n)) all (omega (arith, long, some), omega (arith, long, few)))

-- no more was taken than the body has
pub taking_within : (old new : Option (List ℕ)) (start body : List ℕ) (n : ℕ) → IsTaking old new start body n → TakenAfter start old new (λ came. length came ≤ n)
taking_within old new start body n h = (h.came.0, h.came.2, subst (λ l. length l ≤ n) h.came.1 h.within)

-- a read that failed took nothing
pub taking_kept : (old mid new : Option (List ℕ)) (start body : List ℕ) (n : ℕ) → IsTaking old mid start body n → Keeps mid new → IsTaking old new start body n
taking_kept old mid new start body n h kept = record {
  within = h.within;
  taken = Consumes-kept (prepend_known start old) mid new body h.taken kept;
  came = (h.came.0, h.came.1, Consumes-kept old mid new h.came.0 h.came.2 kept);
}

-- nothing was read
pub taking_none : (old : Option (List ℕ)) (start : List ℕ) (n : ℕ) → length start ≤ n → TakenAfter start old old (λ came. length came ≤ n)
taking_none old start n few = ([], Consumes-nil old, omega (arith, few, length-append start []))

under : (old : Option (List ℕ)) (start : List ℕ) (P : List ℕ → Type 0) → IfSome (prepend_known start old) P
    → IfSome old (λ rest. P (start ++ rest))
under None start P h = tt
under (Some x) start P h = h

pub taking_short : (old new : Option (List ℕ)) (start body : List ℕ) (n : ℕ) → IsTaking old new start body n → IsAtEnd new → length body < n
    → IfSome old (λ rest. length (start ++ rest) < n)
taking_short old new start body n h end short =
    under old start (λ all. length all < n) (Consumes-whole _ new body (λ all. length all < n) h.taken end short)

whole : (all new : Option (List ℕ)) (body : List ℕ) (n : ℕ) → length body ≡ n → Consumes all new body → IfSome all (λ bytes. body ≡ take n bytes)
whole None new body n long c = tt
whole (Some x) None body n long c = absurd c
whole (Some x) (Some y) body n long c = sym (ap (take n) c ∙ take_at body y n long)

pub taking_whole : (old new : Option (List ℕ)) (start body : List ℕ) (n : ℕ) → IsTaking old new start body n → n ≤ length body
    → IfSome old (λ rest. body ≡ take n (start ++ rest))
taking_whole old new start body n h long =
    let all : length body ≡ n = omega (arith, h.within, long) in
    under old start (λ bytes. body ≡ take n bytes) (whole (prepend_known start old) new body n all h.taken)

-- one more read
pub taking_more : (old mid new : Option (List ℕ)) (start body part : List ℕ) (n : ℕ) → IsTaking old mid start body n
    → length body + length part ≤ n → Consumes mid new part → IsTaking old new start (body ++ part) n
taking_more old mid new start body part n h few read = record {
  within = search (rules, places, few);
  taken = Consumes-trans _ mid new body part h.taken read;
  came = (
    h.came.0 ++ part,
    ap (λ l. l ++ part) h.came.1 ∙ append_assoc start h.came.0 part,
    Consumes-trans old mid new h.came.0 part h.came.2 read,
  );
}
