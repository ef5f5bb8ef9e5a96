-- Lines whose faults are told one after another.
use Rattle.std.proofs.Common.{◌≡◌, ℕ, ◌+◌, ◌≤◌, List, [], ◌∷◌, ◌++◌, length, Bool, true, false, refl, sym, ◌∙◌, ap, arith, append_assoc, append-nil, length-append}
use Rattle.tb_conllu.specs.Text.{ended}
use Rattle.tb_conllu.specs.Lines.{is_empty, line_code, came_after, came_through}
use Rattle.tb_conllu.specs.Reported.{IsLine, AreLines}
use Rattle.tb_conllu.specs.FaultyLines.{AreFaultyLines, end_code, fault_at, is_closed, line_faults}
use Rattle.tb_conllu.proofs.Reading.{more_lines}
use Rattle.tb_conllu.proofs.Reported.{all_append, came_append}

-- the faults of lines, and of those after them
pub faults_append : (n : ℕ) (came : Bool) (xs ys : List (List ℕ)) → line_faults n came (xs ++ ys) ≡ line_faults n came xs ++ line_faults (n + length xs) (came_through came xs) ys
faults_append n came [] ys = let none : n ≡ n + 0 = omega arith in ap (λ k. line_faults k came ys) none
faults_append n came (x ∷ xs) ys =
    let here = fault_at (n + 1) (line_code came x) in
    let count : (n + 1) + length xs ≡ n + length (x ∷ xs) = omega arith in
    ap (λ l. here ++ l) (faults_append (n + 1) (came_after came x) xs ys)
    ∙ ap (λ k. here ++ (line_faults (n + 1) (came_after came x) xs ++ line_faults k (came_through came (x ∷ xs)) ys)) count
    ∙ sym (append_assoc here (line_faults (n + 1) (came_after came x) xs) (line_faults (n + length (x ∷ xs)) (came_through came (x ∷ xs)) ys))

pub one_fault : (n : ℕ) (came : Bool) (l : List ℕ) → line_faults n came (l ∷ []) ≡ fault_at (n + 1) (line_code came l)
one_fault n came l = append-nil (fault_at (n + 1) (line_code came l))

pub closed_last : (ls : List (List ℕ)) (l : List ℕ) → is_closed (ls ++ l ∷ []) ≡ is_empty l
closed_last [] l = refl
closed_last (x ∷ []) l = refl
closed_last (x ∷ y ∷ ls) l = closed_last (y ∷ ls) l

-- These lines were read from the bytes, and this is left. `all` are their faults.
pub record AreRead (bytes rest : List ℕ) (line : ℕ) (came closed : Bool) (lines : List (List ℕ)) : Type 0 where
  pub whole : bytes ≡ ended lines ++ rest
  pub cut : AreLines lines
  pub place : line ≡ length lines
  pub after : came ≡ came_through false lines
  pub last : closed ≡ is_closed lines
  pub room : line + length rest ≤ length bytes

pub line_read : (bytes rest raw after : List ℕ) (line : ℕ) (came closed : Bool) (lines : List (List ℕ)) → AreRead bytes rest line came closed lines → IsLine raw → rest ≡ raw ++ 10 ∷ after
    → AreRead bytes after (line + 1) (came_after came raw) (is_empty raw) (lines ++ raw ∷ [])
line_read bytes rest raw after line came closed lines h cut e =
    let place = h.place in
    let room = h.room in
    record {
      whole = h.whole ∙ ap (λ x. ended lines ++ x) e ∙ sym (more_lines lines raw after);
      cut = all_append IsLine lines (raw ∷ []) h.cut (cut, tt);
      place = omega (arith, place, length-append lines (raw ∷ []));
      after = ap (λ b. came_after b raw) h.after ∙ sym (came_append false lines (raw ∷ []));
      last = sym (closed_last lines raw);
      room = omega (arith, room, ap length e, length-append raw (10 ∷ after));
    }

pub faults_next : (bytes rest raw : List ℕ) (line : ℕ) (came closed : Bool) (lines : List (List ℕ)) (code : ℕ) → AreRead bytes rest line came closed lines → code ≡ line_code came raw
    → line_faults 0 false lines ++ fault_at (line + 1) code ≡ line_faults 0 false (lines ++ raw ∷ [])
faults_next bytes rest raw line came closed lines code h e =
    let place = h.place in
    let at : line ≡ 0 + length lines = omega (arith, place) in
    let here : fault_at (line + 1) code ≡ line_faults (0 + length lines) (came_through false lines) (raw ∷ []) =
    ap (fault_at (line + 1)) (e ∙ ap (λ b. line_code b raw) h.after) ∙ ap (λ n. fault_at (n + 1) (line_code (came_through false lines) raw)) at
    ∙ sym (one_fault (0 + length lines) (came_through false lines) raw) in
    ap (λ l. line_faults 0 false lines ++ l) here ∙ sym (faults_append 0 false lines (raw ∷ []))

pub all_read : (bytes rest : List ℕ) (line : ℕ) (came closed : Bool) (lines : List (List ℕ)) (code : ℕ) → AreRead bytes rest line came closed lines → IsLine rest → code ≡ end_code closed rest
    → AreFaultyLines bytes (line_faults 0 false lines ++ fault_at (line + 1) code)
all_read bytes rest line came closed lines code h cut e =
    let at = h.place in
    record {
      lines = lines;
      rest = rest;
      whole = h.whole;
      cut = h.cut;
      cut_rest = cut;
      all = ap (λ n. line_faults 0 false lines ++ fault_at (n + 1) code) at ∙ ap (λ c. line_faults 0 false lines ++ fault_at (length lines + 1) c) (e ∙ ap (λ b. end_code b rest) h.last);
    }

-- ---- no bytes

nothing : {X : Type 0} (xs : List X) → length xs ≤ 0 → xs ≡ []
nothing [] e = refl
nothing (x ∷ xs) e = absurd (omega (arith, e))

-- they have no line
pub no_line : (bytes rest raw after : List ℕ) (line : ℕ) (came closed : Bool) (lines : List (List ℕ)) → AreRead bytes rest line came closed lines → rest ≡ raw ++ 10 ∷ after → bytes ≡ [] → ⊥
no_line bytes rest raw after line came closed lines h e none = let room = h.room in omega (arith, room, ap length none, ap length e, length-append raw (10 ∷ after))

-- and their end has no fault
pub no_end : (bytes rest : List ℕ) (line : ℕ) (came closed : Bool) (lines : List (List ℕ)) → AreRead bytes rest line came closed lines → bytes ≡ [] → end_code closed rest ≡ 0
no_end bytes rest line came closed lines h none =
    let room = h.room in
    let place = h.place in
    let no_rest : rest ≡ [] = nothing rest (omega (arith, room, ap length none)) in
    let no_lines : lines ≡ [] = nothing lines (omega (arith, room, place, ap length none)) in
    ap (λ b. end_code b rest) (h.last ∙ ap is_closed no_lines) ∙ ap (λ (r : List ℕ). end_code true r) no_rest
