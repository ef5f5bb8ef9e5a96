-- Rows of moves as moves, and that the moves of a reached state are numbered.
use Rattle.std.proofs.Common.{◌≡◌, ℕ, zero, suc, ◌+◌, ◌<◌, ◌≤◌, List, [], ◌∷◌, ◌++◌, map, length, take, get_or, Option, string_bytes, ◌≢◌, refl, sym, ap, ap₂, ◌∙◌, arith, take_all}
use Rattle.std.proofs.Math.Seq.{take-suc}
use Rattle.std.proofs.lemmas.List.{map-append}
use Rattle.tb_core.specs.Moves.{MoveText}
use Rattle.tb_core.specs.declared.kinds.Kind.{Kind}
use Rattle.tb_core.specs.declared.kinds.State.{State}
use Rattle.tb_core.specs.Machine.{Machine}
use Rattle.tb_core.specs.Acts.{move_of as move_made}
use Rattle.tb_core.specs.Reaching.{Reached, begun, further}
use Rattle.tb_tables.specs.Records.{Move}
use Rattle.tb_tables.specs.Values.{move_of}
use Rattle.tb_tables.specs.declared.rows.MoveRow.{MoveRow}
use Rattle.tb_refine.specs.DeskTables.{move_record}
use Rattle.tb_refine.specs.Numbers.{kind_number, from_number, state_number}
use Rattle.tb_refine.proofs.CallLemmas.{one_state, one_before, one_kind}
use Rattle.tb_refine.specs.Numbered.{AreNumbered}

numbered_more : (n : ℕ) (ms : List MoveText) (m : MoveText) → AreNumbered n ms → m.no ≡ n + length ms → AreNumbered n (ms ++ m ∷ [])
numbered_more n [] m h is = (omega (arith, is), tt)
numbered_more n (k ∷ ms) m h is = (h.0, numbered_more (n + 1) ms m h.1 (omega (arith, is)))

pub moves_are_numbered : (s : Machine) → Reached s → AreNumbered 1 s.moves
moves_are_numbered _ begun = tt
moves_are_numbered _ (further s a reached allowed) = numbered_more 1 s.moves (move_made s a) (moves_are_numbered s reached) (let same : length s.moves + 1 ≡ 1 + length s.moves = omega arith in same)

same_move : (a b : MoveText) → a.no ≡ b.no → move_record a ≡ move_record b → a ≡ b
same_move a b number e =
    let k : a.kind ≡ b.kind = one_kind a.kind b.kind (ap (λ (x : Move). x.kind) e) in
    let o : a.batch ≡ b.batch = ap (λ (x : Move). x.batch) e in
    let s : a.sent ≡ b.sent = ap (λ (x : Move). x.sent) e in
    let f : a.from ≡ b.from = one_before a.from b.from (ap (λ (x : Move). x.from) e) in
    let t : a.to ≡ b.to = one_state a.to b.to (ap (λ (x : Move). x.to) e) in
    let n : a.sentences ≡ b.sentences = ap (λ (x : Move). x.sentences) e in
    let u : a.words_out ≡ b.words_out = ap (λ (x : Move). x.words_out) e in
    let i : a.words_in ≡ b.words_in = ap (λ (x : Move). x.words_in) e in
    let w : a.who ≡ b.who = ap (λ (x : Move). x.who) e in
    λ j. record { no = number j; kind = k j; batch = o j; sent = s j; from = f j; to = t j; sentences = n j; words_out = u j; words_in = i j; who = w j }

-- a row with the numbers of a kind and of states is that of a move
pub row_moves : (r : MoveRow) (k : Kind) (f : Option State) (t : State) → (r.kind ≡ kind_number k) × (r.from ≡ from_number f) × (r.to ≡ state_number t) → ((m : MoveText) → move_of r ≡ move_record m → ⊥) → ⊥
row_moves r k f t steps none = none (record { no = 0; kind = k; batch = r.batch; sent = r.sent; from = f; to = t; sentences = r.sentences; words_out = r.words_out; words_in = r.words_in; who = string_bytes r.who })
    (λ j. record { kind = steps.0 j; batch = r.batch; sent = r.sent; from = steps.1 j; to = steps.2 j; sentences = r.sentences; words_out = r.words_out; words_in = r.words_in; who = string_bytes r.who })

pub same_moves : (n : ℕ) (xs ys : List MoveText) → AreNumbered n xs → AreNumbered n ys → map move_record xs ≡ map move_record ys → xs ≡ ys
same_moves n [] [] p q e = refl
same_moves n [] (y ∷ ys) p q e = absurd cc
same_moves n (x ∷ xs) [] p q e = absurd cc
same_moves n (x ∷ xs) (y ∷ ys) p q e =
    let head : move_record x ≡ move_record y = cc in
    let tail : map move_record xs ≡ map move_record ys = cc in
    ap₂ (λ a b. a ∷ b) (same_move x y (p.0 ∙ sym q.0) head) (same_moves (n + 1) xs ys p.1 q.1 tail)

-- ---- one turn of the loop

pub record_more : (rows : List MoveRow) (found : List MoveText) (k : ℕ) (r : MoveRow) (m : MoveText) → k < length rows → get_or rows k r ≡ r
    → map move_record found ≡ map move_of (take k rows) → move_record m ≡ move_of r → map move_record (found ++ m ∷ []) ≡ map move_of (take (k + 1) rows)
record_more rows found k r m low at so is =
    let next : k + 1 ≡ suc k = omega arith in
    let whole : take (k + 1) rows ≡ take k rows ++ r ∷ [] = ap (λ j. take j rows) next ∙ take-suc rows k r low ∙ ap (λ x. take k rows ++ x ∷ []) at in
    map-append move_record found (m ∷ []) ∙ ap₂ (λ a b. a ++ b ∷ []) so is ∙ sym (map-append move_of (take k rows) (r ∷ [])) ∙ ap (map move_of) (sym whole)

pub number_more : (found : List MoveText) (k : ℕ) (m : MoveText) → length found ≡ k → AreNumbered 1 found → m.no ≡ k + 1 → AreNumbered 1 (found ++ m ∷ [])
number_more found k m len h is = numbered_more 1 found m h (omega (arith, is, len))

-- a row among those of moves is that of a move
pub row_known : (rows : List MoveRow) (ms : List MoveText) (k : ℕ) (r : MoveRow) → k < length rows → get_or rows k r ≡ r → map move_of rows ≡ map move_record ms → (m : MoveText) × (move_of r ≡ move_record m)
row_known [] ms k r low at e = absurd (omega (arith, low))
row_known (x ∷ xs) [] k r low at e = absurd cc
row_known (x ∷ xs) (m ∷ ms) zero r low at e =
    let head : move_of x ≡ move_record m = cc in
    (m, ap move_of (sym at) ∙ head)
row_known (x ∷ xs) (m ∷ ms) (suc k) r low at e =
    let tail : map move_of xs ≡ map move_record ms = cc in
    row_known xs ms k r (omega (arith, low)) at tail

-- ---- rows of moves

-- rows that cannot be told from those of some moves
abbrev pub AreOfMoves : List MoveRow → Type 0
AreOfMoves rows = ((ms : List MoveText) → map move_of rows ≢ map move_record ms) → ⊥

-- one more row of a move
pub moves_more : (rows : List MoveRow) (k : ℕ) (r : MoveRow) → k < length rows → get_or rows k r ≡ r → AreOfMoves (take k rows)
    → (((m : MoveText) → move_of r ≢ move_record m) → ⊥) → AreOfMoves (take (k + 1) rows)
moves_more rows k r low at before one none = before (λ ms so. one (λ m is.
    none (ms ++ m ∷ []) (sym (record_more rows ms k r m low at (sym so) (sym is)))))

-- all rows were gone through
pub moves_all : (rows : List MoveRow) (k : ℕ) → length rows ≤ k → AreOfMoves (take k rows) → AreOfMoves rows
moves_all rows k all before none = before (λ ms so. none ms (ap (map move_of) (sym (take_all k rows all)) ∙ so))
