-- The fault that is told of bytes: where it stands, that it is one, and that it stays one after whole sentences.
use Rattle.std.proofs.Common.{◌≡◌, ℕ, ◌+◌, ◌<◌, ◌≤◌, inl, inr, List, [], ◌∷◌, ◌++◌, length, false, refl, sym, ◌∙◌, ap, subst, arith, append_assoc, append-nil, length-append}
use Rattle.std.proofs.lemmas.Bool.{cases_order}
use Rattle.std.proofs.lemmas.List.Concat.{flat_map-append}
use Rattle.tb_conllu.specs.Text.{BlockText, text_of, lines_of, ended, block_lines}
use Rattle.tb_conllu.specs.Shape.{IsShaped, AllShaped}
use Rattle.tb_conllu.specs.Lines.{line_code, came_through}
use Rattle.tb_conllu.specs.Reported.{AreLines, IsDead, IsNoFile, IsLineFault, IsUnended, IsReported}
use Rattle.tb_conllu.proofs.Cuts.{begin_same, all_lines}
use Rattle.tb_conllu.proofs.Reported.{all_append, lines_cut_more, came_append, came_sentences, dead, alive}
use Rattle.tb_conllu.proofs.OneList.{begins_one_way}

pub ended-append : (xs ys : List (List ℕ)) → ended (xs ++ ys) ≡ ended xs ++ ended ys
ended-append xs ys = flat_map-append (λ l. l ++ 10 ∷ []) xs ys

pub ended_more : (xs ys : List (List ℕ)) (rest : List ℕ) → ended (xs ++ ys) ++ rest ≡ ended xs ++ (ended ys ++ rest)
ended_more xs ys rest = ap (λ t. t ++ rest) (ended-append xs ys) ∙ append_assoc (ended xs) (ended ys) rest

-- the text of more sentences
pub text_of-append : (bs cs : List BlockText) → text_of (bs ++ cs) ≡ text_of bs ++ text_of cs
text_of-append bs cs = ap ended (flat_map-append block_lines bs cs) ∙ ended-append (lines_of bs) (lines_of cs)

-- dead lines stay dead
pub dead_stays : (xs zs : List (List ℕ)) → IsDead xs → IsDead (xs ++ zs)
dead_stays xs zs h bs rest shaped e = h bs (ended zs ++ rest) shaped (e ∙ ended_more xs zs rest)

-- ---- after whole sentences

dead_after : (bs : List BlockText) (ls : List (List ℕ)) → AllShaped bs → IsDead ls → IsDead (lines_of bs ++ ls)
dead_after bs ls hb h cs rest hc e =
    let found = begins_one_way bs cs (ended ls ++ rest) hb hc (e ∙ ended_more (lines_of bs) ls rest) in
    h found.0 rest found.2.shaped (sym found.2.text)

alive_after : (bs : List BlockText) (ls : List (List ℕ)) → AllShaped bs → (IsDead ls → ⊥) → IsDead (lines_of bs ++ ls) → ⊥
alive_after bs ls hb h dead =
    h (λ cs rest hc e. dead (bs ++ cs) rest (all_append IsShaped bs cs hb hc) (text_of-append bs cs ∙ ap (λ t. text_of bs ++ t) e ∙ sym (ended_more (lines_of bs) ls rest)))

no_file_after : (bs : List BlockText) (f : List ℕ) → AllShaped bs → IsNoFile f → IsNoFile (text_of bs ++ f)
no_file_after bs f hb h cs hc e =
    let found = begins_one_way bs cs f hb hc (sym e) in
    h found.0 found.2.shaped found.2.text

line_fault_after : (bs : List BlockText) (f : List ℕ) (line code : ℕ) → AllShaped bs → IsLineFault f line code → IsLineFault (text_of bs ++ f) (length (lines_of bs) + line) code
line_fault_after bs f line code hb h =
    let joined : (lines_of bs ++ h.before) ++ h.reported ∷ [] ≡ lines_of bs ++ (h.before ++ h.reported ∷ []) = append_assoc (lines_of bs) h.before (h.reported ∷ []) in
    let D : List (List ℕ) → Type 0 = IsDead in
    let C : List (List ℕ) → Type 0 = AreLines in
    record {
      before = lines_of bs ++ h.before;
      reported = h.reported;
      rest = h.rest;
      whole = ap (λ t. text_of bs ++ t) h.whole ∙ sym (ended_more (lines_of bs) (h.before ++ h.reported ∷ []) h.rest) ∙ ap (λ l. ended l ++ h.rest) (sym joined);
      cut = subst C (sym joined) (lines_cut_more bs (h.before ++ h.reported ∷ []) hb h.cut);
      place = (let n = length-append (lines_of bs) h.before in let p = h.place in omega (arith, n, p));
      dead = subst D (sym joined) (dead_after bs (h.before ++ h.reported ∷ []) hb h.dead);
      alive = alive_after bs h.before hb h.alive;
      least = ap (λ c. line_code c h.reported) (came_append false (lines_of bs) h.before ∙ ap (λ c. came_through c h.before) (came_sentences bs)) ∙ h.least;
    }

unended_after : (bs : List BlockText) (f : List ℕ) (line : ℕ) → AllShaped bs → IsUnended f line → IsUnended (text_of bs ++ f) (length (lines_of bs) + line)
unended_after bs f line hb h = record {
  before = lines_of bs ++ h.before;
  rest = h.rest;
  whole = ap (λ t. text_of bs ++ t) h.whole ∙ sym (ended_more (lines_of bs) h.before h.rest);
  cut = lines_cut_more bs h.before hb h.cut;
  cut_rest = h.cut_rest;
  place = (let n = length-append (lines_of bs) h.before in let p = h.place in omega (arith, n, p));
  alive = alive_after bs h.before hb h.alive;
  no_file = no_file_after bs f hb h.no_file;
}

-- a fault of what follows whole sentences is the fault of the whole, so many lines later
pub reported_after : (bs : List BlockText) (f : List ℕ) (line code : ℕ) → AllShaped bs → IsReported f line code → IsReported (text_of bs ++ f) (length (lines_of bs) + line) code
reported_after bs f line code hb (inl h) = inl (line_fault_after bs f line code hb h)
reported_after bs f line code hb (inr h) = inr (unended_after bs f line hb h.0, h.1)

-- ---- at most one fault

-- dead lines don't begin lines that are alive
dead_within : (xs ys : List (List ℕ)) (r s : List ℕ) → AreLines xs → AreLines ys → length xs ≤ length ys → ended xs ++ r ≡ ended ys ++ s → IsDead xs → (IsDead ys → ⊥) → ⊥
dead_within xs ys r s hx hy short e dead alive =
    let found = begin_same xs ys r s hx hy short e in
    let D : List (List ℕ) → Type 0 = IsDead in
    alive (subst D (sym found.1) (dead_stays xs found.0 dead))

pub push_length : (xs : List (List ℕ)) (x : List ℕ) → length (xs ++ x ∷ []) ≡ length xs + 1
push_length xs x = length-append xs (x ∷ [])

cut_front : (xs ys : List (List ℕ)) → AreLines (xs ++ ys) → AreLines xs
cut_front [] ys h = tt
cut_front (x ∷ xs) ys h = (h.0, cut_front xs ys h.1)

-- of two faults at a line, none stands before the other
not_before : (f : List ℕ) (line code other_line other_code : ℕ) → IsLineFault f line code → IsLineFault f other_line other_code → line < other_line → ⊥
not_before f line code other_line other_code h k less =
    let n = push_length h.before h.reported in
    let p = h.place in
    let q = k.place in
    dead_within (h.before ++ h.reported ∷ []) k.before h.rest (ended (k.reported ∷ []) ++ k.rest) h.cut (cut_front k.before (k.reported ∷ []) k.cut) (omega (arith, n, p, q)) (sym h.whole ∙ k.whole ∙ ended_more k.before (k.reported ∷ []) k.rest) h.dead k.alive

push_same : (xs ys : List (List ℕ)) (x y : List ℕ) → xs ++ x ∷ [] ≡ ys ++ y ∷ [] → (xs ≡ ys) × (x ≡ y)
push_same [] [] x y e = (refl, cc)
push_same [] (b ∷ []) x y e = absurd cc
push_same [] (b ∷ c ∷ ys) x y e = absurd cc
push_same (a ∷ []) [] x y e = absurd cc
push_same (a ∷ c ∷ xs) [] x y e = absurd cc
push_same (a ∷ xs) (b ∷ ys) x y e =
    let tails : xs ++ x ∷ [] ≡ ys ++ y ∷ [] = cc in
    let rest = push_same xs ys x y tails in
    let heads : a ≡ b = cc in
    ((let t = rest.0 in cc), rest.1)

code_same : (f : List ℕ) (line code other_line other_code : ℕ) → IsLineFault f line code → IsLineFault f other_line other_code → line ≡ other_line → code ≡ other_code
code_same f line code other_line other_code h k same =
    let n = push_length h.before h.reported in
    let m = push_length k.before k.reported in
    let p = h.place in
    let q = k.place in
    let found = begin_same (h.before ++ h.reported ∷ []) (k.before ++ k.reported ∷ []) h.rest k.rest h.cut k.cut (omega (arith, n, m, p, q)) (sym h.whole ∙ k.whole) in
    let sum = ap length found.1 ∙ length-append (h.before ++ h.reported ∷ []) found.0 in
    let none = nothing found.0 (omega (arith, n, m, p, q, sum)) in
    let lines = found.1 ∙ ap (λ l. (h.before ++ h.reported ∷ []) ++ l) none ∙ append-nil (h.before ++ h.reported ∷ []) in
    let parts = push_same k.before h.before k.reported h.reported lines in
    sym h.least ∙ ap (λ l. line_code (came_through false l) h.reported) (sym parts.0) ∙ ap (λ t. line_code (came_through false k.before) t) (sym parts.1) ∙ k.least
  where
    nothing : (zs : List (List ℕ)) → length zs ≡ 0 → zs ≡ []
    nothing [] e = refl
    nothing (z ∷ zs) e = absurd (omega arith)

-- a fault at a line leaves none at the end
not_both : (f : List ℕ) (line code other_line : ℕ) → IsLineFault f line code → IsUnended f other_line → ⊥
not_both f line code other_line h k =
    let e = sym h.whole ∙ k.whole in
    dead_within (h.before ++ h.reported ∷ []) k.before h.rest k.rest h.cut k.cut (all_lines (h.before ++ h.reported ∷ []) k.before h.rest k.rest h.cut k.cut k.cut_rest e) e h.dead k.alive

end_same : (f : List ℕ) (line other_line : ℕ) → IsUnended f line → IsUnended f other_line → line ≡ other_line
end_same f line other_line h k =
    let a = all_lines h.before k.before h.rest k.rest h.cut k.cut k.cut_rest (sym h.whole ∙ k.whole) in
    let b = all_lines k.before h.before k.rest h.rest k.cut h.cut h.cut_rest (sym k.whole ∙ h.whole) in
    let p = h.place in
    let q = k.place in
    omega (arith, a, b, p, q)

-- at most one fault is told of any bytes
pub one_reported : (f : List ℕ) (line code other_line other_code : ℕ) → IsReported f line code → IsReported f other_line other_code → (line ≡ other_line) × (code ≡ other_code)
one_reported f line code other_line other_code (inl h) (inl k) =
    elim (cases_order line other_line) [
      | inl same ↦ (same, code_same f line code other_line other_code h k same)
      | inr apart ↦ elim apart [
        | inl less ↦ absurd (not_before f line code other_line other_code h k less)
        | inr more ↦ absurd (not_before f other_line other_code line code k h more)
      ]
    ]
one_reported f line code other_line other_code (inl h) (inr k) = absurd (not_both f line code other_line h k.0)
one_reported f line code other_line other_code (inr h) (inl k) = absurd (not_both f other_line other_code line k h.0)
one_reported f line code other_line other_code (inr h) (inr k) = (end_same f line other_line h.0 k.0, h.1 ∙ sym k.1)
