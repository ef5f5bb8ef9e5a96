-- Bytes are a file or have a fault, and sentences are valid or have one: it cannot be that neither is so.
use Rattle.std.proofs.Common.{◌≡◌, ◌⊎◌, inl, inr, ℕ, zero, suc, ◌+◌, ◌≤◌, ◌<◌, List, [], ◌∷◌, ◌++◌, length, take, Bool, true, false, ◌||◌, refl, sym, ◌∙◌, ap, subst, arith, append_assoc, append-nil, length-append}
use Rattle.std.specs.Prelude.{◌==◌, slice_index_or}
use Rattle.std.specs.List.{list_any}
use Rattle.std.proofs.lemmas.Bool.Decides.{eqb_tells}
use Rattle.std.proofs.lemmas.List.Concat.{flat_map-append}
use Rattle.tb_conllu.specs.Text.{RowText, BlockText, ended}
use Rattle.tb_conllu.specs.Words.{words_of}
use Rattle.tb_conllu.specs.Lines.{line_code, came_through}
use Rattle.tb_conllu.specs.Reported.{IsLine, AreLines, IsFile, IsDead, IsReported}
use Rattle.tb_rules.specs.Deps.{dependency_test}
use Rattle.tb_rules.specs.Feats.{feature_test}
use Rattle.tb_rules.specs.Nodes.{node_test}
use Rattle.tb_rules.specs.Spans.{span_test}
use Rattle.tb_rules.specs.Words.{word_test}
use Rattle.tb_rules.specs.Rows.{RowTest, FirstRowsPass, EachRowPasses, IsFirstFault}
use Rattle.tb_rules.specs.Rules.{Rule, sent_id, text, ids, words, spans, nodes, features, dependencies, one_root, tree, restored, number, Keeps, KeepsTo, KeepsRules, IsFaultRow, IsBroken}
use Rattle.tb_rules.proofs.Kept.{passes}
use Rattle.tb_rules.proofs.ByNumber.{none_yet, one_kept, kept_2, kept_3, all_kept, broken_next}
use Rattle.tb_rules.specs.File.{IsNamed, IsFree, HasNewName, IsValid, IsBrokenAfter, broken, name_twice, IsFaultAt}
use Rattle.tb_core.proofs.Weights.{all_append}
use Rattle.tb_core.proofs.Lists.{head_is, tail_is}

-- ---- bytes

-- bytes cut into lines, and what follows the last line feed
record Cut (f : List ℕ) : Type 0 where
  pub lines : List (List ℕ)
  pub rest : List ℕ
  pub whole : f ≡ ended lines ++ rest
  pub cut : AreLines lines
  pub cut_rest : IsLine rest

begun_by : (b : ℕ) (f : List ℕ) → (b == 10) ≡ false → Cut f → Cut (b ∷ f)
begun_by b f h c = with_lines c.lines c.rest c.whole c.cut c.cut_rest where
  with_lines : (lines : List (List ℕ)) (rest : List ℕ) → f ≡ ended lines ++ rest → AreLines lines → IsLine rest → Cut (b ∷ f)
  with_lines [] rest whole cut cut_rest = record { lines = []; rest = b ∷ rest; whole = ap (λ l. b ∷ l) whole; cut = tt; cut_rest = ap (λ t. t || list_any (λ x. x == 10) rest) h ∙ cut_rest }
  with_lines (l ∷ ls) rest whole cut cut_rest = record { lines = (b ∷ l) ∷ ls; rest = rest; whole = ap (λ m. b ∷ m) whole; cut = (ap (λ t. t || list_any (λ x. x == 10) l) h ∙ cut.0, cut.1); cut_rest = cut_rest }

ended_by : (b : ℕ) (f : List ℕ) → b ≡ 10 → Cut f → Cut (b ∷ f)
ended_by b f h c = record { lines = [] ∷ c.lines; rest = c.rest; whole = ap (λ x. x ∷ f) h ∙ ap (λ l. 10 ∷ l) c.whole; cut = (refl, c.cut); cut_rest = c.cut_rest }

cut_of : (f : List ℕ) → Cut f
cut_of [] = record { lines = []; rest = []; whole = refl; cut = tt; cut_rest = refl }
cut_of (b ∷ f) = elim (eqb_tells b 10) [ inl y ↦ ended_by b f y.1 (cut_of f) | inr n ↦ begun_by b f n.0 (cut_of f) ]

front_lines : (us vs : List (List ℕ)) → AreLines (us ++ vs) → AreLines us
front_lines [] vs h = tt
front_lines (u ∷ us) vs h = (h.0, front_lines us vs h.1)

ended-append : (us vs : List (List ℕ)) → ended (us ++ vs) ≡ ended us ++ ended vs
ended-append us vs = flat_map-append (λ l. l ++ 10 ∷ []) us vs

abbrev NoReported : List ℕ → Type 0
NoReported f = (line code : ℕ) → IsReported f line code → ⊥

-- where no fault is told, each line that comes is alive
alive_through : (f : List ℕ) → NoReported f → (before ls : List (List ℕ)) (rest : List ℕ) → f ≡ ended (before ++ ls) ++ rest → AreLines (before ++ ls) → (IsDead before → ⊥) → IsDead (before ++ ls) → ⊥
alive_through f none before [] rest whole cut alive = subst (λ l. IsDead l → ⊥) (sym (append-nil before)) alive
alive_through f none before (l ∷ ls) rest whole cut alive =
    let joined = sym (append_assoc before (l ∷ []) ls) in
    let next_whole : f ≡ ended ((before ++ l ∷ []) ++ ls) ++ rest = whole ∙ ap (λ m. ended m ++ rest) joined in
    let next_cut = subst AreLines joined cut in
    let here : f ≡ ended (before ++ l ∷ []) ++ (ended ls ++ rest) = next_whole ∙ (ap (λ m. m ++ rest) (ended-append (before ++ l ∷ []) ls) ∙ append_assoc (ended (before ++ l ∷ [])) (ended ls) rest) in
    let next = alive_through f none (before ++ l ∷ []) ls rest next_whole next_cut (λ dead. none (length before + 1) (line_code (came_through false before) l) (inl (record {
      before = before;
      reported = l;
      rest = ended ls ++ rest;
      whole = here;
      cut = front_lines (before ++ l ∷ []) ls next_cut;
      place = refl;
      dead = dead;
      alive = alive;
      least = refl;
    }))) in
    λ dead. next (subst IsDead joined dead)

pub read_some : (f : List ℕ) → NoReported f → ((bs : List BlockText) → IsFile f bs → ⊥) → ⊥
read_some f none unless =
    let c = cut_of f in
    let alive = alive_through f none [] c.lines c.rest c.whole c.cut (λ dead. dead [] [] tt refl) in
    none (length c.lines + 1) 10 (inr (
      record {
        before = c.lines;
        rest = c.rest;
        whole = c.whole;
        cut = c.cut;
        cut_rest = c.cut_rest;
        place = refl;
        alive = alive;
        no_file = λ bs shaped text. unless bs (record { shaped = shaped; text = text });
      },
      refl,
    ))

-- ---- rules

other_default : (rs : List RowText) (i : ℕ) (c d : RowText) → i < length rs → slice_index_or rs i c ≡ slice_index_or rs i d
other_default [] i c d h = absurd (omega arith)
other_default (r ∷ rs) zero c d h = refl
other_default (r ∷ rs) (suc i) c d h = other_default rs i c d (omega arith)

one_passes : (test : RowTest) (rs : List RowText) → ((row : ℕ) → IsFirstFault test rs row → ⊥) → (n : ℕ) → n < length rs → FirstRowsPass test rs n → (d : RowText) (b : Bool) → b ≡ test (take n rs) (slice_index_or rs n d)
    → test (take n rs) (slice_index_or rs n d) ≡ true
one_passes test rs none n l before d true e = sym e
one_passes test rs none n l before d false e =
    absurd (none (n + 1) (record { place = n; counted = refl; within = l; fails = λ c. ap (λ r. test (take n rs) r) (other_default rs n c d l) ∙ sym e; before = before }))

pass_to : (test : RowTest) (rs : List RowText) → ((row : ℕ) → IsFirstFault test rs row → ⊥) → (n : ℕ) → n ≤ length rs → FirstRowsPass test rs n
pass_to test rs none zero l = λ k d h. absurd (omega arith)
pass_to test rs none (suc n) l =
    let before = pass_to test rs none n (omega arith) in
    λ k d h. elim (eqb_tells k n) [
      | inl y ↦ subst (λ i. test (take i rs) (slice_index_or rs i d) ≡ true) (sym y.1) (one_passes test rs none n (omega arith) before d (test (take n rs) (slice_index_or rs n d)) refl)
      | inr m ↦ before k d (omega (arith, m.1, h))
    ]

rows_pass : (test : RowTest) (rs : List RowText) → ((row : ℕ) → IsFirstFault test rs row → ⊥) → EachRowPasses test rs
rows_pass test rs none = pass_to test rs none (length rs) (omega arith)

whole_some : (b : BlockText) → ((rule row : ℕ) → IsBroken b rule row → ⊥) → (KeepsRules b → ⊥) → KeepsTo 8 b → ⊥
whole_some b none unless k8 =
    none 9 0 (broken_next b one_root 8 0 refl k8 (λ h9.
    let k9 : KeepsTo 9 b = one_kept b one_root 8 refl k8 h9 in
    none 10 0 (broken_next b tree 9 0 refl k9 (λ h10.
    let k10 : KeepsTo 10 b = one_kept b tree 9 refl k9 h10 in
    none 11 0 (broken_next b restored 10 0 refl k10 (λ h11. unless (all_kept b (one_kept b restored 10 refl k10 h11))) refl)) refl)) refl)

-- a rule that is asked of each row
row_rule : (b : BlockText) (q : Rule) (test : RowTest) (n : ℕ) → ((rule row : ℕ) → IsBroken b rule row → ⊥) → number q ≡ n + 1 → KeepsTo n b
    → (Keeps q b → EachRowPasses test b.rows) → ((row : ℕ) → IsFirstFault test b.rows row → IsFaultRow q b row) → EachRowPasses test b.rows
row_rule b q test n none e k kept at = rows_pass test b.rows (λ row f. none (number q) row (broken_next b q n row e k (λ h. passes test b.rows row f (kept h)) (at row f)))

rows_some : (b : BlockText) → ((rule row : ℕ) → IsBroken b rule row → ⊥) → (KeepsRules b → ⊥) → KeepsTo 3 b → ⊥
rows_some b none unless k3 =
    let k4 : KeepsTo 4 b = one_kept b words 3 refl k3 (row_rule b words (word_test (words_of b)) 3 none refl k3 (λ h. h) (λ row f. f)) in
    let k5 : KeepsTo 5 b = one_kept b spans 4 refl k4 (row_rule b spans (span_test (words_of b)) 4 none refl k4 (λ h. h) (λ row f. f)) in
    let k6 : KeepsTo 6 b = one_kept b nodes 5 refl k5 (row_rule b nodes node_test 5 none refl k5 (λ h. h) (λ row f. f)) in
    let k7 : KeepsTo 7 b = one_kept b features 6 refl k6 (row_rule b features feature_test 6 none refl k6 (λ h. h) (λ row f. f)) in
    let k8 : KeepsTo 8 b = one_kept b dependencies 7 refl k7 (row_rule b dependencies (dependency_test b.rows) 7 none refl k7 (λ h. h) (λ row f. f)) in
    whole_some b none unless k8

rules_some : (b : BlockText) → ((rule row : ℕ) → IsBroken b rule row → ⊥) → (KeepsRules b → ⊥) → ⊥
rules_some b none unless =
    none 1 0 (broken_next b sent_id 0 0 refl (none_yet b) (λ h1.
    none 2 0 (broken_next b text 1 0 refl (one_kept b sent_id 0 refl (none_yet b) h1) (λ h2.
    none 3 0 (broken_next b ids 2 0 refl (kept_2 b h1 h2) (λ h3. rows_some b none unless (kept_3 b h1 h2 h3)) refl)) refl)) refl)

-- ---- files

snoc_split : {X : Type 0} (xs : List X) (z : X) (us : List X) (c : X) (vs : List X) → xs ++ z ∷ [] ≡ us ++ c ∷ vs → ((rest : List X) × (xs ≡ us ++ c ∷ rest)) ⊎ ((c ≡ z) × (us ≡ xs))
snoc_split [] z [] c vs e = inr (sym (head_is z c [] vs e), refl)
snoc_split (x ∷ xs) z [] c vs e = inl (xs, ap (λ y. y ∷ xs) (head_is x c (xs ++ z ∷ []) vs e))
snoc_split [] z (u ∷ us) c vs e = let n = ap length e in let m = length-append us (c ∷ vs) in absurd (omega (arith, n, m))
snoc_split (x ∷ xs) z (u ∷ us) c vs e =
    let h = head_is x u (xs ++ z ∷ []) (us ++ c ∷ vs) e in
    elim (snoc_split xs z us c vs (tail_is x u (xs ++ z ∷ []) (us ++ c ∷ vs) e)) [
      | inl w ↦ inl (w.0, ap (λ a. a ∷ xs) h ∙ ap (λ l. u ∷ l) w.1)
      | inr w ↦ inr (w.0, ap (λ a. a ∷ us) (sym h) ∙ ap (λ l. x ∷ l) w.1)
    ]

valid_next : (before : List BlockText) (b : BlockText) → IsValid before → KeepsRules b → HasNewName before b → IsValid (before ++ b ∷ [])
valid_next before b valid kept new = record {
  rules = all_append KeepsRules before (b ∷ []) valid.rules (kept, tt);
  names = λ us c vs e name is. elim (snoc_split before b us c vs e) [
    | inl w ↦ valid.names us c w.0 w.1 name is
    | inr w ↦ subst (λ l. IsFree l name) (sym w.1) (new name (subst (λ x. IsNamed x name) w.0 is))
  ];
}

abbrev NoFault : List BlockText → Type 0
NoFault bs = (sentence rule row : ℕ) → IsFaultAt bs sentence rule row → ⊥

valid_from : (before rest : List BlockText) → IsValid before → NoFault (before ++ rest) → (IsValid (before ++ rest) → ⊥) → ⊥
valid_from before [] valid none unless = unless (subst IsValid (sym (append-nil before)) valid)
valid_from before (b ∷ rest) valid none unless =
    let joined = sym (append_assoc before (b ∷ []) rest) in
    let reported = λ (rule row : ℕ) (f : IsBrokenAfter before b rule row). none (length before + 1) rule row (record { before = before; reported = b; after = rest; whole = refl; counted = refl; valid = valid; fault = f }) in
    rules_some b (λ rule row h. reported rule row (broken rule row h)) (λ kept. reported 12 0 (name_twice kept (λ new.
    valid_from (before ++ b ∷ []) rest (valid_next before b valid kept new) (subst NoFault joined none) (subst (λ l. IsValid l → ⊥) joined unless))))

valid_none : IsValid []
valid_none = record { rules = tt; names = λ before b after e. let n = ap length e in let m = length-append before (b ∷ after) in absurd (omega (arith, n, m)) }

pub valid_some : (bs : List BlockText) → NoFault bs → (IsValid bs → ⊥) → ⊥
valid_some bs none unless = valid_from [] bs valid_none none unless
