-- White space that is folded as characters come leaves the pieces between it, with a space between each two.
use Rattle.std.proofs.Common.{◌≡◌, ℕ, List, [], ◌∷◌, ◌++◌, length, filter, Bool, true, false, cond, ltb, refl, sym, ◌∙◌, ap, inl, inr, arith}
use Rattle.std.specs.Char.{is_whitespace}
use Rattle.std.specs.List.{slice_split, onto_first, join_with_byte}
use Rattle.std.proofs.lemmas.Bool.{cases_Bool, lt-ltb}
use Rattle.std.proofs.lemmas.List.{append-nil}
use Rattle.tb_rules.specs.Restored.{folded}
use Rattle.tb_rules.specs.Expected.{folded_after}

-- the pieces that aren't empty
abbrev some : List (List ℕ) → List (List ℕ)
some parts = filter (λ piece. ltb 0 (length piece)) parts

abbrev first : List (List ℕ) → List ℕ
first [] = []
first (part ∷ parts) = part

abbrev others : List (List ℕ) → List (List ℕ)
others [] = []
others (part ∷ parts) = parts

-- pieces that come after another
abbrev behind : List (List ℕ) → List ℕ
behind [] = []
behind (part ∷ parts) = 32 ∷ join_with_byte 32 (part ∷ parts)

first_grows : (c : ℕ) (parts : List (List ℕ)) → first (onto_first c parts) ≡ c ∷ first parts
first_grows c [] = refl
first_grows c (part ∷ parts) = refl

others_stay : (c : ℕ) (parts : List (List ℕ)) → others (onto_first c parts) ≡ others parts
others_stay c [] = refl
others_stay c (part ∷ parts) = refl

not_empty : (c : ℕ) (cs : List ℕ) → ltb 0 (length (c ∷ cs)) ≡ true
not_empty c cs = lt-ltb 0 (length (c ∷ cs)) (omega arith)

some_grow : (c : ℕ) (parts : List (List ℕ)) → some (onto_first c parts) ≡ (c ∷ first parts) ∷ some (others parts)
some_grow c [] = refl
some_grow c (part ∷ parts) = ap (λ b. cond b ((c ∷ part) ∷ some parts) (some parts)) (not_empty c part)

joined : (part : List ℕ) (parts : List (List ℕ)) → join_with_byte 32 (part ∷ parts) ≡ part ++ behind parts
joined part [] = sym (append-nil part)
joined part (next ∷ parts) = refl

-- what the characters fold to: within a piece, after white space, and where no piece has begun
record Folds (cs : List ℕ) : Type 0 where
  pub within : folded_after true false cs ≡ first (slice_split is_whitespace cs) ++ behind (some (others (slice_split is_whitespace cs)))
  pub after : folded_after true true cs ≡ behind (some (slice_split is_whitespace cs))
  pub before : (gap : Bool) → folded_after false gap cs ≡ join_with_byte 32 (some (slice_split is_whitespace cs))

white_comes : (c : ℕ) (cs : List ℕ) → is_whitespace c ≡ true → Folds cs → Folds (c ∷ cs)
white_comes c cs white h = record {
  within = rw white h.after;
  after = rw white h.after;
  before = λ gap. rw white (h.before true);
}

black_comes : (c : ℕ) (cs : List ℕ) → is_whitespace c ≡ false → Folds cs → Folds (c ∷ cs)
black_comes c cs black h =
    let parts = slice_split is_whitespace cs in
    let grown = some_grow c parts in
    let text : c ∷ folded_after true false cs ≡ (c ∷ first parts) ++ behind (some (others parts)) = ap (λ (x : List ℕ). c ∷ x) h.within in
    let whole = text ∙ sym (joined (c ∷ first parts) (some (others parts))) in record {
      within = rw black (text ∙ sym (ap (λ (x : List ℕ). x ++ behind (some (others (onto_first c parts)))) (first_grows c parts) ∙ ap (λ ps. (c ∷ first parts) ++ behind (some ps)) (others_stay c parts)));
      after = rw black (ap (λ (x : List ℕ). 32 ∷ x) whole ∙ sym (ap behind grown));
      before = λ gap. rw black (whole ∙ sym (ap (join_with_byte 32) grown));
    }

fold_all : (cs : List ℕ) → Folds cs
fold_all [] = record { within = refl; after = refl; before = λ gap. refl }
fold_all (c ∷ cs) = elim (cases_Bool (is_whitespace c)) [ inl white ↦ white_comes c cs white (fold_all cs) | inr black ↦ black_comes c cs black (fold_all cs) ]

pub folds : (cs : List ℕ) → folded_after false false cs ≡ folded cs
folds cs = (fold_all cs).before false
