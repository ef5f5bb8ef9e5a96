-- The pattern of a query within the limits fits: it can be searched for.
use Rattle.std.proofs.Common.{◌≡◌, ℕ, ◌+◌, ◌*◌, ◌≤◌, List, [], ◌∷◌, length, Bool, true, false, if◌then◌else◌, refl, length-append, arith}
use Rattle.std.proofs.lemmas.Bool.{false≢true}
use Rattle.std.proofs.lemmas.Bool.Decides.{nat_tests}
use Rattle.tb_match.specs.Trees.{Tree, forest}
use Rattle.tb_match.specs.Weight.{weight_of, weight_of_all, IsProper, AllProper, Fits}
use Rattle.tb_syntax.specs.declared.lexeme.Lexeme.TheVariants.{RightParen, Bar}
use Rattle.tb_syntax.specs.Grammar.{Repeat, quest, star, plus, exactly, at_least, between, rep_text, Alt, one_cat, or_alt, Cat, one_item, and_cat, Item, once, repeated, Atom, any, brackets, bare, parens, alt_text, cat_text, item_text, atom_text, Query, query, query_text, ending_text}
use Rattle.tb_syntax.specs.Limits.{repeat_fits, alt_repeats, cat_repeats, item_repeats, atom_repeats, query_count, query_repeats}
use Rattle.tb_syntax.specs.Pattern.{cat_of, alt_of, repeated_tree, alt_count, cat_count, item_count, atom_count, alt_parts, cat_parts, item_tree, atom_tree, query_tree}

-- a sequence or a choice of one is that one

one_cat_weighs : (ts : List Tree) → weight_of (cat_of ts) ≤ weight_of_all (forest ts)
one_cat_weighs [] = omega arith
one_cat_weighs (t ∷ []) = omega arith
one_cat_weighs (t ∷ u ∷ ts) = omega arith

one_alt_weighs : (ts : List Tree) → weight_of (alt_of ts) ≤ weight_of_all (forest ts)
one_alt_weighs [] = omega arith
one_alt_weighs (t ∷ []) = omega arith
one_alt_weighs (t ∷ u ∷ ts) = omega arith

one_cat_proper : (n : ℕ) (ts : List Tree) → AllProper n (forest ts) → IsProper n (cat_of ts)
one_cat_proper n [] h = h
one_cat_proper n (t ∷ []) h = h.0
one_cat_proper n (t ∷ u ∷ ts) h = h

one_alt_proper : (n : ℕ) (ts : List Tree) → AllProper n (forest ts) → IsProper n (alt_of ts)
one_alt_proper n [] h = h
one_alt_proper n (t ∷ []) h = h.0
one_alt_proper n (t ∷ u ∷ ts) h = h

-- what both tests say
both : (x y : Bool) → (if x then y else false) ≡ true → (x ≡ true) × (y ≡ true)
both true y h = (refl, h)
both false y h = absurd (false≢true h)

-- repetitions

repeated_weighs : (r : Repeat) (t : Tree) → repeat_fits 32 r ≡ true → weight_of (repeated_tree r t) ≤ weight_of t + 34
repeated_weighs quest t h = omega arith
repeated_weighs star t h = omega arith
repeated_weighs plus t h = omega arith
repeated_weighs (exactly a) t h = grind (arith, nat_tests)
repeated_weighs (at_least a) t h = grind (arith, nat_tests)
repeated_weighs (between a b) t h = grind (arith, nat_tests)

repeated_proper : (n : ℕ) (r : Repeat) (t : Tree) → repeat_fits 32 r ≡ true → IsProper n t → IsProper n (repeated_tree r t)
repeated_proper n quest t h p = ((omega arith, omega arith, omega arith, omega arith), p)
repeated_proper n star t h p = (omega arith, p)
repeated_proper n plus t h p = (omega arith, p)
repeated_proper n (exactly a) t h p = ((grind (arith, nat_tests), omega arith, grind (arith, nat_tests), grind (arith, nat_tests)), p)
repeated_proper n (at_least a) t h p = (grind (arith, nat_tests), p)
repeated_proper n (between a b) t h p = ((grind (arith, nat_tests), grind (arith, nat_tests), grind (arith, nat_tests), grind (arith, nat_tests)), p)

rep_has : (r : Repeat) → 1 ≤ length (rep_text r)
rep_has quest = omega arith
rep_has star = omega arith
rep_has plus = omega arith
rep_has (exactly a) = omega arith
rep_has (at_least a) = omega arith
rep_has (between a b) = omega arith

-- a pattern weighs at most 36 for each of its lexemes

mutual
  alt_weighs : (e : ℕ) (a : Alt) → alt_repeats 32 a ≡ true → weight_of_all (forest (alt_parts e a)) ≤ 36 * length (alt_text a)
  alt_weighs e (one_cat c) h = let first = one_cat_weighs (cat_parts e c) in let weight = cat_weighs e c h in omega arith
  alt_weighs e (or_alt c a) h =
      let tests = both (cat_repeats 32 c) (alt_repeats 32 a) h in
      let first = one_cat_weighs (cat_parts e c) in
      let weight = cat_weighs e c tests.0 in
      let others = alt_weighs (e + cat_count c) a tests.1 in
      omega (arith, length-append (cat_text c) (Bar ∷ alt_text a))

  cat_weighs : (e : ℕ) (c : Cat) → cat_repeats 32 c ≡ true → weight_of_all (forest (cat_parts e c)) + 1 ≤ 36 * length (cat_text c)
  cat_weighs e (one_item i) h = let weight = item_weighs e i h in omega arith
  cat_weighs e (and_cat i c) h =
      let tests = both (item_repeats 32 i) (cat_repeats 32 c) h in
      let weight = item_weighs e i tests.0 in
      let others = cat_weighs (e + item_count i) c tests.1 in
      omega (arith, length-append (item_text i) (cat_text c))

  item_weighs : (e : ℕ) (i : Item) → item_repeats 32 i ≡ true → weight_of (item_tree e i) + 2 ≤ 36 * length (item_text i)
  item_weighs e (once a) h = atom_weighs e a h
  item_weighs e (repeated a r) h =
      let tests = both (atom_repeats 32 a) (repeat_fits 32 r) h in
      let weight = atom_weighs e a tests.0 in
      let turns = repeated_weighs r (atom_tree e a) tests.1 in
      omega (arith, length-append (atom_text a) (rep_text r), rep_has r)

  atom_weighs : (e : ℕ) (a : Atom) → atom_repeats 32 a ≡ true → weight_of (atom_tree e a) + 2 ≤ 36 * length (atom_text a)
  atom_weighs e any h = omega arith
  atom_weighs e (brackets t) h = omega arith
  atom_weighs e (bare k f) h = omega arith
  atom_weighs e (parens a) h =
      let one = one_alt_weighs (alt_parts e a) in
      let weight = alt_weighs e a h in
      omega (arith, length-append (alt_text a) (RightParen ∷ []))

-- it names its own token expressions

module _ (n : ℕ) where
  mutual
    alt_proper : (e : ℕ) (a : Alt) → e + alt_count a ≤ n → alt_repeats 32 a ≡ true → AllProper n (forest (alt_parts e a))
    alt_proper e (one_cat c) le h = (one_cat_proper n (cat_parts e c) (cat_proper e c le h), tt)
    alt_proper e (or_alt c a) le h =
        let tests = both (cat_repeats 32 c) (alt_repeats 32 a) h in
        (one_cat_proper n (cat_parts e c) (cat_proper e c (omega arith) tests.0), alt_proper (e + cat_count c) a (omega arith) tests.1)

    cat_proper : (e : ℕ) (c : Cat) → e + cat_count c ≤ n → cat_repeats 32 c ≡ true → AllProper n (forest (cat_parts e c))
    cat_proper e (one_item i) le h = (item_proper e i le h, tt)
    cat_proper e (and_cat i c) le h =
        let tests = both (item_repeats 32 i) (cat_repeats 32 c) h in
        (item_proper e i (omega arith) tests.0, cat_proper (e + item_count i) c (omega arith) tests.1)

    item_proper : (e : ℕ) (i : Item) → e + item_count i ≤ n → item_repeats 32 i ≡ true → IsProper n (item_tree e i)
    item_proper e (once a) le h = atom_proper e a le h
    item_proper e (repeated a r) le h =
        let tests = both (atom_repeats 32 a) (repeat_fits 32 r) h in
        repeated_proper n r (atom_tree e a) tests.1 (atom_proper e a le tests.0)

    atom_proper : (e : ℕ) (a : Atom) → e + atom_count a ≤ n → atom_repeats 32 a ≡ true → IsProper n (atom_tree e a)
    atom_proper e any le h = omega arith
    atom_proper e (brackets t) le h = omega arith
    atom_proper e (bare k f) le h = omega arith
    atom_proper e (parens a) le h = one_alt_proper n (alt_parts e a) (alt_proper e a le h)

pub query_fits : (q : Query) → query_repeats 32 q ≡ true → length (query_text q) ≤ 2000 → Fits (query_count q) (query_tree q)
query_fits (query a e) h few =
    let one = one_alt_weighs (alt_parts 0 a) in
    let weight = alt_weighs 0 a h in (
      one_alt_proper (alt_count a) (alt_parts 0 a) (alt_proper (alt_count a) 0 a (omega arith) h),
      omega (arith, length-append (alt_text a) (ending_text e)),
    )
