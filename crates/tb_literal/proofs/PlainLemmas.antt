-- A text in which no character has a meaning of its own: wrapped as a pattern for the whole value, it fits the equal value alone.
use Rattle.std.proofs.Common.{◌≡◌, ◌≤◌, ◌<◌, ◌+◌, ◌-◌, ◌*◌, ℕ, List, [], ◌∷◌, ◌++◌, length, map, drop, Option, None, Some, true, false, IsSomeAnd, is_some, IsUtf8, chars, codes, refl, sym, ap, ◌∙◌, arith, if◌then◌else◌, length-append, append-nil, ⊎_elim, true≢false, subst, slice_index}
use Rattle.std.specs.Prelude.{nat_lt}
use Rattle.std.specs.Str.{bytes_eq}
use Rattle.std.proofs.lemmas.Bool.{cond_both, cases_Bool}
use Rattle.std.proofs.lemmas.Bool.Decides.{nat_tests}
use Rattle.std.proofs.lemmas.List.{drop_all}
use Rattle.std.proofs.lemmas.Slice.Eq.{bytes_eq-Decides}
use Rattle.std.proofs.lemmas.Str.{chars-append, encodes-chars, encodes_same}
use lib.Utf8.{encodes}
use Rattle.regex_hir.specs.Re.{Re, literal, look, cat}
use Rattle.regex_hir.specs.declared.look.Look.TheVariants.{Start, End}
use Rattle.regex_hir.specs.Meaning.{cat_all, alt_all}
use Rattle.regex_hir.specs.Text.{has_bytes_at}
use Rattle.regex_hir.proofs.TextLemmas.{has_bytes_at_parts, has_bytes_at_from}
use Rattle.regex_syntax.specs.Brackets.{Nested, flat, join, deepest}
use Rattle.regex_syntax.specs.Reading.{Text, is_at, ◌>>=◌}
use Rattle.regex_syntax.specs.Grammar.{Names, Place, item, atom, with_repetitions, items, branches, join_parts, read}
use Rattle.regex_syntax.specs.Same.{SameTree}
use Rattle.regex_syntax.specs.Verdict.{escaped_text, ReadsAsText}
use Rattle.regex_syntax.proofs.ReadingLemmas.{skip-false}
use Rattle.regex_syntax.proofs.BranchLemmas.{Read, join_after, group_inside, more_parts, more_branches, ends_branch, repetitions_end, branch_ends, branch_goes, branches_go, join_parts_is, join_ends}
use Rattle.regex_syntax.proofs.EscapeLemmas.{itself, items_escaped, literals, escaped_reads}
use Rattle.regex_syntax.proofs.LikenessLaws.{alike_of_same}
use Rattle.regex_syntax.proofs.TreeLaws.{◌then◌, cat_cong, cat-empty, alt-fail, same_refl, same_of_eq}
use Rattle.regex.specs.Patterns.{default_config, find_str}
use Rattle.regex.proofs.OnLiterals.{regex_on_literals}
use Rattle.regex.proofs.ForCallers.{is_match_alike, whole_of_is_match, is_match_of_whole}
use Rattle.tb_literal.proofs.PatternLemmas.{weaker}
use Rattle.tb_literal.specs.Patterns.{IsPattern, IsWhole, read_pattern, tree_finds, finds, wrapped}

abbrev place : Text → Place
place t = record { config = default_config; names = None ∷ []; text = t }

-- a branch goes on after an item
passes : (n m : ℕ) (earlier : List (Nested Re)) (t rest : Text) (part : Nested Re) → n ≡ m + 1 → ends_branch t ≡ false →
    item (group_inside m) (place t) ≡ Some (part, place rest) →
    join_after cat_all earlier (items n (place t)) ≡ join_after cat_all (earlier ++ part ∷ []) (items m (place rest))
passes n m earlier t rest part e begins read_item =
    branch_goes n m earlier (place t) t (omega arith) (sym (skip-false t)) begins ∙ ap (λ o. o >>= more_parts m earlier) read_item

-- an atom that no operator of repetition follows
atom_passes : (inner : Place → Read (Nested Re)) (t rest : Text) (part : Nested Re) → is_at "(" t ≡ false →
    atom default_config t ≡ Some (part, rest) → is_at "?*+{" rest ≡ false → item inner (place t) ≡ Some (part, place rest)
unfolding item with_repetitions
atom_passes inner t rest part no_group read_atom h =
    rw (
      item,
      no_group,
      read_atom,
      with_repetitions,
      repetitions_end default_config (length rest + 1) (length rest) part rest rest (omega arith) (sym (skip-false rest)) h,
    )

start_read : (rest : Text) → atom default_config (0x5C ∷ 0x41 ∷ rest) ≡ Some (flat (look Start), rest)
unfolding regex_on_literals
start_read rest = refl

end_read : (rest : Text) → atom default_config (0x5C ∷ 0x7A ∷ rest) ≡ Some (flat (look End), rest)
unfolding regex_on_literals
end_read rest = refl

abbrev deeper : Nested Re → Nested Re
deeper body = record { value = body.value; depth = body.depth + 1 }

group_read : (inner : Place → Read (Nested Re)) (inside after : Text) (body : Nested Re) → inner (place inside) ≡ Some (body, place (0x29 ∷ after)) →
    is_at "?*+{" after ≡ false → item inner (place (0x28 ∷ 0x3F ∷ 0x3A ∷ inside)) ≡ Some (deeper body, place after)
unfolding item with_repetitions regex_on_literals
group_read inner inside after body e h =
    rw (
      e,
      repetitions_end default_config (length after + 1) (length after) (deeper body) after after (omega arith) (sym (skip-false after)) h,
    )

abbrev body_of : Text → Nested Re
body_of cs = join alt_all (join cat_all (map itself cs) ∷ [])

group_body : (cs after : Text) (m : ℕ) → length cs + 2 < m →
    group_inside m (place (escaped_text cs ++ 0x29 ∷ after)) ≡ Some (body_of cs, place (0x29 ∷ after))
unfolding regex_on_literals
group_body cs after m h =
    let rest = 0x29 ∷ after in
    join_parts_is alt_all _ ∙ branches_go m (m - 1) [] _ (omega arith)
    ∙ ap (λ o. o >>= more_branches (m - 1) [])
    (join_parts_is cat_all _
    ∙ items_escaped default_config (None ∷ []) refl refl cs rest (m - 1) (m - 1 - length cs) [] (omega arith) refl
    ∙ branch_ends (m - 1 - length cs) (m - 2 - length cs) (map itself cs) (place rest) rest (omega arith) (sym (skip-false rest)) (grind (arith, nat_tests)))
    ∙ join_ends alt_all (join cat_all (map itself cs) ∷ []) _

abbrev wrapped_text : Text → Text
wrapped_text cs = 0x5C ∷ 0x41 ∷ 0x28 ∷ 0x3F ∷ 0x3A ∷ (escaped_text cs ++ 0x29 ∷ 0x5C ∷ 0x7A ∷ [])

abbrev branch_of : Text → Nested Re
branch_of cs = join cat_all (flat (look Start) ∷ deeper (body_of cs) ∷ flat (look End) ∷ [])

branch_wrapped : (cs : Text) (n : ℕ) → length cs + 5 < n →
    join_after cat_all [] (items n (place (wrapped_text cs))) ≡ Some (branch_of cs, place [])
unfolding regex_on_literals
branch_wrapped cs n h =
    let last : Text = 0x5C ∷ 0x7A ∷ [] in
    let inside : Text = escaped_text cs ++ 0x29 ∷ last in
    passes n (n - 1) [] _ (0x28 ∷ 0x3F ∷ 0x3A ∷ inside) (flat (look Start)) (omega arith) (grind (arith, nat_tests))
    (atom_passes (group_inside (n - 1)) (wrapped_text cs) _ _ refl (start_read _) refl)
    ∙ passes (n - 1) (n - 2) (flat (look Start) ∷ []) _ last (deeper (body_of cs)) (omega arith) (grind (arith, nat_tests))
    (group_read (group_inside (n - 2)) inside last (body_of cs) (group_body cs last (n - 2) (omega arith)) refl)
    ∙ passes (n - 2) (n - 3) (flat (look Start) ∷ deeper (body_of cs) ∷ []) _ [] (flat (look End)) (omega arith) refl
    (atom_passes (group_inside (n - 3)) last _ _ refl (end_read _) refl)
    ∙ branch_ends (n - 3) (n - 4) (flat (look Start) ∷ deeper (body_of cs) ∷ flat (look End) ∷ []) (place []) [] (omega arith) (sym (skip-false [])) refl

abbrev whole_of : Text → Nested Re
whole_of cs = join alt_all (branch_of cs ∷ [])

text_read : (t : Text) (branch : Nested Re) → join_after cat_all [] (items (2 * length t + 1) (place t)) ≡ Some (branch, place []) →
    join_parts alt_all (branches (2 * length t + 2) (place t)) ≡ Some (join alt_all (branch ∷ []), place [])
unfolding regex_on_literals
text_read t branch h =
    join_parts_is alt_all _ ∙ branches_go _ (2 * length t + 1) [] _ (omega arith)
    ∙ ap (λ o. o >>= more_branches (2 * length t + 1) []) (join_parts_is cat_all _ ∙ h) ∙ join_ends alt_all (branch ∷ []) _

-- no character of the text has a meaning of its own in a pattern: it is escaped as itself
abbrev pub IsPlain : List ℕ → Type 0
IsPlain text = encodes (escaped_text (chars text)) ≡ text

plain_chars : (text : List ℕ) → IsUtf8 text → IsPlain text → escaped_text (chars text) ≡ chars text
plain_chars text utf8 plain = encodes_same _ _ (plain ∙ sym (encodes-chars text utf8))

chars_wrapped : (text : List ℕ) → IsUtf8 text → escaped_text (chars text) ≡ chars text → chars (wrapped false text) ≡ wrapped_text (chars text)
unfolding regex_on_literals
chars_wrapped text utf8 plain =
    chars-append (codes "\\A(?:") (text ++ codes ")\\z") (codes "\\A(?:", (refl, refl))
    ∙ ap (λ l. chars (codes "\\A(?:") ++ l) (chars-append text (codes ")\\z") utf8)
    ∙ ap (λ l. 0x5C ∷ 0x41 ∷ 0x28 ∷ 0x3F ∷ 0x3A ∷ (l ++ 0x29 ∷ 0x5C ∷ 0x7A ∷ [])) (sym plain)

plain_reads : (text : List ℕ) → IsUtf8 text → IsPlain text → (P : Nested Re → Type 0) → P (whole_of (chars text)) →
    IsSomeAnd (read_pattern (wrapped false text)) (λ (re, _). P re)
unfolding read
plain_reads text utf8 plain P p =
    let cs = chars text in
    let t = wrapped_text cs in
    let same = plain_chars text utf8 plain in
    let longer : length cs + 5 < 2 * length t + 1 =
    omega (arith, ap length same, length-append (escaped_text cs) (0x29 ∷ 0x5C ∷ 0x7A ∷ [])) in
    rw (chars_wrapped text utf8 same, read, text_read t (branch_of cs) (branch_wrapped cs (2 * length t + 1) longer)) p

flat_depth : (cs : Text) → deepest (map itself cs) ≡ 0
flat_depth [] = refl
flat_depth (c ∷ cs) = omega (arith, flat_depth cs)

whole_depth : (cs : Text) → (whole_of cs).depth ≤ 250
whole_depth cs =
    let level : (if nat_lt 1 (length (map itself cs)) then 1 else 0) ≤ 1 =
    cond_both (nat_lt 1 (length (map itself cs))) 1 0 (λ n. n ≤ 1) (λ _. omega arith) (λ _. omega arith) in
    omega (arith, flat_depth cs, level)

-- it is a pattern alone and wrapped
pub plain_is_whole : (text : List ℕ) → IsUtf8 text → IsPlain text → IsWhole false text
unfolding IsPattern ReadsAsText
plain_is_whole text utf8 plain =
    let escaped : ReadsAsText text text = subst (λ l. ReadsAsText l text) plain (escaped_reads text utf8) in (
      weaker (read_pattern text) _ _ (λ x h. omega (arith, h.0)) (escaped default_config refl refl),
      plain_reads text utf8 plain (λ re. re.depth ≤ 250) (whole_depth (chars text)),
    )

-- the tree between the value's beginning and its end
abbrev anchored : List ℕ → Re
anchored text = cat (look Start) (cat (literal text) (look End))

same_as_anchored : (text : List ℕ) → IsUtf8 text → SameTree (whole_of (chars text)).value (anchored text)
same_as_anchored text utf8 =
    alt-fail _ then cat_cong (same_refl _) (cat_cong (alt-fail _ then literals (chars text) then same_of_eq (ap literal (encodes-chars text utf8))) (cat-empty _))

found_by : (o : Option (Nested Re × Names)) (re : Re) (value : List ℕ) → ((k : ℕ) → slice_index value k < 256) →
    IsSomeAnd o (λ (read, _). SameTree read.value re) → tree_finds o value ≡ is_some (find_str re value 0)
found_by None re value bytes h = absurd h
found_by (Some x) re value bytes h = is_match_alike (alike_of_same h).captures value bytes true 0

whole_is : (text value : List ℕ) → IsUtf8 value → is_some (find_str (anchored text) value 0) ≡ bytes_eq value text
unfolding has_bytes_at
whole_is text value utf8 =
    ⊎_elim
    (λ (same : bytes_eq value text ≡ true).
    let e : text ≡ value = sym ((bytes_eq-Decides value text).0 same) in
    is_match_of_whole (literal text) value utf8 (rw e (has_bytes_at_from value 0 value [] (sym (append-nil value))), omega (arith, ap length e)) ∙ sym same)
    (λ (other : bytes_eq value text ≡ false).
    ⊎_elim
    (λ (found : is_some (find_str (anchored text) value 0) ≡ true).
    let m = whole_of_is_match (literal text) value found in
    let parts = has_bytes_at_parts value 0 text m.0 in
    let tail : drop (0 + length text) value ≡ [] = drop_all (0 + length text) value (omega (arith, m.1)) in
    let same : value ≡ text = parts ∙ ap (λ l. text ++ l) tail ∙ append-nil text in
    absurd (true≢false (sym ((bytes_eq-Decides value text).1 same) ∙ other)))
    (λ (none : is_some (find_str (anchored text) value 0) ≡ false). none ∙ sym other)
    (cases_Bool (is_some (find_str (anchored text) value 0))))
    (cases_Bool (bytes_eq value text))

-- so it fits the equal value alone
pub plain_fits_itself : (text : List ℕ) → IsUtf8 text → IsPlain text → (value : List ℕ) → IsUtf8 value → ((k : ℕ) → slice_index value k < 256) →
    finds (wrapped false text) value ≡ bytes_eq value text
unfolding finds
plain_fits_itself text utf8 plain value value_utf8 bytes =
    found_by (read_pattern (wrapped false text)) (anchored text) value bytes
    (plain_reads text utf8 plain (λ re. SameTree re.value (anchored text)) (same_as_anchored text utf8))
    ∙ whole_is text value value_utf8
