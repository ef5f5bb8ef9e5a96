-- A text without the spaces at both ends, by what `trim_start_matches` and `trim_end_matches` say.
use lib.Utf8
use Rattle.std.proofs.Common.{◌≡◌, ℕ, ◌-◌, List, [], ◌∷◌, ◌++◌, Option, Some, None, IfSome, drop, length, reverse, take, sym, ◌∙◌, ap, arith, lit<}
use Rattle.std.proofs.lemmas.List.{drop_all, reverse-append, take-append-drop}
use Rattle.std.proofs.lemmas.Str.Pattern.{drop_at_char}
use Rattle.std.specs.Str.Pattern.{CutsPrefixes, CutsSuffixes, FindsCharPrefix, FindsCharSuffix, IsTrimEndMatches, IsTrimStartMatches}
use Rattle.tb_rules.proofs.Trims.{no_space_at_end, no_space_in_front}
use Rattle.tb_rules.specs.Comments.{drop_spaces, trimmed}

-- one space less in front
one_in_front : (m : List ℕ) (n : ℕ) (r : List ℕ) → FindsCharPrefix 32 m (Some n) → r ≡ drop n m → drop_spaces m ≡ drop_spaces r
one_in_front m n r found is =
    let e : m ≡ 32 ∷ drop n m = drop_at_char 32 m 0 n found (lit< tt) in
    ap drop_spaces e ∙ ap drop_spaces (sym is)

cut_in_front : (ns : List ℕ) (s r : List ℕ) → CutsPrefixes (FindsCharPrefix 32) s ns r → drop_spaces s ≡ drop_spaces r
cut_in_front [] s r cuts = ap drop_spaces (sym cuts)
cut_in_front (n ∷ ns) s r (m, cuts, found, is) = cut_in_front ns s m cuts ∙ one_in_front m n r found is

none_in_front : (r : List ℕ) (o : Option ℕ) → FindsCharPrefix 32 r o → IfSome o (λ n. n ≡ 0) → drop_spaces r ≡ r
unfolding lib.Utf8.encode
none_in_front r None none zero = no_space_in_front r none
none_in_front r (Some n) found zero = absurd (omega (arith, found.ends, zero))

-- one space less at the end
one_at_end : (m : List ℕ) (n : ℕ) (r : List ℕ) → FindsCharSuffix 32 m (Some n) → r ≡ take (length m - n) m
    → drop_spaces (reverse m) ≡ drop_spaces (reverse r)
one_at_end m n r found is =
    let back : drop (length m - n) m ≡ 32 ∷ [] = drop_at_char 32 m (length m - n) (length m) found.1 (lit< tt) ∙ ap (λ (xs : List ℕ). 32 ∷ xs) (drop_all (length m) m (omega arith)) in
    let whole : m ≡ r ++ 32 ∷ [] = sym (take-append-drop (length m - n) m) ∙ (ap (λ (xs : List ℕ). take (length m - n) m ++ xs) back ∙ ap (λ (xs : List ℕ). xs ++ 32 ∷ []) (sym is)) in
    ap (λ (xs : List ℕ). drop_spaces (reverse xs)) whole ∙ ap drop_spaces (reverse-append r (32 ∷ []))

cut_at_end : (ns : List ℕ) (s r : List ℕ) → CutsSuffixes (FindsCharSuffix 32) s ns r → drop_spaces (reverse s) ≡ drop_spaces (reverse r)
cut_at_end [] s r cuts = ap (λ (xs : List ℕ). drop_spaces (reverse xs)) (sym cuts)
cut_at_end (n ∷ ns) s r (m, cuts, found, is) = cut_at_end ns s m cuts ∙ one_at_end m n r found is

none_at_end : (r : List ℕ) (o : Option ℕ) → FindsCharSuffix 32 r o → IfSome o (λ n. n ≡ 0) → reverse (drop_spaces (reverse r)) ≡ r
unfolding lib.Utf8.encode
none_at_end r None none zero = no_space_at_end r none
none_at_end r (Some n) found zero = absurd (omega (arith, found.0, zero))

pub both_trimmed : (text a r : List ℕ) → IsTrimStartMatches (FindsCharPrefix 32) text a
    → IsTrimEndMatches (FindsCharSuffix 32) a r → r ≡ trimmed text
both_trimmed text a r front end =
    let first : drop_spaces text ≡ a = cut_in_front front.0.0 text a front.0.1 ∙ none_in_front a front.1.0 front.1.1 front.1.2 in
    sym (ap (λ (xs : List ℕ). reverse (drop_spaces (reverse xs))) first ∙ (ap reverse (cut_at_end end.0.0 a r end.0.1)
    ∙ none_at_end r end.1.0 end.1.1 end.1.2))
