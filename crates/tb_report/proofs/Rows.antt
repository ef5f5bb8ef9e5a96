-- The entries of a map as rows of a table.
use Rattle.std.proofs.Common.{◌≡◌, ℕ, cond, List, [], ◌∷◌, String, Some, refl, sym, ap, string_bytes}
use Rattle.std.specs.BTreeMap.{is_at}
use Rattle.std.specs.Cmp.Lexicographic.{slice_cmp}
use Rattle.std.specs.List.{AllByRecursion}
use Rattle.std.specs.List.Sorted.{IsStrictlySortedBy}
use Rattle.std.specs.Map.{keys_of, values_of, lookup}
use Rattle.std.specs.Ordering.{nat_cmp}
use Rattle.std.specs.declared.cmp.Ordering.TheVariants.{Less}
use Rattle.std.specs.Str.{bytes_eq}
use Rattle.std.specs.String.{string_cmp}
use Rattle.std.proofs.lemmas.Map.Text.{is_eq-slice_cmp}
use Rattle.tb_report.specs.Kept.{rows_of}

module _ {Y : Type 0} where
  -- a look-up in the rows is one in the entries
  pub lookup_rows : (key : List ℕ) (es : List (String Y × ℕ)) → lookup (bytes_eq key) (rows_of es) ≡ lookup (is_at (λ k. slice_cmp nat_cmp key (string_bytes k))) es
  lookup_rows key [] = refl
  lookup_rows key (e ∷ es) = λ i. cond (sym (is_eq-slice_cmp key (string_bytes e.0)) i) (Some e.1) (lookup_rows key es i)

  pub values_rows : (es : List (String Y × ℕ)) → values_of (rows_of es) ≡ values_of es
  values_rows [] = refl
  values_rows (e ∷ es) = ap (λ vs. e.1 ∷ vs) (values_rows es)

  below_rows : (key : String Y) (es : List (String Y × ℕ)) → AllByRecursion (λ k. string_cmp key k ≡ Less) (keys_of es)
      → AllByRecursion (λ k. slice_cmp nat_cmp (string_bytes key) k ≡ Less) (keys_of (rows_of es))
  below_rows key [] all = all
  below_rows key (e ∷ es) all = (all.0, below_rows key es all.1)

  pub ascending_rows : (es : List (String Y × ℕ)) → IsStrictlySortedBy string_cmp (keys_of es) → IsStrictlySortedBy (slice_cmp nat_cmp) (keys_of (rows_of es))
  unfolding IsStrictlySortedBy
  ascending_rows [] up = up
  ascending_rows (e ∷ es) up = (below_rows e.0 es up.0, ascending_rows es up.1)
