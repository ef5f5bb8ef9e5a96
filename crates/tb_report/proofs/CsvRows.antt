-- Rows written one after the other.
use Rattle.std.proofs.Common.{◌≡◌, ℕ, ◌+◌, ◌<◌, List, [], ◌∷◌, ◌++◌, length, map, take, get_or, Option, Some, refl, sym, ap, ◌∙◌, subst}
use Rattle.std.specs.Io.KnownBytes.{Appends, Keeps}
use Rattle.std.proofs.KnownBytes.{Appends-trans, Appends-kept}
use Rattle.std.proofs.lemmas.List.{take_more, map-append}
use Rattle.std.proofs.lemmas.List.Concat.{flat_map-append}
use Rattle.csv.specs.Writing.{default_writer, row_text, text_written}
use Rattle.csv.specs.declared.writer.Writer.{Writer}
use denote.Ref.{Bor}
use Rattle.std.specs.declared.cmp.Reverse.{Reverse}
use Rattle.tb_report.specs.Csv.{IsBetweenRows, PutsRows, csv_of, freq_fields}
use Rattle.tb_report.specs.Kept.{ranked_row}

module _ {W : Type 0} (contents : W → Option (List ℕ)) where
  pub puts_both : (o a b : Writer W) (rows more : List (List (List ℕ))) → PutsRows contents o a rows → PutsRows contents a b more → PutsRows contents o b (rows ++ more)
  puts_both o a b rows more first second between =
      let one = first between in
      let two = second one.0 in
      (two.0, subst (Appends (text_written contents o) (text_written contents b)) (sym (flat_map-append (row_text default_writer) rows more)) (Appends-trans (text_written contents o) (text_written contents a) (text_written contents b) _ _ one.1 two.1))

  pub puts_more : {X : Type 0} (f : X → List (List ℕ)) (xs : List X) (i : ℕ) (x : X) (o a b : Writer W) → i < length xs → x ≡ get_or xs i x
      → PutsRows contents o a (map f (take i xs)) → PutsRows contents a b (f x ∷ []) → PutsRows contents o b (map f (take (i + 1) xs))
  puts_more f xs i x o a b inside is before here =
      let more : map f (take (i + 1) xs) ≡ map f (take i xs) ++ f x ∷ [] =
      ap (map f) (take_more xs i x inside ∙ ap (λ y. take i xs ++ y ∷ []) (sym is)) ∙ map-append f (take i xs) (x ∷ []) in
      subst (PutsRows contents o b) (sym more) (puts_both o a b (map f (take i xs)) (f x ∷ []) before here)

  -- a table that was begun with nothing, and is handed out
  pub whole_table : (fresh last : Writer W) (rows : List (List (List ℕ))) (v : List ℕ) → IsBetweenRows fresh → text_written contents fresh ≡ Some []
      → PutsRows contents fresh last rows → Keeps (text_written contents last) (Some v) → v ≡ csv_of rows
  whole_table fresh last rows v between empty put kept =
      subst (λ o. Appends o (Some v) (csv_of rows)) empty (Appends-kept (text_written contents fresh) (text_written contents last) (Some v) (csv_of rows) (put between).1 kept)

pub composed : (ranks : List (Reverse ℕ × Bor (List ℕ))) → map (λ rank. freq_fields (ranked_row rank)) ranks ≡ map freq_fields (map ranked_row ranks)
composed [] = refl
composed (r ∷ rs) = ap (λ rows. freq_fields (ranked_row r) ∷ rows) (composed rs)
