-- What a walk puts that copies each text.
use Rattle.std.proofs.Common.{◌≡◌, ℕ, suc, List, [], ◌∷◌, ◌++◌, map, take, length, drop, Option, sym, ap, subst, ◌∙◌, inl, inr, append-nil, append_assoc}
use Rattle.std.specs.Io.KnownBytes.{Appends}
use Rattle.std.proofs.KnownBytes.{Appends-nil, Appends-trans}
use Rattle.std.proofs.Math.Seq.{take-append_seam}
use Rattle.std.proofs.lemmas.List.{take-append-drop}
use Rattle.tb_conllu.specs.Sunk.{AppendsPart}
use Rattle.tb_conllu.proofs.Faults.{text_of-append}
use Rattle.tb_core.specs.Machine.{Sentence}
use Rattle.tb_search.specs.declared.stopped.Stopped.{Stopped}
use Rattle.tb_search.specs.declared.stopped.Stopped.TheVariants.{Output, Read}
use Rattle.tb_search.specs.Released.{current_text, IsCutShort}
use Rattle.tb_search.specs.Visited.{Taking, Stopping, AllTaken, Halted, IsFault, texts}
use Rattle.tb_search.proofs.Walking.{of_sink, same_fault}
use Rattle.tb_search.proofs.Asked.{text}

-- a part of what comes after
pub part_after : (o a b : Option (List ℕ)) (xs ys zs : List ℕ) → Appends o a xs → AppendsPart a b ys → AppendsPart o b (xs ++ (ys ++ zs))
part_after o a b xs ys zs first (k, then_) =
    let seen = xs ++ take k ys in
    let cut : ys ++ zs ≡ take k ys ++ (drop k ys ++ zs) = ap (λ l. l ++ zs) (sym (take-append-drop k ys)) ∙ append_assoc (take k ys) (drop k ys) zs in
    let whole : xs ++ (ys ++ zs) ≡ seen ++ (drop k ys ++ zs) = ap (λ l. xs ++ l) cut ∙ sym (append_assoc xs (take k ys) (drop k ys ++ zs)) in
    let front : take (length seen) (xs ++ (ys ++ zs)) ≡ seen = ap (take (length seen)) whole ∙ take-append_seam seen (drop k ys ++ zs) in
    (length seen, subst (Appends o b) (sym front) (Appends-trans o a b xs (take k ys) first then_))

pub part_later : (o a b : Option (List ℕ)) (xs ys : List ℕ) → Appends o a xs → AppendsPart a b ys → AppendsPart o b (xs ++ ys)
part_later o a b xs ys first then_ = subst (λ l. AppendsPart o b (xs ++ l)) (append-nil ys) (part_after o a b xs ys [] first then_)

pub part_first : (o b : Option (List ℕ)) (ys zs : List ℕ) → AppendsPart o b ys → AppendsPart o b (ys ++ zs)
part_first o b ys zs part = part_after o o b [] ys zs (Appends-nil o) part

pub no_part : (o b : Option (List ℕ)) (ys : List ℕ) → b ≡ o → AppendsPart o b ys
no_part o b ys same = (0, subst (λ a. Appends o a []) (sym same) (Appends-nil o))

first_text : (x : Sentence) (xs : List Sentence) → current_text (x ∷ xs) ≡ text x ++ current_text xs
first_text x xs = text_of-append (x.current.body ∷ []) (map (λ (y : Sentence). y.current.body) xs)

module _ {V W : Type 0} (held : W → Option (List ℕ)) where
  abbrev pub copies : Taking V W
  copies v o t w q = Appends (held o) (held q) t

  abbrev pub breaks : Stopping V W
  breaks v o t e q = (e ≡ Output) × AppendsPart (held o) (held q) t

  pub all_copied : (xs : List Sentence) (v : V) (o : W) (w : V) (q : W) → AllTaken copies v o (texts xs) w q → Appends (held o) (held q) (current_text xs)
  all_copied [] v o w q (same, filled) = subst (λ (p : W). Appends (held o) (held p) []) (sym filled) (Appends-nil (held o))
  all_copied (x ∷ xs) v o w q (u, p, first, more) =
      subst (Appends (held o) (held q)) (sym (first_text x xs)) (Appends-trans (held o) (held p) (held q) (text x) (current_text xs) first (all_copied xs u p w q more))

  pub cut_short : (xs : List Sentence) (v : V) (o : W) (e : Stopped) (q : W) → Halted copies breaks v o (texts xs) e q → IsCutShort e (held o) (held q) xs
  cut_short [] v o Output q (fault, same) = no_part (held o) (held q) [] (ap held same)
  cut_short [] v o (Read error) q (fault, same) = (0, subst (λ (p : W). Appends (held o) (held p) []) (sym same) (Appends-nil (held o)))
  cut_short (x ∷ xs) v o Output q (inl (fault, same)) = no_part (held o) (held q) (current_text (x ∷ xs)) (ap held same)
  cut_short (x ∷ xs) v o (Read error) q (inl (fault, same)) = (0, subst (λ (p : W). Appends (held o) (held p) []) (sym same) (Appends-nil (held o)))
  cut_short (x ∷ xs) v o Output q (inr (inl (is, part))) = subst (AppendsPart (held o) (held q)) (sym (first_text x xs)) (part_first (held o) (held q) (text x) (current_text xs) part)
  cut_short (x ∷ xs) v o (Read error) q (inr (inl (is, part))) = absurd cc
  cut_short (x ∷ xs) v o Output q (inr (inr (u, p, first, more))) =
      subst (AppendsPart (held o) (held q)) (sym (first_text x xs)) (part_later (held o) (held p) (held q) (text x) (current_text xs) first (cut_short xs u p Output q more))
  cut_short (x ∷ xs) v o (Read error) q (inr (inr (u, p, first, more))) =
      let later = cut_short xs u p (Read error) q more in
      (suc later.0, subst (Appends (held o) (held q)) (sym (first_text x (take later.0 xs))) (Appends-trans (held o) (held p) (held q) (text x) (current_text (take later.0 xs)) first later.1))

  pub copied_fault : (xs : List Sentence) (v : V) (o : W) (e : Stopped) (q : W) → Halted copies breaks v o (texts xs) e q → IsFault e
  copied_fault [] v o e q (fault, same) = fault
  copied_fault (x ∷ xs) v o e q (inl (fault, same)) = fault
  copied_fault (x ∷ xs) v o e q (inr (inl (is, part))) = same_fault e Output (sym is) of_sink
  copied_fault (x ∷ xs) v o e q (inr (inr (u, p, first, more))) = copied_fault xs u p e q more
