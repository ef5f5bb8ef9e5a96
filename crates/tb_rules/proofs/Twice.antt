-- Names that come twice, among sentences of which some are at fault.
use Rattle.std.proofs.Common.{◌≡◌, inl, inr, ℕ, List, [], ◌∷◌, ◌++◌, Bool, true, false, cond, ◌||◌, not, Option, Some, None, refl, sym, ◌∙◌, ap, subst, append-nil}
use Rattle.std.specs.Prelude.{bytes_eq, OnOk, Result, Ok, Err}
use Rattle.std.specs.Bool.{OnFalse}
use Rattle.std.specs.List.{cons_option, list_any}
use Rattle.std.proofs.lemmas.List.Elements.{filter_map-append}
use Rattle.std.proofs.lemmas.List.Folds.{list_any-append}
use Rattle.std.specs.Cmp.Lexicographic.{nat_list_eq_equiv}
use Rattle.tb_conllu.specs.Text.{BlockText}
use Rattle.tb_rules.specs.Broken.{AreBroken, AreBrokenAfter, AreNames, given_names}
use Rattle.tb_rules.specs.Comments.{only, sent_ids}
use Rattle.tb_rules.specs.File.{HasNewName, IsFree, IsNamed}
use Rattle.tb_rules.specs.declared.breaking.BrokenRule.{BrokenRule}
use Rattle.tb_rules.proofs.Taken.{equal_bytes, or_last, same_bytes}

only_is : (xs : List (List ℕ)) (v : List ℕ) → only xs ≡ Some v → xs ≡ v ∷ []
only_is [] v e = absurd cc
only_is (x ∷ []) v e = let same : x ≡ v = cc in ap (λ (n : List ℕ). n ∷ []) same
only_is (x ∷ y ∷ xs) v e = absurd cc

pub unnamed : (before : List BlockText) (b : BlockText) → None ≡ only (sent_ids b) → HasNewName before b
unnamed before b e name is = absurd (let same : None ≡ Some name = e ∙ ap only is in cc)

-- a sentence without a name adds none
pub unnamed_next : (names : List (List ℕ)) (before : List BlockText) (b : BlockText) → AreNames names before → None ≡ only (sent_ids b) → AreNames names (before ++ b ∷ [])
unnamed_next names before b h e name =
    h name ∙ ap (list_any (bytes_eq name)) (sym (filter_map-append (λ x. only (sent_ids x)) before (b ∷ []) ∙ ap (λ (o : Option (List ℕ)). given_names before ++ cons_option o []) (sym e) ∙ append-nil (given_names before)))

-- the first of the sentences has another name, and so have the others
apart : (b : BlockText) (name : List ℕ) (o : Option (List ℕ)) (others : List (List ℕ)) → only (sent_ids b) ≡ o → list_any (bytes_eq name) (cons_option o others) ≡ false
    → (IsNamed b name → ⊥) × (list_any (bytes_eq name) others ≡ false)
apart b name None others is h = (λ named. let same : None ≡ Some name = sym is ∙ ap only named in cc, h)
apart b name (Some own) others is h =
    let parts = or_false (bytes_eq name own) (list_any (bytes_eq name) others) h in (
      λ named.
          let same : Some own ≡ Some name = sym is ∙ ap only named in
          let equal : own ≡ name = cc in
          let d : true ≡ false = sym (same_bytes name) ∙ ap (bytes_eq name) (sym equal) ∙ parts.0 in
          cc,
      parts.1,
    )
  where
    or_false : (x y : Bool) → (x || y) ≡ false → (x ≡ false) × (y ≡ false)
    or_false true y e = absurd (let d : true ≡ false = e in cc)
    or_false false y e = (refl, e)

free_of : (bs : List BlockText) (name : List ℕ) → list_any (bytes_eq name) (given_names bs) ≡ false → IsFree bs name
free_of [] name h = tt
free_of (b ∷ bs) name h = let parts = apart b name (only (sent_ids b)) (given_names bs) refl h in (parts.0, free_of bs name parts.1)

named_or_later : (b : BlockText) (name : List ℕ) (o : Option (List ℕ)) (others : List (List ℕ)) → only (sent_ids b) ≡ o → list_any (bytes_eq name) (cons_option o others) ≡ true
    → (IsNamed b name → ⊥) → list_any (bytes_eq name) others ≡ true
named_or_later b name None others is h apart_from = h
named_or_later b name (Some own) others is h apart_from = by (bytes_eq name own) refl
  where
    by : (t : Bool) → bytes_eq name own ≡ t → list_any (bytes_eq name) others ≡ true
    by true e = absurd (apart_from (only_is (sent_ids b) own is ∙ ap (λ (n : List ℕ). n ∷ []) (sym (equal_bytes name own e))))
    by false e = sym (ap (λ (t : Bool). t || list_any (bytes_eq name) others) e) ∙ h

not_free_of : (bs : List BlockText) (name : List ℕ) → list_any (bytes_eq name) (given_names bs) ≡ true → IsFree bs name → ⊥
not_free_of [] name h f = let d : false ≡ true = h in cc
not_free_of (b ∷ bs) name h f = not_free_of bs name (named_or_later b name (only (sent_ids b)) (given_names bs) refl h f.0) f.1

named_is : (b : BlockText) (name : List ℕ) → Some name ≡ only (sent_ids b) → IsNamed b name
named_is b name e = only_is (sent_ids b) name (sym e)

one_name : (b : BlockText) (name other : List ℕ) → Some name ≡ only (sent_ids b) → IsNamed b other → name ≡ other
one_name b name other e is = let same : Some name ≡ Some other = e ∙ ap only is in cc

-- the name is new
pub new_name : (names : List (List ℕ)) (before : List BlockText) (b : BlockText) (name : List ℕ) → AreNames names before → Some name ≡ only (sent_ids b) → list_any (bytes_eq name) names ≡ false → HasNewName before b
new_name names before b name h e none other is = subst (IsFree before) (one_name b name other e is) (free_of before name (sym (h name) ∙ none))

-- a sentence before has it
pub name_again : (names : List (List ℕ)) (before : List BlockText) (b : BlockText) (name : List ℕ) → AreNames names before → Some name ≡ only (sent_ids b) → list_any (bytes_eq name) names ≡ true → HasNewName before b → ⊥
name_again names before b name h e some fresh = not_free_of before name (sym (h name) ∙ some) (fresh name (named_is b name e))

-- the names, with that of the next sentence
pub named_next : (old new : List (List ℕ)) (before : List BlockText) (b : BlockText) (name : List ℕ) → AreNames old before → Some name ≡ only (sent_ids b)
    → ((q : List ℕ) → list_any (bytes_eq q) new ≡ cond (bytes_eq name q) true (list_any (bytes_eq q) old)) → AreNames new (before ++ b ∷ [])
named_next old new before b name h e more q =
    let all : given_names (before ++ b ∷ []) ≡ given_names before ++ name ∷ [] = filter_map-append (λ x. only (sent_ids x)) before (b ∷ []) ∙ ap (λ (o : Option (List ℕ)). given_names before ++ cons_option o []) (sym e) in
    more q ∙ ap (λ t. cond t true (list_any (bytes_eq q) old)) (nat_list_eq_equiv.symm name q) ∙ ap (λ t. cond (bytes_eq q name) true t) (h q)
    ∙ or_last (bytes_eq q name) (list_any (bytes_eq q) (given_names before))
    ∙ sym (ap (list_any (bytes_eq q)) all ∙ list_any-append (bytes_eq q) (given_names before) (name ∷ []))

-- the broken rules, with rule 12 where the name is not new
pub with_name : (new : Bool) (before : List BlockText) (b : BlockText) (own all : List BrokenRule) → AreBroken b own → (new ≡ true → HasNewName before b) → (new ≡ false → HasNewName before b → ⊥)
    → all ≡ cond new own (own ++ record { rule = 12; row = 0 } ∷ []) → AreBrokenAfter before b all
with_name true before b own all h fresh twice e = inl (fresh refl, subst (AreBroken b) (sym e) h)
with_name false before b own all h fresh twice e = inr (own, twice refl, e, h)

-- what was found of the name
pub known_as : (x new : Bool) → new ≡ not x → x ≡ not new
known_as true new e = sym (ap not e)
known_as false new e = sym (ap not e)

-- what does not depend on an answer
pub on_ok : {X E : Type 0} (P : Type 0) (r : Result X E) → P → OnOk r P
on_ok P (Ok x) h = h
on_ok P (Err e) h = tt

-- where memory was refused for rule 12, the name was not new
pub kept_again : (old new : List (List ℕ)) (found : Bool) → OnFalse found (new ≡ old) → found ≡ false → new ≡ old
kept_again old new true h e = absurd cc
kept_again old new false h e = h
