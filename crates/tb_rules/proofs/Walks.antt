use Rattle.std.proofs.Common.{◌≡◌, ◌≢◌, ◌⊎◌, inl, inr, [], ◌++◌, take, drop, ℕ, zero, suc, ◌+◌, ◌-◌, ◌<◌, ◌≤◌, List, length, get_or, true, false, Option, Some, None, eqb, refl, sym, ◌∙◌, ap, subst, arith, length-set, get_or-set_other, get_or-set_same}
use Rattle.std.specs.Option.{MatchOption, is_some}
use Rattle.std.proofs.Math.ListN.{set}
use Rattle.std.proofs.lemmas.Bool.{ne_eqb, cases_lt}
use Rattle.std.proofs.lemmas.List.{get_or_past, drop_all, take_all, append-nil}
use Rattle.tb_rules.specs.Tree.{walk, head_at, ReachesRoot}
use Rattle.tb_rules.specs.Depths.{IsDepth, AreDepths}

-- some steps after others
pub walk-add : (hs : List ℕ) (m n k : ℕ) → walk hs (m + n) k ≡ walk hs m (walk hs n k)
walk-add hs zero n k = let e : 0 + n ≡ n = omega arith in rw e refl
walk-add hs (suc m) n k = let e : suc m + n ≡ suc (m + n) = omega arith in rw e (ap (head_at hs) (walk-add hs m n k))

pub walk_on : (hs : List ℕ) (n k : ℕ) → walk hs (n + 1) k ≡ walk hs n (head_at hs k)
walk_on hs n k = walk-add hs n 1 k

pub at_root : (hs : List ℕ) (k : ℕ) → k ≡ 0 → IsDepth hs k 0
at_root hs k e = record {
  arrives = e;
  no_sooner = λ n l h. omega arith;
}

-- a number beyond the words
pub beyond : (hs : List ℕ) (k : ℕ) → length hs < k → IsDepth hs k 1
beyond hs k l =
    let some : eqb k 0 ≡ false = ne_eqb k 0 (λ e. omega arith) in record {
      arrives = rw some (get_or_past hs (k - 1) 0 (omega arith));
      no_sooner = λ n m h. (let none : n ≡ 0 = omega arith in let here : k ≡ 0 = ap (λ x. walk hs x k) (sym none) ∙ h in omega arith);
    }

-- so many steps, none of them at the root, and then the depth of where they lead
pub after : (hs : List ℕ) (steps d k at : ℕ) → at ≡ walk hs steps k → ((n : ℕ) → n < steps → walk hs n k ≢ 0) → IsDepth hs at d → IsDepth hs k (steps + d)
after hs steps d k at e before h = record {
  arrives = (let swap : steps + d ≡ d + steps = omega arith in rw swap (walk-add hs d steps k ∙ (ap (walk hs d) (sym e) ∙ h.arrives)));
  no_sooner = λ n l zero_at.
      let cut : n ≡ n - steps + steps → walk hs n k ≡ walk hs (n - steps) at = λ s. ap (λ x. walk hs x k) s ∙ (walk-add hs (n - steps) steps k ∙ ap (walk hs (n - steps)) (sym e)) in
      elim (cases_lt n steps) [
        | inl less ↦ before n less zero_at
        | inr more ↦ h.no_sooner (n - steps) (omega arith) (sym (cut (omega arith)) ∙ zero_at)
      ];
}

-- one step along the heads
pub above : (hs : List ℕ) (d k : ℕ) → IsDepth hs k (d + 1) → IsDepth hs (head_at hs k) d
above hs d k h = record {
  arrives = sym (walk_on hs d k) ∙ h.arrives;
  no_sooner = λ n l e. h.no_sooner (n + 1) (omega arith) (walk_on hs n k ∙ e);
}

pub reaches : (hs : List ℕ) (k d : ℕ) → IsDepth hs k d → d ≤ length hs → ReachesRoot hs k
reaches hs k d h l = (d, l, h.arrives)

pub too_far : (hs : List ℕ) (k d : ℕ) → IsDepth hs k d → length hs < d → ReachesRoot hs k → ⊥
too_far hs k d h l (n, few, e) = h.no_sooner n (omega arith) e

-- a table in which one more depth is written, at that place and at another
noted_there : (hs ds : List ℕ) (k d j : ℕ) → 0 < k → j < length ds → j ≡ k - 1 → IsDepth hs k d → IsDepth hs (j + 1) (get_or (set ds (k - 1) d) j 0)
noted_there hs ds k d j some l same is =
    let there : get_or (set ds (k - 1) d) j 0 ≡ d = ap (λ x. get_or (set ds (k - 1) d) x 0) same ∙ get_or-set_same ds (k - 1) d 0 (omega arith) in
    subst (λ (x : ℕ). IsDepth hs (j + 1) x) (sym there) (subst (λ (x : ℕ). IsDepth hs x d) (omega arith) is)

noted_elsewhere : (hs ds : List ℕ) (k d j : ℕ) → AreDepths hs ds → j < length ds → j ≢ k - 1 → get_or (set ds (k - 1) d) j 0 ≢ 0 → IsDepth hs (j + 1) (get_or (set ds (k - 1) d) j 0)
noted_elsewhere hs ds k d j h l other known =
    let there : get_or (set ds (k - 1) d) j 0 ≡ get_or ds j 0 = get_or-set_other ds (k - 1) j d 0 other in
    subst (λ (x : ℕ). IsDepth hs (j + 1) x) (sym there) (h.exact j l (λ none. known (there ∙ none)))

-- one more depth is known
pub noted : (hs ds : List ℕ) (k d : ℕ) → AreDepths hs ds → 0 < k → IsDepth hs k d → AreDepths hs (set ds (k - 1) d)
noted hs ds k d h some is = record {
  as_many = length-set ds (k - 1) d ∙ h.as_many;
  exact = λ j l known.
      let within : j < length ds = omega (arith, length-set ds (k - 1) d) in
      elim (cases_lt j (k - 1)) [
        | inl less ↦ noted_elsewhere hs ds k d j h within (λ e. omega arith) known
        | inr more ↦ elim (cases_lt (k - 1) j) [
          | inl above ↦ noted_elsewhere hs ds k d j h within (λ e. omega arith) known
          | inr same ↦ noted_there hs ds k d j some within (omega arith) is
        ]
      ];
}

-- a list that takes the place of one of its length
pub in_place : {X : Type 0} (new old : List X) (n : ℕ) → length new ≡ length old → length old ≡ n → take n (new ++ drop (length new) old) ≡ new
in_place new old n e l =
    let none : drop (length new) old ≡ [] = drop_all (length new) old (omega arith) in
    let bare : new ++ [] ≡ new = append-nil new in
    rw none (rw bare (take_all n new (omega arith)))

-- what is known of no depth
pub unknown : {X P : Type 0} (Q : X → Type 0) (o : Option X) → MatchOption o P Q → is_some o ≡ false → P
unknown Q None h none = h
unknown Q (Some x) h none = let e : true ≡ false = none in cc

pub none_known : {X : Type 0} (o : Option X) → o ≡ None → is_some o ≡ false
none_known o e = ap is_some e

other : (ds : List ℕ) (k j : ℕ) → ((j ≡ k) ⊎ (get_or ds j 0 ≢ 0)) → j ≢ k → get_or ds j 0 ≢ 0
other ds k j (inl same) not_same = absurd (not_same same)
other ds k j (inr known) not_same = known

elsewhere : (ds : List ℕ) (k d j : ℕ) → j ≢ k → get_or ds j 0 ≢ 0 → get_or (set ds k d) j 0 ≢ 0
elsewhere ds k d j not_same known = λ none. known (sym (get_or-set_other ds k j d 0 not_same) ∙ none)

-- a depth that is not 0 is written into a table
pub still_noted : (ds : List ℕ) (k d j : ℕ) → k < length ds → d ≢ 0 → ((j ≡ k) ⊎ (get_or ds j 0 ≢ 0)) → get_or (set ds k d) j 0 ≢ 0
still_noted ds k d j within some known = elim (cases_lt j k) [
  | inl less ↦ elsewhere ds k d j (omega arith) (other ds k j known (omega arith))
  | inr more ↦ elim (cases_lt k j) [
    | inl above ↦ elsewhere ds k d j (omega arith) (other ds k j known (omega arith))
    | inr same ↦ let e : j ≡ k = omega arith in λ none. some (sym (ap (λ x. get_or (set ds k d) x 0) e ∙ get_or-set_same ds k d 0 within) ∙ none)
  ]
]
