-- The scan, from turn to turn.
use Rattle.std.proofs.Common.{◌≡◌, ℕ, ◌+◌, ◌<◌, ◌≤◌, List, [], ◌∷◌, length, take, drop, get_or, true, false, Option, Some, None, option_and_then, sym, ap, ◌∙◌, arith, add-one}
use Rattle.std.proofs.Math.Seq.{take-suc}
use Rattle.std.proofs.lemmas.Bool.{false≢true}
use Rattle.std.proofs.lemmas.List.{take_all, take-append-drop}
use Rattle.tb_syntax.specs.declared.lexeme.Lexeme.{Lexeme}
use Rattle.tb_syntax.specs.declared.scanning.Place.{Place}
use Rattle.tb_syntax.specs.Grammar.{IsQuery, IsBeginning}
use Rattle.tb_syntax.specs.Machine.{run, step, ends, accepts, start}
use Rattle.tb_syntax.proofs.Again.{accepted}
use Rattle.tb_syntax.proofs.Takes.{query_of_accepted}
use Rattle.tb_syntax.proofs.Beginnings.{run-append, begins, begins_none}

last : (p : Place) (l : Lexeme) (o : Option Place) → step p l ≡ o → run p (l ∷ []) ≡ o
last p l None e = ap (option_and_then (λ q. run q [])) e
last p l (Some q) e = ap (option_and_then (λ q. run q [])) e

-- one lexeme more
pub one_more : (ls : List Lexeme) (i : ℕ) (p : Place) (o : Option Place) (d : Lexeme) → i < length ls → run start (take i ls) ≡ Some p →
    step p (get_or ls i d) ≡ o → run start (take (i + 1) ls) ≡ o
one_more ls i p o d lt e s =
    rw (add-one, take-suc ls i d lt)
    (run-append start (take i ls) (get_or ls i d ∷ []) ∙ ap (option_and_then (λ q. run q (get_or ls i d ∷ []))) e ∙ last p (get_or ls i d) o s)

pub whole : (ls : List Lexeme) (i : ℕ) (p : Place) → length ls ≤ i → run start (take i ls) ≡ Some p → run start ls ≡ Some p
whole ls i p le e = ap (run start) (sym (take_all i ls le)) ∙ e

pub begins_all : (ls : List Lexeme) (p : Place) → run start ls ≡ Some p → IsBeginning (take (length ls) ls)
begins_all ls p e = begins (take (length ls) ls) p (ap (run start) (take_all (length ls) ls (omega arith)) ∙ e)

-- a query begins with each list that its lexemes begin with
pub not_past : (ls : List Lexeme) (i : ℕ) → run start (take i ls) ≡ None → IsQuery ls → ⊥
not_past ls i e q = begins_none (take i ls) e (drop i ls, (q.0, q.1 ∙ sym (take-append-drop i ls)))

pub ends_well : (ls : List Lexeme) (p : Place) → run start ls ≡ Some p → ends (Some p) ≡ true → IsQuery ls
ends_well ls p e h = query_of_accepted ls (ap ends e ∙ h)

pub ends_badly : (ls : List Lexeme) (p : Place) → run start ls ≡ Some p → ends (Some p) ≡ false → IsQuery ls → ⊥
ends_badly ls p e h q = false≢true (sym h ∙ sym (ap ends e) ∙ ap (accepts start) (sym q.1) ∙ accepted q.0)
