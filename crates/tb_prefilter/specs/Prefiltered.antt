-- Between crates: no contract of a front door cites a definition of this module.
-- A query made ready for a search, as plain data.
use Rattle.std.specs.Prelude.{ℕ, List, map, refl}
use Rattle.std.specs.Coded.{code_by, coded×, coded_list, coded_ℕ}
use Rattle.std.specs.Global.{Global}
use Rattle.std.specs.List.{All}
use Rattle.std.specs.declared.vec.Vec.{Vec}
use base.Stored.{Coded}
use Rattle.tb_query.specs.Codes.{coded_asked}
use Rattle.tb_query.specs.Search.{Asked}
use Rattle.tb_prefilter.specs.Needed.{IsSubstring}

-- what is asked, and the needles of the prefilter
pub record Prefiltered : Type 0 where
  pub asked : Asked
  pub needles : List (List ℕ)

abbrev pub prefiltered : Asked → List (Vec ℕ Global) → Prefiltered
prefiltered q ns = record { asked = q; needles = map (λ (n : Vec ℕ Global). n.items) ns }

-- every needle is in the text
abbrev pub HasNeedles : Prefiltered → List ℕ → Type 0
HasNeedles s text = All (λ n. IsSubstring n text) s.needles

-- a code, by which a proof tells values apart
abbrev pub coded_prefiltered : Coded Prefiltered
coded_prefiltered =
    code_by (Asked × List (List ℕ)) (coded× coded_asked (coded_list (coded_list coded_ℕ))) (λ s.
    (s.asked, s.needles)) (λ p. record { asked = p.0; needles = p.1 }) (λ _. refl)
