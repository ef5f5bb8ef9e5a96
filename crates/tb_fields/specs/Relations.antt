-- Universal relations and their subtypes.
-- UD v2 guidelines, "Universal Dependency Relations": a relation may have a subtype after a colon.
use Rattle.std.specs.Prelude.{ℕ, List, Bool, ◌&&◌, ◌||◌, not, ◌==◌, bytes_eq, codes}
use Rattle.std.specs.List.{list_any, before_first, after_first}
use Rattle.tb_chars.specs.Spaces.{is_solid}

-- relations of a clause or a phrase to its head: acl to csubj
abbrev pub is_relation_a_to_c : List ℕ → Bool
is_relation_a_to_c bs =
    bytes_eq bs (codes "acl") || bytes_eq bs (codes "advcl") || bytes_eq bs (codes "advmod")
    || bytes_eq bs (codes "amod") ||
    bytes_eq bs (codes "appos") || bytes_eq bs (codes "aux") || bytes_eq bs (codes "case")
    || bytes_eq bs (codes "cc") ||
    bytes_eq bs (codes "ccomp") || bytes_eq bs (codes "clf") || bytes_eq bs (codes "compound")
    || bytes_eq bs (codes "conj") ||
    bytes_eq bs (codes "cop") || bytes_eq bs (codes "csubj")

abbrev pub is_relation_d_to_m : List ℕ → Bool
is_relation_d_to_m bs =
    bytes_eq bs (codes "dep") || bytes_eq bs (codes "det") || bytes_eq bs (codes "discourse")
    || bytes_eq bs (codes "dislocated") ||
    bytes_eq bs (codes "expl") || bytes_eq bs (codes "fixed") || bytes_eq bs (codes "flat")
    || bytes_eq bs (codes "goeswith") ||
    bytes_eq bs (codes "iobj") || bytes_eq bs (codes "list") || bytes_eq bs (codes "mark")

abbrev pub is_relation_n_to_x : List ℕ → Bool
is_relation_n_to_x bs =
    bytes_eq bs (codes "nmod") || bytes_eq bs (codes "nsubj") || bytes_eq bs (codes "nummod")
    || bytes_eq bs (codes "obj") ||
    bytes_eq bs (codes "obl") || bytes_eq bs (codes "orphan") || bytes_eq bs (codes "parataxis")
    || bytes_eq bs (codes "punct") ||
    bytes_eq bs (codes "reparandum") || bytes_eq bs (codes "root") || bytes_eq bs (codes "vocative")
    || bytes_eq bs (codes "xcomp")

-- the 37 universal relations
abbrev pub is_universal_relation : List ℕ → Bool
is_universal_relation bs = is_relation_a_to_c bs || is_relation_d_to_m bs || is_relation_n_to_x bs

abbrev pub is_colon : ℕ → Bool
is_colon b = b == 58

-- the relation without its subtype: the text before the first colon
abbrev pub universal_part : List ℕ → List ℕ
universal_part bs = before_first is_colon bs

-- a universal relation, alone or with a subtype after a colon
abbrev pub is_relation : List ℕ → Bool
is_relation bs = is_universal_relation (universal_part bs) && (not (list_any is_colon bs) || is_solid
    (after_first is_colon bs))
