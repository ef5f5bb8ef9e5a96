-- Between crates: no contract of a front door cites a definition of this module.
-- A text that is a feature as far as its first value. Only such a text may want memory.
use Rattle.std.specs.Prelude.{ℕ, List, Bool, ◌&&◌}
use Rattle.std.specs.List.{list_any, before_first, after_first}
use Rattle.tb_fields.specs.Feats.{is_equals, is_comma, is_label, is_name}

abbrev pub begins_as_feature : List ℕ → Bool
begins_as_feature bs = list_any is_equals bs && is_name (before_first is_equals bs) && is_label (before_first is_comma
    (after_first is_equals bs))
