-- Morphological features, row by row.
-- CoNLL-U format page, "Morphological Annotation". This project requires features of ranges too.
use Rattle.tb_fields.specs.Feats.{is_feature_text}
use Rattle.tb_rules.specs.Rows.{RowTest}

-- each row, ranges and empty nodes too
abbrev pub feature_test : RowTest
feature_test before r = is_feature_text r.feats
