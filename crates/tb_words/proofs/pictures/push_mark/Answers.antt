use Rattle.std.proofs.Common.{ap, append_assoc, codes, List, replicate, string_bytes, ℕ, ◌++◌, ◌∙◌}
use Rattle.tb_words.proofs.pictures.push_mark.Goals as goal

pub returns : goal.returns
returns c =
    let first = string_bytes c.args.picture.now in
    let spaces = replicate c.args.count 32 in
    c.in_ok-push_str-2.ensures.bytes ∙ (ap (λ (bs : List ℕ). bs ++ codes "^") (c.in_ok-push_spaces.ensures
    ∙ ap (λ (bs : List ℕ). bs ++ spaces) c.in_ok-push_str.ensures.bytes)
    ∙ (append_assoc (first ++ codes "\n    ") spaces (codes "^") ∙ append_assoc first (codes "\n    ") (spaces ++ codes "^")))
