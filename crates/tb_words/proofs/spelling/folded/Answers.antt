use denote.Ref.{Bor}
use Rattle.std.proofs.Common.{List, [], ◌∷◌, ap, map, subst, sym, ℕ, ◌≡◌, ◌∙◌}
use Rattle.std.proofs.lemmas.List.{map-append}
use Rattle.std.specs.List.{join_with_byte}
use Rattle.std.specs.Str.Iter.{split_whitespace_rest}
use Rattle.tb_words.proofs.Counted.{words_drained}
use Rattle.tb_words.proofs.Spellings.{one_word_more, words_some}
use Rattle.tb_words.specs.LineFaults.{AreWords}
use Rattle.tb_words.specs.Spelled.{with_word}
use Rattle.tb_words.proofs.spelling.folded.Goals as goal

pub loop-word-preserved : goal.loop-word-preserved
loop-word-preserved c =
    let now : Bor (List ℕ) → List ℕ = λ x. x.now in
    c.in_ok-put_word.ensures ∙ (ap (λ (t : List ℕ). with_word t c.in-Some.word.now) c.loop-word.invariant
    ∙ (one_word_more (map now c.loop-word.yielded) c.in-Some.word.now (words_some c.loop-word.yielded _ _ c.loop-word.yielded_by)
    ∙ ap (λ (ws : List (List ℕ)). join_with_byte 32 ws) (sym (map-append now c.loop-word.yielded (c.in-Some.word ∷ [])))))

pub returns : goal.returns
returns c =
    let words = map (λ (x : Bor (List ℕ)). x.now) c.loop-word.yielded in
    let rest : split_whitespace_rest c.into_iter-word-iterator.result ≡ c.args.text.now = cc in (
      words,
      subst (λ (text : List ℕ). AreWords text words) rest
          (words_drained c.loop-word.yielded _ _ _ c.loop-word.yielded_by (rw c.in-None.is at c.next.ensures.steps)),
      c.loop-word.invariant,
    )
